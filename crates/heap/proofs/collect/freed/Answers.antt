-- The proof of `heap::collect::freed`.
use Rattle.heap.proofs.Collected.{unmade, makes_for}
use Rattle.heap.specs.Grants.{swept_for}
use Rattle.heap.specs.Blocks.{heap_of}
use Rattle.rules.specs.Stack.{slots_of}
use Rattle.heap.proofs.collect.freed.Goals as goal

pub returns-then-managed : goal.returns-then-managed
returns-then-managed c =
    makes_for (λ b. swept_for b (slots_of c.args.sp.now c.args.st.now c.args.h) (heap_of c.args.size c.args.k c.args.d.now c.args.p.now c.args.t.now)) c.if-managed.true c.sweep.ensures

pub returns : goal.returns
returns c =
    makes_for (λ b. swept_for b (slots_of c.args.sp.now c.args.st.now c.args.h) (heap_of c.args.size c.args.k c.args.d.now c.args.p.now c.args.t.now)) c.if-managed.false (unmade c.requires.0)
