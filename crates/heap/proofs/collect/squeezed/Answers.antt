-- The proof of `heap::collect::squeezed`.
use Rattle.heap.proofs.Collected.{unmade, gives_from, gives_for, room_of_lem, found_of}
use Rattle.heap.proofs.Granted.{new_nowhere}
use Rattle.heap.proofs.Places.{fast_none, fast_some}
use Rattle.heap.proofs.Aimed.{type_low}
use Rattle.heap.specs.Grants.{packed_for}
use Rattle.heap.specs.Blocks.{heap_of}
use native.Mathlib.Omega.{arith}
use Rattle.heap.proofs.collect.squeezed.Goals as goal

pub returns-then-size-top : goal.returns-then-size-top
returns-then-size-top c =
    gives_for (λ b. packed_for b (heap_of c.args.size c.args.k c.args.d.now c.args.p.now c.args.t.now)) c.if-managed.true
    (rw c.null_grant.ensures (gives_from c.pack-q.ensures.0 (new_nowhere _ _ _ _ _ c.pack-q.ensures.0.sane _ _ _ c.requires.le_cells.2 (fast_none _ _ _ _ _ _ c.pack-q.ensures.0.sane c.requires.le_cells.0 c.pack-q.ensures.1 c.if-size-top.true))))

pub grant-requires : goal.grant-requires
grant-requires c =
    (omega (arith, room_of_lem c.pack-q.ensures.0.sane (fast_some _ _ _ _ _ _ c.pack-q.ensures.0.sane c.requires.le_cells.0 c.pack-q.ensures.1 c.if-size-top.false) c.requires.le_cells.0, c.pack-q.ensures.0.sane.room_table), omega (arith, type_low _ _ (rw c.requires.le_cells.2 at c.requires.le_cells.0)))

pub returns-then-managed : goal.returns-then-managed
returns-then-managed c =
    gives_for (λ b. packed_for b (heap_of c.args.size c.args.k c.args.d.now c.args.p.now c.args.t.now)) c.if-managed.true
    (gives_from c.pack-q.ensures.0 (c.grant.ensures _ _ _ c.pack-q.ensures.0.sane (found_of c.requires.le_cells.2 (fast_some _ _ _ _ _ _ c.pack-q.ensures.0.sane c.requires.le_cells.0 c.pack-q.ensures.1 c.if-size-top.false)) (rw c.requires.le_cells.2 at c.requires.le_cells.0)))

pub returns : goal.returns
returns c =
    gives_for (λ b. packed_for b (heap_of c.args.size c.args.k c.args.d.now c.args.p.now c.args.t.now)) c.if-managed.false
    (rw c.null_grant-2.ensures (gives_from (unmade c.requires.sane.0) (new_nowhere _ _ _ _ _ c.requires.sane.0 _ _ _ c.requires.le_cells.2 c.requires.sane.1)))
