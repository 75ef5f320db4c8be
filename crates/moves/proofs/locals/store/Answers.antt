use Prim.Native.Nat.{◌-◌}
use Prim.Native.Nat.{◌<◌}
use lib.Seq.{lt-length-set}
use lib.ListN.{length}
use Rattle.state.specs.State.{bound_in}
use Rattle.moves.proofs.LocalLaws.{store_is, store_26, store_16, store_21, store_binds}
use native.Mathlib.Omega.{arith}
use Prim.Native.Nat.{◌+◌}
use Rattle.moves.proofs.locals.store.Goals as goal

pub overflow_cast-s : goal.overflow_cast-s
overflow_cast-s c = omega (arith, c.slice_known-then-n-locals-1.given (c.args.r.frame + 4 + c.operand-n.result))

pub returns-then-n-locals : goal.returns-then-n-locals
returns-then-n-locals c = λ m. rw (← c.operand-n.ensures) (store_is _ _ _ _ _ c.requires.ready m _ c.if-n-locals.true _ _ _ (c.assigned.ensures _ c.requires.ready))

pub returns-then-n-locals-2 : goal.returns-then-n-locals-2
returns-then-n-locals-2 c = λ m. rw (← c.operand-n.ensures) (store_26 _ _ _ _ _ c.requires.ready m _ c.if-n-locals.false c.if-n-locals-2.true)

pub returns-then-n-ge16 : goal.returns-then-n-ge16
returns-then-n-ge16 c = λ m. rw (← c.operand-n.ensures) (store_16 _ _ _ _ _ c.requires.ready m _ c.if-n-locals-2.false c.if-n-ge16.true)

pub returns-then-h-r : goal.returns-then-h-r
returns-then-h-r c = λ m. rw (← c.operand-n.ensures) (store_21 _ _ _ _ _ c.requires.ready m _ c.if-n-locals-2.false c.if-n-ge16.false c.if-h-r.true)

pub bounds-f-a-3 : goal.bounds-f-a-3
bounds-f-a-3 c = let l : c.args.r.frame + 3 < length c.args.f.now = omega (arith, c.requires.ready.words) in
    lt-length-set c.args.f.now (c.args.r.frame + 4 + c.operand-n.result) (c.args.r.height - 1) l

pub returns : goal.returns
unfolding bound_in
returns c = λ m. rw (c.bound.ensures, ← c.operand-n.ensures) (store_binds _ _ _ _ _ c.requires.ready m _ c.if-n-locals-2.false c.if-n-ge16.false c.if-h-r.false)
