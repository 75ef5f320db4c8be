use Rattle.moves.proofs.StackLaws.{pushed_full, pushed_top}
use native.Mathlib.Omega.{arith}
use Rattle.moves.proofs.stack.pushed.Goals as goal

pub returns-then-cap-h : goal.returns-then-cap-h
returns-then-cap-h c = λ f k. pushed_full _ _ _ _ f k _ _ (omega (arith, c.if-cap-h.true))

pub returns : goal.returns
returns c = λ f k. rw c.moved.ensures (pushed_top _ _ _ _ f k _ _ _ _ c.put_slot.ensures.0 c.put_slot.ensures.1 (omega (arith, c.well_formed.1.1.1.0)) c.if-cap-h.false)
