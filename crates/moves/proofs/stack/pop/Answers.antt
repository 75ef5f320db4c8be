use Rattle.moves.proofs.StackLaws.{pop_is}
use Rattle.state.proofs.Families.{one_21}
use native.Mathlib.Omega.{arith}
use Rattle.moves.proofs.stack.pop.Goals as goal

pub returns-then-h-r : goal.returns-then-h-r
returns-then-h-r c = λ m cap p t f k. one_21 cap _ p t f k m _ (omega (arith, c.if-h-r.true))

pub returns : goal.returns
returns c = λ m cap p t f k. rw c.moved.ensures (pop_is cap _ p t f k m (omega (arith, c.if-h-r.false)))
