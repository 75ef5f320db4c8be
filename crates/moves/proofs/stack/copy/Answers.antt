use Rattle.moves.proofs.StackLaws.{copy_is}
use Rattle.state.proofs.Families.{one_21}
use Rattle.moves.proofs.stack.copy.Goals as goal

pub returns-then-h-r : goal.returns-then-h-r
returns-then-h-r c = λ m f k. one_21 _ _ _ _ f k m _ c.if-h-r.true

pub returns : goal.returns
returns c = λ m f k. copy_is _ _ _ _ f k m c.if-h-r.false _ c.slot_at-v.ensures _ _ _ (c.pushed.ensures f k)
