use Rattle.moves.proofs.StackLaws.{swap_22, swap_is}
use Rattle.state.proofs.Families.{two_21, payloads_are}
use mathlib.Core.Path.{◌∙◌}
use native.Mathlib.Omega.{arith}
use Rattle.moves.proofs.stack.swap.Goals as goal

pub returns-then-h-r : goal.returns-then-h-r
returns-then-h-r c = λ m f k. two_21 _ _ _ _ f k m _ c.if-h-r.true

pub returns-then-a-b : goal.returns-then-a-b
returns-then-a-b c = λ m f k. swap_22 _ _ _ _ f k m _ _ c.if-h-r.false c.slot_at-a.ensures c.slot_at-b.ensures c.if-a-b.true

pub returns : goal.returns
returns c = λ m f k. rw c.moved.ensures (swap_is _ _ _ _ f k m _ _ c.if-h-r.false c.slot_at-a.ensures c.slot_at-b.ensures _ _ c.if-a-b.false
    (omega (arith, c.slot_at-a.type_inv)) (omega (arith, c.slot_at-b.type_inv)) (c.store64.ensures ∙ payloads_are _ _ c.slot_at-b.result) (c.store64-2.ensures ∙ payloads_are _ _ c.slot_at-a.result))
