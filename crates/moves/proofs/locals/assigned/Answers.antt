use Rattle.moves.proofs.LocalLaws.{assigned_21, assigned_26, assigned_22, assigned_is}
use Rattle.state.proofs.Families.{payloads_are}
use mathlib.Core.Path.{◌∙◌}
use native.Mathlib.Omega.{arith}
use Rattle.moves.proofs.locals.assigned.Goals as goal

pub returns-then-h-r : goal.returns-then-h-r
returns-then-h-r c = λ f k. assigned_21 _ _ _ _ f k _ c.if-h-r.true

pub returns-then-h-s : goal.returns-then-h-s
returns-then-h-s c = λ f k. assigned_26 _ _ _ _ f k _ c.if-h-r.false c.if-h-s.true

pub returns-then-v-old : goal.returns-then-v-old
returns-then-v-old c = λ f k. assigned_22 _ _ _ _ f k _ c.if-h-r.false _ _ c.slot_at-v.ensures c.if-h-s.false c.slot_at-old.ensures c.if-v-old.true

pub returns : goal.returns
returns c = λ f k. rw c.moved.ensures (assigned_is _ _ _ _ f k _ c.if-h-r.false _ _ c.slot_at-v.ensures c.if-h-s.false c.slot_at-old.ensures _ c.if-v-old.false
    (c.store64.ensures ∙ payloads_are _ _ c.slot_at-v.result) (omega (arith, c.slot_at-v.type_inv)))
