-- The proof of `operands::pointers::find`.
use Rattle.operands.proofs.PointerLaws.{bump_21, bump_31, bump_33}
use Rattle.state.proofs.Families.{kind_at, not_pointer, is_pointer_lem}
use Rattle.values.specs.Values.{value_of}
use Rattle.rules.specs.Instructions.{is_pointer}
use Rattle.rules.specs.declared.Slot.{Slot}
use native.Mathlib.Omega.{arith}
use mathlib.Core.Path.{sym, ap, ◌∙◌}
use Rattle.operands.proofs.pointers.find.Goals as goal

pub returns-then-h-r : goal.returns-then-h-r
returns-then-h-r c = λ u. bump_21 u c.if-h-r.true

pub returns-then-w-lt7 : goal.returns-then-w-lt7
returns-then-w-lt7 c =
    λ u. bump_31 u c.if-h-r.false
    (sym (ap (λ (s : Slot). is_pointer s.kind) c.slot_at-w.ensures) ∙ not_pointer c.if-w-lt7.true)

pub returns-then-h-w : goal.returns-then-h-w
returns-then-h-w c = λ u. bump_33 u

pub returns : goal.returns
returns c =
    record {
      has = c.if-h-r.false;
      pointer = sym (ap (λ (s : Slot). is_pointer s.kind) c.slot_at-w.ensures) ∙ is_pointer_lem (kind_at _ _ _ _ c.requires.kinds (omega (arith, c.if-h-r.false)) c.slot_at-w.ensures) c.if-w-lt7.false;
      slot = ap (λ (s : Slot). s.payload) c.slot_at-w.ensures;
      below = c.if-h-w.false;
      held = c.value_of-a.ensures ∙ ap value_of c.slot_at.ensures;
    }
