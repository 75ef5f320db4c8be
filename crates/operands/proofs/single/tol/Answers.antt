-- `operands::single::tol` meets its contract. Assumes nothing.
use mathlib.Core.Path.{ap, ◌∙◌}
use Rattle.rules.specs.declared.Num.TheVariants.{Long as long}
use Rattle.rules.specs.declared.Unary.TheVariants.{Convert}
use Rattle.values.specs.Values.{value_of}
use Rattle.state.proofs.Families.{one_21}
use Rattle.operands.proofs.OperandLaws.{one_turns}
use Rattle.operands.proofs.single.tol.Goals as goal

pub returns-then-h-r : goal.returns-then-h-r
returns-then-h-r c = λ m cap f k. one_21 cap _ _ _ f k m (Convert _ long) c.if-h-r.true

pub returns : goal.returns
returns c =
    one_turns c.requires c.if-h-r.false (Convert _ long) c.tol_value.result
    (c.value_of-a.ensures ∙ ap value_of c.slot_at-s.ensures) c.tol_value.ensures
    c.replaced.ensures.0 c.replaced.ensures.1
