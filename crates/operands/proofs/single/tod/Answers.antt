-- `operands::single::tod` meets its contract. Assumes nothing.
use mathlib.Core.Path.{ap, ◌∙◌}
use mathlib.Core.Bool.{false}
use Rattle.rules.specs.declared.Num.TheVariants.{Double as double}
use Rattle.rules.specs.declared.Unary.TheVariants.{Convert}
use Rattle.values.specs.Values.{value_of}
use Rattle.state.proofs.Families.{one_21}
use Rattle.operands.proofs.OperandLaws.{own_type, one_converts}
use Rattle.operands.proofs.single.tod.Goals as goal

pub returns-then-h-r : goal.returns-then-h-r
returns-then-h-r c = λ m cap f k. one_21 cap _ _ _ f k m (Convert false double) c.if-h-r.true

pub returns-then-s-eq6 : goal.returns-then-s-eq6
returns-then-s-eq6 c =
    rw c.moved.ensures (own_type c.requires c.if-h-r.false false double (rw (← c.slot_at-s.ensures) c.if-s-eq6.true))

pub returns : goal.returns
returns c =
    one_converts c.requires c.if-h-r.false false double c.tod_value.result (rw (← c.slot_at-s.ensures) c.if-s-eq6.false)
    (c.value_of-a.ensures ∙ ap value_of c.slot_at-s.ensures) c.tod_value.ensures
    c.replaced.ensures.0 c.replaced.ensures.1
