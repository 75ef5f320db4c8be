-- `operands::single::toi` meets its contract. Assumes nothing.
use mathlib.Core.Path.{ap, ◌∙◌}
use Rattle.rules.specs.declared.Num.TheVariants.{Int as int}
use Rattle.rules.specs.declared.Unary.TheVariants.{Convert}
use Rattle.values.specs.Values.{value_of}
use Rattle.state.proofs.Families.{one_21}
use Rattle.operands.proofs.OperandLaws.{own_type, one_converts}
use Rattle.operands.proofs.single.toi.Goals as goal

pub returns-then-h-r : goal.returns-then-h-r
returns-then-h-r c = λ m cap f k. one_21 cap _ _ _ f k m (Convert _ int) c.if-h-r.true

pub returns-then-s-eq3 : goal.returns-then-s-eq3
returns-then-s-eq3 c =
    rw c.moved.ensures (own_type c.requires c.if-h-r.false _ int (rw (← c.slot_at-s.ensures) c.if-s-eq3.true))

pub returns : goal.returns
returns c =
    one_converts c.requires c.if-h-r.false _ int c.toi_value.result (rw (← c.slot_at-s.ensures) c.if-s-eq3.false)
    (c.value_of-a.ensures ∙ ap value_of c.slot_at-s.ensures) c.toi_value.ensures
    c.replaced.ensures.0 c.replaced.ensures.1
