-- `values::value_of` meets its contract. Assumes nothing.
use mathlib.Core.Path.{sym, ap, ◌∙◌}
use Rattle.values.proofs.Cases.{int_value, double_value, high_value, low_value}
use Rattle.values.specs.declared.Value.TheVariants.{Int, Double}
use Rattle.values.proofs.value_of.Goals as goal

pub returns-then-s-eq3 : goal.returns-then-s-eq3
returns-then-s-eq3 c = ap Int c.low.ensures ∙ sym (int_value _ c.if-s-eq3.true)

pub returns-then-s-eq6 : goal.returns-then-s-eq6
returns-then-s-eq6 c = ap Double c.decode.ensures ∙ sym (double_value _ c.if-s-eq6.true)

pub returns-then-s-ge7 : goal.returns-then-s-ge7
returns-then-s-ge7 c =
    sym (high_value _ c.if-s-eq3.false c.if-s-eq6.false c.if-s-ge7.true)

pub returns : goal.returns
returns c =
    sym (low_value _ c.if-s-eq3.false c.if-s-eq6.false c.if-s-ge7.false)
