-- The proof of `records::operands::convert`.
use mathlib.Core.Path.{refl}
use Rattle.rules.specs.declared.Unary.TheVariants.{Convert}
use Rattle.records.proofs.OperandLaws.{one_empty, one_refused, one_convert}
use Rattle.records.proofs.operands.convert.Goals as goal

pub returns-then-h-lt1 : goal.returns-then-h-lt1
returns-then-h-lt1 c = λ b τ e. one_empty _ _ c.requires.0 c.from-h.ensures (Convert b τ) _ c.if-h-lt1.true

pub returns-then-st-h-gt-DOUBLE : goal.returns-then-st-h-gt-DOUBLE
returns-then-st-h-gt-DOUBLE c = λ b τ e. one_refused _ _ c.requires.0 c.from-h.ensures (Convert b τ) _ c.if-h-lt1.false _ refl c.if-st-h-gt-DOUBLE.true

pub returns : goal.returns
returns c = λ b τ e. one_convert _ _ c.requires.0 c.from-h.ensures (Convert b τ) _ c.if-h-lt1.false c.if-st-h-gt-DOUBLE.false b τ _ refl e _ c.retype.ensures
