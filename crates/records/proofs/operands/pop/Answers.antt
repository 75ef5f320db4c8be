-- The proof of `records::operands::pop`.
use Rattle.rules.specs.declared.Unary.TheVariants.{Pop}
use mathlib.Core.Path.{refl}
use Rattle.records.proofs.OperandLaws.{one_empty, one_pop}
use Rattle.records.proofs.operands.pop.Goals as goal

pub returns-then-st-lt1 : goal.returns-then-st-lt1
returns-then-st-lt1 c = one_empty _ _ (c.requires) refl Pop _ c.if-st-lt1.true

pub returns : goal.returns
returns c = one_pop _ _ (c.requires) refl Pop _ c.if-st-lt1.false tt refl _ c.pop.ensures
