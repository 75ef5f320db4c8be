-- The proof of `records::operands::copy`.
use native.Mathlib.Omega.{arith}
use Rattle.rules.specs.declared.Unary.TheVariants.{Copy}
use mathlib.Core.Path.{refl}
use Rattle.records.specs.Laws.{top_type}
use Rattle.records.proofs.OperandLaws.{one_empty, one_full, one_copy}
use Rattle.records.proofs.operands.copy.Goals as goal

pub returns-then-h-lt1 : goal.returns-then-h-lt1
returns-then-h-lt1 c = one_empty _ _ (c.requires) c.from-h.ensures Copy _ c.if-h-lt1.true

pub returns-then-h-gt31 : goal.returns-then-h-gt31
returns-then-h-gt31 c = one_full _ _ (c.requires) c.from-h.ensures Copy _ c.if-h-lt1.false tt refl c.if-h-gt31.true

pub push-requires : goal.push-requires
push-requires c = (c.requires, omega (arith, c.from-h.ensures, c.if-h-gt31.false), top_type _ _ c.from-h.ensures (c.requires) c.if-h-lt1.false)

pub returns : goal.returns
returns c = one_copy _ _ (c.requires) c.from-h.ensures Copy _ c.if-h-lt1.false tt refl _ c.push.ensures
