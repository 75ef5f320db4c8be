-- The proof of `records::operands::compare`.
use Rattle.records.proofs.OperandLaws.{two_few, cmp_apart, cmp_falls}
use Rattle.rules.specs.declared.Binary.TheVariants.{Cmp}
use borrow.Author.Tests.{not-true, not-false}
use mathlib.Core.Path.{refl, sym, ◌∙◌}
use Rattle.records.proofs.operands.compare.Goals as goal

pub returns-then-h-lt2 : goal.returns-then-h-lt2
returns-then-h-lt2 c = λ s m b e. two_few _ _ (c.requires) c.from-h.ensures (Cmp s) _ c.if-h-lt2.true m b

pub returns-then-not-taken : goal.returns-then-not-taken
returns-then-not-taken c = λ s. cmp_apart _ _ (c.requires) c.from-h.ensures (Cmp s) _ c.if-h-lt2.false _ s refl (sym c.alike-taken.ensures ∙ not-true _ c.if-not-taken.true-raw)

pub returns : goal.returns
returns c = λ s. cmp_falls _ _ (c.requires) c.from-h.ensures (Cmp s) _ c.if-h-lt2.false _ s refl (sym c.alike-taken.ensures ∙ not-false _ c.if-not-taken.false-raw) _ _ c.pop.ensures c.retype.ensures
