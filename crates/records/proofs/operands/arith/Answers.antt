-- The proof of `records::operands::arith`.
use mathlib.Core.Path.{refl}
use Rattle.rules.specs.declared.Binary.TheVariants.{Arith}
use Rattle.rules.specs.Operations.{class_of}
use Rattle.records.proofs.OperandLaws.{greatest_takes, two_few, two_differ, two_refused, two_arith}
use Rattle.records.proofs.operands.arith.Goals as goal

pub returns-then-h-lt2 : goal.returns-then-h-lt2
returns-then-h-lt2 c = λ o e. two_few _ _ (c.requires) c.from-h.ensures (Arith o) _ c.if-h-lt2.true

pub returns-then-st-h : goal.returns-then-st-h
returns-then-st-h c = λ o e. two_differ _ _ (c.requires) c.from-h.ensures (Arith o) _ c.if-h-lt2.false (λ e t u. refl) c.if-st-h.true

pub returns-then-most-t : goal.returns-then-most-t
returns-then-most-t c = λ o e. two_refused _ _ (c.requires) c.from-h.ensures (Arith o) _ c.if-h-lt2.false (λ e t u. refl) c.if-st-h.false _ e c.if-most-t.true

pub returns : goal.returns
returns c = λ o e. two_arith _ _ (c.requires) c.from-h.ensures (Arith o) _ c.if-h-lt2.false (λ e t u. refl) c.if-st-h.false (greatest_takes (class_of o) _ _ e c.if-most-t.false) o refl _ c.pop.ensures
