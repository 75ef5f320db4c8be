-- The proof of `records::operands::swap`.
use Rattle.rules.specs.declared.Binary.TheVariants.{Swap}
use mathlib.Core.Path.{refl}
use Rattle.records.proofs.OperandLaws.{two_few, two_differ, two_swap}
use Rattle.records.proofs.operands.swap.Goals as goal

pub returns-then-h-lt2 : goal.returns-then-h-lt2
returns-then-h-lt2 c = two_few _ _ (c.requires) c.from-h.ensures Swap _ c.if-h-lt2.true

pub returns-then-st-h : goal.returns-then-st-h
returns-then-st-h c = two_differ _ _ (c.requires) c.from-h.ensures Swap _ c.if-h-lt2.false (λ e t u. refl) c.if-st-h.true

pub returns : goal.returns
returns c = two_swap _ _ (c.requires) c.from-h.ensures Swap _ c.if-h-lt2.false (λ e t u. refl) c.if-st-h.false tt refl
