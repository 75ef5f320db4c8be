-- The proof of `records::pointers::bump`.
use Rattle.records.proofs.PointerLaws.{pointer_empty, pointer_other, bump_falls}
use borrow.Author.Tests.{not-true, not-false}
use mathlib.Core.Path.{sym, ◌∙◌}
use Rattle.records.proofs.pointers.bump.Goals as goal

pub returns-then-h-lt1 : goal.returns-then-h-lt1
returns-then-h-lt1 c = (pointer_empty _ _ (c.requires) c.from-h.ensures _ c.if-h-lt1.true).1

pub returns-then-not-number : goal.returns-then-not-number
returns-then-not-number c = (pointer_other _ _ (c.requires) c.from-h.ensures _ c.if-h-lt1.false (sym c.cell-number.ensures ∙ not-true _ c.if-not-number.true-raw)).1

pub returns : goal.returns
returns c = λ up. bump_falls _ _ (c.requires) c.from-h.ensures _ up c.if-h-lt1.false (sym c.cell-number.ensures ∙ not-false _ c.if-not-number.false-raw) _ c.pop.ensures
