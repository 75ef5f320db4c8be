-- The proof of `records::pointers::tstore`.
use Rattle.records.proofs.PointerLaws.{tstore_few, tstore_pointer, tstore_differs, tstore_falls}
use borrow.Author.Tests.{not-true, not-false}
use mathlib.Core.Path.{sym, ◌∙◌}
use Rattle.records.proofs.pointers.tstore.Goals as goal

pub returns-then-h-lt2 : goal.returns-then-h-lt2
returns-then-h-lt2 c = tstore_few _ _ (c.requires) c.from-h.ensures _ c.if-h-lt2.true

pub returns-then-t-gt6 : goal.returns-then-t-gt6
returns-then-t-gt6 c = tstore_pointer _ _ (c.requires) c.from-h.ensures _ c.if-h-lt2.false c.if-t-gt6.true

pub returns-then-not-fits : goal.returns-then-not-fits
returns-then-not-fits c = tstore_differs _ _ (c.requires) c.from-h.ensures _ c.if-h-lt2.false c.if-t-gt6.false (sym c.holder-fits.ensures ∙ not-true _ c.if-not-fits.true-raw)

pub returns : goal.returns
returns c = tstore_falls _ _ (c.requires) c.from-h.ensures _ c.if-h-lt2.false c.if-t-gt6.false (sym c.holder-fits.ensures ∙ not-false _ c.if-not-fits.false-raw) _ _ c.pop.ensures c.pop-2.ensures
