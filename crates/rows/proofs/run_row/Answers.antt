use mathlib.Core.Logic.{inr}
use Rattle.soundness.specs.Tests.{false_true}
use mathlib.Core.Path.{refl, sym, ◌∙◌}
use borrow.Author.Tests.{not-true, not-false}
use Rattle.rows.proofs.Runs.{over, onward}
use Rattle.rows.proofs.run_row.Goals as goal

pub returns-then-not-waits : goal.returns-then-not-waits
returns-then-not-waits c = (over c.args.file.now _ _ _ _ _ _ _ _ c.args.cells.now c.args.table.now _ _ _ c.run_from-e.ensures c.requires.fits.2 (sym c.left-waits.ensures ∙ not-true _ c.if-not-waits.true-raw) c.requires.fits.1 (λ i. ((c.slice_known-4-1).given i).fits) (λ i. ((c.slice_known-5-1).given i).fits), λ e. (refl, refl))

pub run_over-g-requires : goal.run_over-g-requires
run_over-g-requires c = record { packed = c.requires.packed; fits = ((c.run_from-e.ensures.resumes (inr (sym c.left-waits.ensures ∙ not-false _ c.if-not-waits.false-raw))).fits, c.requires.fits.1, c.run_from-e.ensures.same_words ∙ c.requires.fits.2) }

pub returns : goal.returns
returns c = (onward c.args.file.now _ _ _ _ _ _ _ _ _ _ _ _ _ c.run_from-e.ensures (sym c.left-waits.ensures ∙ not-false _ c.if-not-waits.false-raw) _ _ _ _ _ c.run_over-g.ensures, λ e. false_true (sym e))
