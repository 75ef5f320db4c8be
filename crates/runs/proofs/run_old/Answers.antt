use Rattle.runs.proofs.Waits.{waits, no_overflow, not_left, old_structures}
use Rattle.runs.proofs.Resumed.{lent_old, still, closed_over, closed_deeper}
use borrow.Author.Tests.{not-true, not-false}
use mathlib.Core.Path.{◌∙◌}
use native.Mathlib.Omega.{arith}
use Rattle.machine.specs.Ends.{number_of}
use Rattle.runs.proofs.run_old.Goals as goal

pub translate-requires : goal.translate-requires
translate-requires c = omega (arith, c.requires.packed.0.whole, c.requires.packed.3, c.requires.packed.0.code_is, old_structures _ _ c.requires.packed.0 c.requires.packed.2)

pub run_from-g-requires : goal.run_from-g-requires
run_from-g-requires c = record { packed = (c.requires.packed.0, c.requires.packed.1); keyed = (lent_old _ c.requires.packed.1 _ c.requires.packed.0.code_is c.requires.packed.2 c.translate.ensures, c.requires.standing.fits) }

pub deeper-requires : goal.deeper-requires
deeper-requires c = record { packed = (c.requires.packed.0, c.requires.packed.1); standing = record { slots = still _ _ _ _ _ _ _ _ _ _ _ c.requires.standing.slots c.run_from-g.ensures; left = omega (arith, c.run_from-g.ensures.left, c.requires.standing.left); fits = (c.run_from-g.ensures.resumes (waits (number_of c.run_from-g.result.stop) _ c.is_over.ensures (not-true _ c.if-not-is_over.true-raw))).fits; empty = c.requires.standing.empty } }

pub returns-then-not-is_over : goal.returns-then-not-is_over
returns-then-not-is_over c = closed_deeper _ _ _ _ _ _ _ _ _ _ _ c.requires.standing.slots c.run_from-g.ensures c.args.cells.now c.args.table.now _ _ _ _ _ _ _ (omega (arith, c.run_from-g.ensures.left, c.requires.standing.left)) (waits (number_of c.run_from-g.result.stop) _ c.is_over.ensures (not-true _ c.if-not-is_over.true-raw)) c.deeper.ensures

pub overflow_sub-allowance : goal.overflow_sub-allowance
overflow_sub-allowance c = omega (arith, c.run_from-g.ensures.left, c.requires.standing.left)

pub close-tally-requires : goal.close-tally-requires
close-tally-requires c = (still _ _ _ _ _ _ _ _ _ _ _ c.requires.standing.slots c.run_from-g.ensures, c.run_from-g.ensures.high)

pub returns : goal.returns
returns c = let z = c.close-tally.ensures (number_of c.run_from-g.result.stop) in closed_over _ _ _ _ _ _ _ _ _ _ _ c.requires.standing.slots c.run_from-g.ensures c.args.cells.now c.args.table.now _ _ _ c.requires.standing.empty (λ i. (c.slice_known-4-1.given i).fits) (λ i. (c.slice_known-5-1.given i).fits) _ _ (omega (arith, c.run_from-g.ensures.left, c.requires.standing.left)) (λ q. absurd (no_overflow (number_of c.run_from-g.result.stop) _ c.is_over.ensures (not-false _ c.if-not-is_over.false-raw) q)) (not_left (number_of c.run_from-g.result.stop) _ c.is_over.ensures (not-false _ c.if-not-is_over.false-raw)) (c.ended.ensures ∙ z.0, z.1)
