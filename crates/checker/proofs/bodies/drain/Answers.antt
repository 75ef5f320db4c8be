use Rattle.checker.proofs.Draining.{drain_first, draining_works, first_fits, next_is, drained, drain_on, drain_less, drain_stops}
use borrow.Author.Tests.{not-true, not-false}
use borrow.Author.Rules.{rules}
use mathlib.Core.Path.{refl, ◌∙◌, sym}
use Rattle.checker.proofs.bodies.drain.Goals as goal

pub loop-k-init : goal.loop-k-init
loop-k-init g c = (drain_first _ _ _ _ _ _ c.requires.working, refl)

pub first-requires : goal.first-requires
first-requires g c = first_fits _ _ _ _ _ _ c.requires.working _ _ c.loop-k.invariant.0

pub shape_of-room-in_default : goal.shape_of-room-in_default
shape_of-room-in_default g c = c.loop-k.invariant.0.grows.long

pub shape_of-marks-in_default : goal.shape_of-marks-in_default
shape_of-marks-in_default g c = c.loop-k.invariant.0.grows.many

pub shape_of-st-in_default : goal.shape_of-st-in_default
shape_of-st-in_default g c = c.loop-k.invariant.1

pub returns-in_default : goal.returns-in_default
returns-in_default g c = drained _ _ _ _ _ _ c.requires.working _ _ c.loop-k.invariant.0 (sym c.first.ensures ∙ c.in_default.is)

pub visit-whole-requires : goal.visit-whole-requires
visit-whole-requires g c = record { working = draining_works _ _ _ _ _ _ c.requires.working _ _ c.loop-k.invariant.0; next = (next_is _ _ _ _ _ _ c.requires.working _ _ c.loop-k.invariant.0 _ (sym c.first.ensures ∙ c.in-Some.is), c.loop-k.invariant.1 ∙ c.requires.st_len); keyed = c.requires.keyed }

pub shape_of-room-then-not-whole : goal.shape_of-room-then-not-whole
shape_of-room-then-not-whole g c = c.visit-whole.ensures.grows.long ∙ c.loop-k.invariant.0.grows.long

pub shape_of-marks-then-not-whole : goal.shape_of-marks-then-not-whole
shape_of-marks-then-not-whole g c = c.visit-whole.ensures.grows.many ∙ c.loop-k.invariant.0.grows.many

pub returns-then-not-whole : goal.returns-then-not-whole
returns-then-not-whole g c = drain_stops _ _ _ _ _ _ c.requires.working _ _ c.loop-k.invariant.0 _ (sym c.first.ensures ∙ c.in-Some.is) _ _ (rw (not-true c.visit-whole.result c.if-not-whole.true-raw) at c.visit-whole.ensures)

pub loop-k-smaller : goal.loop-k-smaller
loop-k-smaller g c = drain_less _ _ _ _ _ _ c.requires.working _ _ c.loop-k.invariant.0 _ (sym c.first.ensures ∙ c.in-Some.is) _ _ (rw (not-false c.visit-whole.result c.if-not-whole.false-raw) at c.visit-whole.ensures)

pub loop-k-preserved : goal.loop-k-preserved
loop-k-preserved g c = (drain_on _ _ _ _ _ _ c.requires.working _ _ c.loop-k.invariant.0 _ (sym c.first.ensures ∙ c.in-Some.is) _ _ (rw (not-false c.visit-whole.result c.if-not-whole.false-raw) at c.visit-whole.ensures), search rules)
