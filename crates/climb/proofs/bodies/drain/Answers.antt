use mathlib.Core.Path.{sym, ◌∙◌}
use Rattle.tracks.specs.Visits.{drained_start, drained_bounds, drained_visit}
use Rattle.climb.proofs.Visiting.{roomy}
use Rattle.climb.proofs.bodies.drain.Goals as goal

pub loop-k-init : goal.loop-k-init
loop-k-init c = drained_start _ _ _ _ _ _ _ c.requires.climbing

pub pick-requires : goal.pick-requires
pick-requires c = ((c.loop-k.invariant.climbing.marked, c.loop-k.invariant.climbing.grounded), roomy _ _ _ _ c.requires.ready.0 _ _ _ _ c.loop-k.invariant.climbing _ c.requires.shown, (c.loop-k.invariant.climbing.between, c.loop-k.invariant.climbing.top))

pub shape_of-row-in_default : goal.shape_of-row-in_default
shape_of-row-in_default c = c.loop-k.invariant.climbing.wide ∙ sym c.requires.climbing.wide

pub shape_of-marks-in_default : goal.shape_of-marks-in_default
shape_of-marks-in_default c = c.loop-k.invariant.climbing.marked ∙ sym c.requires.climbing.marked

pub shape_of-grounds-in_default : goal.shape_of-grounds-in_default
shape_of-grounds-in_default c = c.pick.ensures.narrowed.long ∙ c.loop-k.invariant.climbing.grounded ∙ sym c.requires.climbing.grounded

pub returns-in_default : goal.returns-in_default
returns-in_default c = record { drained = drained_bounds _ _ _ _ _ _ _ _ _ _ _ c.loop-k.invariant _ c.pick.ensures.narrowed.long c.pick.ensures.narrowed.kept c.pick.ensures.narrowed.bounded; quiet = c.in_default.ensures.picked_is }

pub key-last-requires : goal.key-last-requires
key-last-requires c = let p = c.in-Some.ensures.picked_is in (p.1, roomy _ _ _ _ c.requires.ready.0 _ _ _ _ c.loop-k.invariant.climbing _ c.requires.shown _ p.0, c.pick.ensures.narrowed.long ∙ c.loop-k.invariant.climbing.grounded)

pub visit-most-requires : goal.visit-most-requires
visit-most-requires c = let p = c.in-Some.ensures.picked_is in let d = drained_bounds _ _ _ _ _ _ _ _ _ _ _ c.loop-k.invariant _ c.pick.ensures.narrowed.long c.pick.ensures.narrowed.kept c.pick.ensures.narrowed.bounded in record { ready = (c.requires.ready.0, c.requires.ready.1); climbing = d.climbing; shown = (c.requires.shown, p.0, p.1) }

pub loop-k-smaller : goal.loop-k-smaller
loop-k-smaller c = (drained_visit _ _ _ _ _ _ _ _ _ _ _ c.loop-k.invariant _ c.pick.ensures.narrowed.long c.pick.ensures.narrowed.kept c.pick.ensures.narrowed.bounded _ _ _ _ c.visit-most.ensures).1

pub loop-k-preserved : goal.loop-k-preserved
loop-k-preserved c = (drained_visit _ _ _ _ _ _ _ _ _ _ _ c.loop-k.invariant _ c.pick.ensures.narrowed.long c.pick.ensures.narrowed.kept c.pick.ensures.narrowed.bounded _ _ _ _ c.visit-most.ensures).0
