use native.Mathlib.Omega.{arith}
use Rattle.climb.proofs.Nodes.{pick_nothing, pick_low, pick_narrowed, bounds_long}
use Rattle.climb.proofs.waits.pick.Goals as goal

pub returns-then-to-low : goal.returns-then-to-low
returns-then-to-low c = let x = pick_nothing c.args.marks.now c.args.grounds.now c.requires.0 c.requires.2 _ _ _ c.from.ensures c.from-to.ensures c.first-low.ensures (omega (arith, c.if-to-low.true)) in record { narrowed = x.0; picked_is = x.1 }

pub last-high-requires : goal.last-high-requires
last-high-requires c = let x = pick_low c.args.marks.now c.args.grounds.now c.requires.0 c.requires.2 _ _ _ c.from.ensures c.from-to.ensures c.first-low.ensures (omega (arith, c.if-to-low.false)) in (omega (arith, c.if-to-low.false), x.1, c.requires.0.0, x.0)

pub best-requires : goal.best-requires
best-requires c = let x = pick_low c.args.marks.now c.args.grounds.now c.requires.0 c.requires.2 _ _ _ c.from.ensures c.from-to.ensures c.first-low.ensures (omega (arith, c.if-to-low.false)) in (c.last-high.ensures.over, omega (arith, x.1, c.last-high.ensures.up_to), (c.requires.0.0, bounds_long c.args.grounds.now _ _ c.requires.0.1), c.requires.1, x.0)

pub returns : goal.returns
returns c = record { narrowed = pick_narrowed c.args.marks.now c.args.grounds.now c.requires.0 c.requires.2 _ _ _ c.from.ensures c.from-to.ensures c.first-low.ensures _ c.last-high.ensures; picked_is = (c.best.ensures.0, c.best.ensures.1) }
