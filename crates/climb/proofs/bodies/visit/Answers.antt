use native.Mathlib.Omega.{arith}
use Rattle.climb.proofs.Visiting.{roomy, numbered, stands, done, again}
use Rattle.climb.proofs.bodies.visit.Goals as goal

pub place_of-requires : goal.place_of-requires
place_of-requires c = ((c.requires.ready.0.packed, c.requires.ready.0.readable), numbered _ _ _ _ c.requires.ready.0 _ _ _ _ c.requires.climbing _ c.requires.shown.1)

pub bounds-room-k : goal.bounds-room-k
bounds-room-k c = let r = roomy _ _ _ _ c.requires.ready.0 _ _ _ _ c.requires.climbing _ c.requires.shown.0 _ c.requires.shown.1 in omega (arith, r)

pub bounds-room-k-2 : goal.bounds-room-k-2
bounds-room-k-2 c = let r = roomy _ _ _ _ c.requires.ready.0 _ _ _ _ c.requires.climbing _ c.requires.shown.0 _ c.requires.shown.1 in omega (arith, r)

pub walk-r-requires : goal.walk-r-requires
walk-r-requires c = record { ready = (c.requires.ready.0, c.requires.ready.1); climbing = c.requires.climbing; standing = stands _ _ _ _ c.requires.ready.0 _ _ _ _ c.requires.climbing _ c.requires.shown.0 _ c.requires.shown.1 _ _ _ _ c.place_of.ensures.0 c.from.ensures c.from-ground_level.ensures c.from-2.ensures }

pub offset_bounds-grounds-k-2 : goal.offset_bounds-grounds-k-2
offset_bounds-grounds-k-2 c = omega (arith, c.requires.shown.2)

pub bounds-grounds-k-2 : goal.bounds-grounds-k-2
bounds-grounds-k-2 c = omega (arith, c.walk-r.ensures.climbing.grounded, c.requires.shown.2)

pub bounds-marks-k : goal.bounds-marks-k
bounds-marks-k c = omega (arith, c.walk-r.ensures.climbing.marked, c.requires.shown.2)

pub returns-then-from-ground_level : goal.returns-then-from-ground_level
returns-then-from-ground_level c = done _ _ _ _ c.requires.ready.0 _ _ _ _ c.requires.climbing _ c.requires.shown.1 _ _ c.place_of.ensures.0 c.from-ground_level.ensures _ _ _ _ c.walk-r.ensures _ c.from-3.ensures c.if-from-ground_level.true

pub returns : goal.returns
returns c = again _ _ _ _ c.requires.ready.0 _ _ _ _ c.requires.climbing _ c.requires.shown.1 _ _ c.place_of.ensures.0 c.from-ground_level.ensures _ _ _ _ c.walk-r.ensures _ c.from-3.ensures c.if-from-ground_level.false
