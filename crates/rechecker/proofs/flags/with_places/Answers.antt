-- The proof of `rechecker::flags::with_places`.
use native.Mathlib.Omega.{arith}
use Rattle.rechecker.proofs.flags.with_places.Goals as goal

pub fill-requires : goal.fill-requires
fill-requires c = record { readable = (c.requires.lends.packed, c.requires.lends.readable); extent_in_bounds = (c.requires.extent_in_bounds.0, c.requires.extent_in_bounds.1) }

pub with_room-requires : goal.with_room-requires
with_room-requires c = record { lends = c.requires.lends; tabled = (c.fill.ensures, omega (arith, c.if-c-lt9.true)); size = omega arith; keyed = c.requires.keyed }

pub with_room-requires-2 : goal.with_room-requires-2
with_room-requires-2 c = record { lends = c.requires.lends; tabled = (c.fill.ensures, omega (arith, c.requires.lends.packed.few_labels)); size = omega arith; keyed = c.requires.keyed }
