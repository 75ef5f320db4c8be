use mathlib.Core.Path.{◌∙◌}
use Rattle.checker.proofs.Draining.{next_numbered, node_standing, node_fits, node_refused, node_walked, advance_fits}
use native.Mathlib.Omega.{arith}
use Rattle.checker.proofs.bodies.visit.Goals as goal

pub overflow_mul-k : goal.overflow_mul-k
overflow_mul-k g c = let n = node_fits _ _ _ _ _ _ c.requires.working _ c.requires.next.0 in omega (arith, n)

pub load-requires : goal.load-requires
load-requires g c = (node_fits _ _ _ _ _ _ c.requires.working _ c.requires.next.0, c.requires.next.1)

pub place_of-p-requires : goal.place_of-p-requires
place_of-p-requires g c = ((c.requires.working.packed, c.requires.working.readable), omega (arith, next_numbered _ _ _ _ _ _ c.requires.working _ c.requires.next.0, c.requires.working.packed.labels_is))

pub walk-whole-requires : goal.walk-whole-requires
walk-whole-requires g c = record { working = c.requires.working; standing = node_standing _ _ _ _ _ _ c.requires.working _ c.requires.next.0 _ _ c.place_of-p.ensures.0 c.load.ensures; keyed = c.requires.keyed }

pub advance-requires : goal.advance-requires
advance-requires g c = (c.walk-whole.ensures.left.grows.many ∙ c.requires.working.fits.whole, advance_fits _ _ _ _ _ _ c.requires.working _ c.requires.next.0 _ _ _ _ c.place_of-p.ensures.0 c.load.ensures c.walk-whole.ensures.marks_unchanged (rw c.if-whole.true at c.walk-whole.ensures.left))

pub returns-then-whole : goal.returns-then-whole
returns-then-whole g c = rw c.advance.ensures (node_walked _ _ _ _ _ _ c.requires.working _ c.requires.next.0 _ _ _ _ c.place_of-p.ensures.0 c.load.ensures c.walk-whole.ensures.marks_unchanged (rw c.if-whole.true at c.walk-whole.ensures.left))

pub returns : goal.returns
returns g c = node_refused _ _ _ _ _ _ c.requires.working _ c.requires.next.0 _ _ _ _ c.place_of-p.ensures.0 c.load.ensures c.walk-whole.ensures.marks_unchanged (rw c.if-whole.false at c.walk-whole.ensures.left)
