-- The proof of `control::jumps::branch`.
use native.Mathlib.Omega.{arith}
use Rattle.control.proofs.jumps.branch.Goals as goal

pub branched-requires : goal.branched-requires
branched-requires g c = let x = rw c.in-Ok.is at c.tested.ensures in
    (x.0, omega (arith, c.requires.place_in_bounds.1.1.near, c.requires.place_in_bounds.2))

pub returns-in-Ok : goal.returns-in-Ok
returns-in-Ok g c = let x = rw c.in-Ok.is at c.tested.ensures in rw (c.branched.ensures, c.taken.ensures) (x.1 g.T.Test.condition)
