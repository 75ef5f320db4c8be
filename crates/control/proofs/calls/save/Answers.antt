-- The proof of `control::calls::save`.
use native.Mathlib.Omega.{arith}
use mathlib.Core.Path.{refl}
use lib.ListN.{length-set}
use Rattle.control.specs.Control.{saved_in}
use Rattle.control.proofs.calls.save.Goals as goal

pub bounds-f-a-2 : goal.bounds-f-a-2
bounds-f-a-2 c = simp length-set (omega arith)

pub bounds-f-a-3 : goal.bounds-f-a-3
bounds-f-a-3 c = simp length-set (omega arith)

pub returns : goal.returns
unfolding saved_in
returns c = refl
