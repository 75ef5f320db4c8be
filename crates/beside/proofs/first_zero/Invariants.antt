-- The invariants and measures of `beside::first_zero`.
use Rattle.beside.proofs.Laws.{bodies_from}
use Rattle.rules.specs.Recording.{first_zero}
use Rattle.rules.specs.Check.{bodies as bodyList}
use Prim.Native.Nat.{◌-◌}
use mathlib.Core.Path.{◌≡◌}
use Rattle.beside.proofs.first_zero.Given as goal

abbrev pub invariant-loop-i : goal.invariant-loop-i
invariant-loop-i l = first_zero l.beside (bodyList (l.bodies - 1)) ≡ first_zero l.beside (bodies_from l.i (l.bodies - l.i))
