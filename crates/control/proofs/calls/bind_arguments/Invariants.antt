-- The invariants and measures of `control::calls::bind_arguments`.
use mathlib.Core.Path.{◌≡◌}
use Rattle.control.specs.Control.{arguments_in}
use Rattle.control.proofs.calls.bind_arguments.Given as goal

abbrev pub invariant-loop-j : goal.invariant-loop-j
invariant-loop-j l = l.f ≡ arguments_in l.initial.f l.a l.base l.j
