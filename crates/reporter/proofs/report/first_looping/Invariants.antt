-- The invariants and measures of `reporter::report::first_looping`.
use Rattle.settle.specs.Graph.{mark_of}
use mathlib.Core.Path.{◌≡◌}
use Prim.Native.Nat.{ℕ, ◌<◌}
use Rattle.reporter.proofs.report.first_looping.Given as goal

abbrev pub invariant-loop-b : goal.invariant-loop-b
invariant-loop-b l = (i : ℕ) → i < l.b → mark_of l.marks i ≡ 3 → ⊥
