-- The invariant of `formula::tokens::past_zeros`.
use Rattle.rules.specs.Reading.{digits}
use lib.ListN.{length, drop}
use Prim.Native.Nat.{◌≤◌}
use mathlib.Core.Path.{◌≡◌}
use Rattle.formula.proofs.tokens.past_zeros.Given as goal

abbrev pub invariant-loop-i : goal.invariant-loop-i
invariant-loop-i l = (l.«at» ≤ l.i) × (l.i ≤ length l.s) × (digits l.first (drop l.«at» l.s) ≡ digits l.first (drop l.i l.s))
