-- The invariants and measures of `formula::tokens::skip`.
use Rattle.rules.specs.Reading.{skip}
use lib.ListN.{length, drop}
use Prim.Native.Nat.{◌≤◌, ◌-◌}
use mathlib.Core.Path.{◌≡◌}
use Rattle.formula.proofs.tokens.skip.Given as goal

abbrev pub invariant-loop-i : goal.invariant-loop-i
invariant-loop-i l = (l.«at» ≤ l.i) × (l.i ≤ length l.s) × (skip (drop l.i l.s) ≡ skip (drop l.«at» l.s))

abbrev pub decreases-loop-i : goal.decreases-loop-i
decreases-loop-i l = length l.s - l.i
