-- The invariants and measures of `formula::tokens::skip_minuses`.
use Rattle.formula.specs.Tokens.{negatives}
use Rattle.rules.specs.Reading.{factor}
use lib.ListN.{length, drop}
use mathlib.Core.Path.{◌≡◌}
use Prim.Native.Nat.{ℕ, ◌+◌, ◌≤◌, ◌-◌}
use Rattle.formula.proofs.tokens.skip_minuses.Given as goal

abbrev pub invariant-loop-i : goal.invariant-loop-i
invariant-loop-i l = (l.«at» + l.n ≤ l.i) × (l.i ≤ length l.s) × ((f : ℕ) → factor (l.n + f) (drop l.«at» l.s) ≡ negatives l.n (factor f (drop l.i l.s)))

abbrev pub decreases-loop-i : goal.decreases-loop-i
decreases-loop-i l = length l.s - l.i
