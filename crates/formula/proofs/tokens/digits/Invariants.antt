-- The invariant of `formula::tokens::digits`.
use Rattle.formula.specs.Tokens.{Capped}
use Rattle.rules.specs.Reading.{digits}
use lib.ListN.{length, drop}
use Prim.Native.Nat.{ℕ, ◌≤◌}
use mathlib.Core.Path.{◌≡◌}
use Rattle.formula.proofs.tokens.digits.Given as goal

abbrev pub invariant-loop-i : goal.invariant-loop-i
invariant-loop-i l = (n : ℕ) × (l.«at» ≤ l.i) × (l.i ≤ length l.s) × Capped l.value n × (digits l.first (drop l.«at» l.s) ≡ digits n (drop l.i l.s))
