-- What a double is cut to.
use Rattle.std.specs.Prelude.{ℕ, ◌-◌, ◌^◌, ◌≡◌, true, false, Some, None}
use Rattle.std.specs.declared.option.Option.{Option}
use Rattle.std.specs.Float.Ieee.{Float}
use Rattle.rules.specs.Doubles.{cut_fits, cut_of}

-- the word of n bits with the number `value`, where the whole number is in range; else the rules give the pattern with only the top bit
abbrev pub Truncates : {W : Type 0} → (W → ℕ) → ℕ → Float → Option W → Type 0
Truncates value n x (Some w) = (true ≡ cut_fits n x) × (value w ≡ cut_of n x)
Truncates value n x None = (false ≡ cut_fits n x) × (2 ^ (n - 1) ≡ cut_of n x)
