-- `toi` and `tol` of a double: of an int, or of a long where w holds. Assumes nothing.
use Prim.Native.Nat.{ℕ}
use mathlib.Core.Path.{◌≡◌, refl}
use mathlib.Core.Bool.{Bool, true, false, cond, not, ◌&&◌}
use native.Mathlib.Nat.{mod-eq_of_lt}
use lib.Ieee.{Float}
use Rattle.rules.specs.Doubles.{decode_of, cut_fits, cut_of}
use Rattle.rules.specs.Instructions.{num_kind}
use Rattle.rules.specs.Operations.{low, converted, unfit, apply1, raises}
use Rattle.rules.specs.declared.Num.{Num}
use Rattle.rules.specs.declared.Num.TheVariants.{Int as int, Long as long}
use Rattle.rules.specs.declared.Slot.{Slot}
use Rattle.rules.specs.declared.Unary.TheVariants.{Convert}
use Rattle.soundness.specs.Narrow.{cut_narrow}
use Rattle.values.specs.Values.{gives}

-- the bits of an int, and of a long where w holds
abbrev pub bits : Bool → ℕ
bits w = cond w 64 32

abbrev pub whole : Bool → Num
whole w = cond w long int

module _ (b : Bool) (s : Slot) {x : Float} (k : s.kind ≡ 6) (e : x ≡ decode_of s.payload) where
  pub raised : (w : Bool) → (b && not (cut_fits (bits w) x)) ≡ true → raises 44 ≡ apply1 (Convert b (whole w)) s
  unfolding unfit
  raised true h = rw (k, ← e, h) refl
  raised false h = rw (k, ← e, h) refl

  pub truncated : (w : Bool) → (b && not (cut_fits (bits w) x)) ≡ false → gives (num_kind (whole w)) (cut_of (bits w) x) ≡ apply1 (Convert b (whole w)) s
  unfolding unfit converted
  truncated true h = rw (k, ← e, h) refl
  truncated false h = rw (k, ← e, h) refl

-- an int's pattern has no upper half
pub low_cut : (x : Float) → low (cut_of 32 x) ≡ cut_of 32 x
low_cut x = mod-eq_of_lt (cut_narrow x)

-- what fits is converted as in edition 1
pub kept : (b : Bool) (n : Num) (s : Slot) → unfit n s.kind s.payload ≡ false → apply1 (Convert false n) s ≡ apply1 (Convert b n) s
kept false n s h = refl
kept true n s h = rw h refl
