-- NaNs, by their patterns and by the test `x != x`. Assumes nothing.
use Rattle.std.proofs.Common.{◌≡◌, ℕ, ◌+◌, ◌%◌, ◌^◌, ◌<◌, Bool, true, false, not, T, ltb, leb, sym, refl, ap, ◌∙◌, subst, arith, ltb-false, ltb-true, le-leb}
use borrow.Author.Tests.{lt-leb}
use lib.Ieee.{Float, nan, inf, fin, binary64, of_bits, is_nan, ne, nan_bits}
use lib.Ieee.Bits.{nan_bits_is, nan_bits_above}
use lib.Ieee.Compare.{differs_from_itself, nan_differs}

is_nan_lem : (x : Float) → is_nan x ≡ true → x ≡ nan
unfolding is_nan
is_nan_lem nan e = refl
is_nan_lem (inf s) e = absurd (subst T (sym e) tt)
is_nan_lem (fin s m k) e = absurd (subst T (sym e) tt)

not_false : (b : Bool) → not b ≡ false → b ≡ true
not_false true e = refl
not_false false e = sym e

pub nan_pattern : (p : ℕ) → not (nan_bits binary64 p) ≡ false → of_bits binary64 p ≡ nan
nan_pattern p e = is_nan_lem (of_bits binary64 p) (sym (nan_bits_is binary64 p) ∙ not_false (nan_bits binary64 p) e)

-- a pattern doubled is above an infinity's doubled where it is a NaN's
twice : (p : ℕ) → p < 2 ^ 64 → (p + p) % 2 ^ 64 ≡ p % 2 ^ 63 + p % 2 ^ 63
twice p h = omega arith

pub doubled : (p : ℕ) → p < 2 ^ 64 → leb ((p + p) % 2 ^ 64) 0xffe0_0000_0000_0000 ≡ not (nan_bits binary64 p)
doubled p h = rw (nan_bits_above binary64 p, twice p h) (go (ltb 0x7ff0_0000_0000_0000 (p % 2 ^ 63)) refl)
  where
    go : (b : Bool) → ltb 0x7ff0_0000_0000_0000 (p % 2 ^ 63) ≡ b → leb (p % 2 ^ 63 + p % 2 ^ 63) 0xffe0_0000_0000_0000 ≡ not b
    go true e = lt-leb (p % 2 ^ 63 + p % 2 ^ 63) 0xffe0_0000_0000_0000 (let l = ltb-true 0x7ff0_0000_0000_0000 (p % 2 ^ 63) e in omega arith)
    go false e = le-leb (p % 2 ^ 63 + p % 2 ^ 63) 0xffe0_0000_0000_0000 (let l = ltb-false 0x7ff0_0000_0000_0000 (p % 2 ^ 63) e in omega arith)

pub equals_itself : (x : Float) → ne x x ≡ false → T (not (is_nan x))
unfolding is_nan
equals_itself nan e = absurd (subst T (sym nan_differs ∙ e) tt)
equals_itself (inf s) e = tt
equals_itself (fin s m k) e = tt

nan_is : is_nan nan ≡ true
unfolding is_nan
nan_is = refl

not_true : (b : Bool) → T (not b) → b ≡ false
not_true true h = absurd h
not_true false h = refl

-- the test is exact
pub nan_test : (x : Float) → ne x x ≡ is_nan x
nan_test x = go (ne x x) refl
  where
    go : (b : Bool) → ne x x ≡ b → b ≡ is_nan x
    go true e = let q : x ≡ nan = differs_from_itself x (subst T (sym e) tt) in sym (ap is_nan q ∙ nan_is)
    go false e = sym (not_true (is_nan x) (equals_itself x e))
