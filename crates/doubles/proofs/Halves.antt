-- A long of two halves, each a double exactly: only the sum rounds. Assumes nothing.
use Rattle.std.proofs.Common.{◌≡◌, ℕ, ◌+◌, ◌*◌, ◌/◌, ◌%◌, ◌^◌, ◌<◌, true, false, pos, sym, ap, ◌∙◌, true≢false, lt_trans, lt_of_lt_of_le, le_of_lt, mul_assoc, mul_comm, add-mul, mul-pos, one-mul, div-add-mod', mul-one, arith, lit<, lit≤, pow_mono, pow-add, shl_lt}
use lib.Ieee.{Float, nan, inf, fin, binary64, up, down, round, add, mul, of_int, of_bits}
use lib.Ieee.Exact.{HasValue, round_exact}
use lib.Ieee.Back.{round_whole}
use lib.Ieee.Scale.{round_same}
use lib.Ieee.Fits.{down_pos}

-- a float of the value a, times 2 ^ 32
times : (x : Float) (a : ℕ) → HasValue x false a 1
    → mul binary64 x (fin false 1 (pos 32)) ≡ round binary64 false (a * 2 ^ 32) 1
unfolding mul
times nan a h = absurd h
times (inf s) a h = absurd h
times (fin true m e) a h = absurd (true≢false h.0)
times (fin false m e) a h =
    let g : m * up e ≡ a * down e = sym (mul-one _) ∙ h.1 in
    round_same binary64 false (m * up e * (1 * 2 ^ 32)) (down e * 1) (a * 2 ^ 32) 1 (mul-pos (down_pos e) (lit< tt)) (lit< tt)
    (rw g (simp (mul-one, one-mul, mul_assoc, mul_comm)))

-- the sum of floats of the values a and b
plus : (x y : Float) (a b : ℕ) → HasValue x false a 1 → HasValue y false b 1
    → add binary64 x y ≡ round binary64 false (a + b) 1
unfolding add
plus nan y a b h k = absurd h
plus (inf s) y a b h k = absurd h
plus (fin s m e) nan a b h k = absurd k
plus (fin s m e) (inf t) a b h k = absurd k
plus (fin true m e) (fin t n d) a b h k = absurd (true≢false h.0)
plus (fin false m e) (fin true n d) a b h k = absurd (true≢false k.0)
plus (fin false m e) (fin false n d) a b h k =
    let g : m * up e ≡ a * down e = sym (mul-one _) ∙ h.1 in
    let l : n * up d ≡ b * down d = sym (mul-one _) ∙ k.1 in
    round_same binary64 false (m * up e * down d + n * up d * down e) (down e * down d) (a + b) 1
    (mul-pos (down_pos e) (down_pos d)) (lit< tt) (rw (g, l) (simp (mul-one, add-mul, mul_assoc, mul_comm)))

-- a number of 32 bits, times 2 ^ 32, is a double exactly
scaled : (a : ℕ) → a < 2 ^ 32 → HasValue (round binary64 false (a * 2 ^ 32) 1) false (a * 2 ^ 32) 1
scaled a h =
    let l = lt_of_lt_of_le (shl_lt 32 (32 + 1074) h) (pow_mono {i = 32 + (32 + 1074)} {j = 1074 + 1024} (lit≤ tt)) in
    round_exact binary64 false (a * 2 ^ 32) 1 a (32 + 1074) (lit< tt) (lt_trans h (lit< tt)) l
    (mul_assoc a (2 ^ 32) (2 ^ 1074) ∙ ap (λ (x : ℕ). a * x) (sym (pow-add 2 32 1074)) ∙ sym (mul-one _))

pub halves : (n : ℕ) → n < 2 ^ 64
    → add binary64
    (mul binary64 (of_int binary64 (pos (n / 2 ^ 32))) (of_bits binary64 0x41f0_0000_0000_0000))
    (of_int binary64 (pos (n % 2 ^ 32)))
    ≡ of_int binary64 (pos n)
unfolding of_int of_bits
halves n h =
    let u : n / 2 ^ 32 < 2 ^ 32 = omega arith in
    let l : n % 2 ^ 32 < 2 ^ 32 = omega arith in
    let v = round_whole binary64 false (n / 2 ^ 32) (le_of_lt (lt_trans u (lit< tt))) in
    let w = round_whole binary64 false (n % 2 ^ 32) (le_of_lt (lt_trans l (lit< tt))) in
    rw (times (round binary64 false (n / 2 ^ 32) 1) (n / 2 ^ 32) v)
    (plus _ _ (n / 2 ^ 32 * 2 ^ 32) (n % 2 ^ 32) (scaled _ u) w
    ∙ ap (λ (x : ℕ). round binary64 false x 1) (div-add-mod' n (2 ^ 32)))
