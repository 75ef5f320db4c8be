-- A double cut toward zero, by the tests that the code makes: each law once over the width n. Assumes nothing.
use Rattle.std.proofs.Common.{◌≡◌, ℕ, zero, suc, ◌+◌, ◌-◌, ◌*◌, ◌/◌, ◌%◌, ◌^◌, ◌<◌, ◌≤◌, min, Bool, true, false, T, ltb, leb, ℤ, pos, neg_ℤ, sym, refl, ◌∙◌, subst, le_trans, lt_of_lt_of_le, mod-eq_of_lt, div-lt_iff_lt-mul, le-div_iff_mul-le, mul-one, arith, pow_pos, pow_mono, ltb-false, ltb-true, le-ltb, lt-ltb, le-leb}
use native.Mathlib.Nat.{sub-zero, mod_self, div-eq_of_lt}
use lib.Pow.{pow-lt}
use lib.Ieee.{Float, nan, inf, fin, up, down, lt, neg, to_unsigned}
use lib.Ieee.Fits.{down_pos}
use borrow.Author.Tests.{lt-leb}
use Rattle.rules.specs.Words.{pattern_of, neg_of}
use Rattle.rules.specs.Doubles.{truncated, in_range, cut_fits, cut_of}
use Rattle.words.proofs.Laws.{twice}

-- -1 and 2 ^ 64
abbrev pub lowest : Float
lowest = fin true 1 (pos 0)

abbrev pub limit : Float
limit = fin false 1 (pos 64)

clash {ℓ} : {X : Type ℓ} {b : Bool} → b ≡ true → b ≡ false → X
clash e f = absurd (subst T (sym e ∙ f) tt)

-- a magnitude below 2 ^ 64, and one that is not, cut
under : (a d : ℕ) → 0 < d → a * 1 < 2 ^ 64 * d → a / d < 2 ^ 64
under a d p h = (div-lt_iff_lt-mul p).1 (rw mul-one at h)

over : (a d : ℕ) → 0 < d → 2 ^ 64 * d ≤ a * 1 → 2 ^ 64 ≤ a / d
over a d p h = (le-div_iff_mul-le p).1 (rw mul-one at h)

capped : (t : ℕ) → t < 2 ^ 64 → min t (2 ^ 64 - 1) ≡ t
capped t h = omega arith

-- zero is below 1 plus a magnitude: -1 is below a number that is not negative
above : (m : ℕ) (k : ℤ) → ltb 0 (1 * 1 * down k + m * up k * 1) ≡ true
above m k = lt-ltb 0 (1 * 1 * down k + m * up k * 1) (let q = down_pos k in omega arith)

pub minus_asks : (x : Float) → lt lowest x ≡ false → lt (neg x) limit ≡ true → T (lt lowest (neg x))
unfolding lt neg
minus_asks nan e f = clash f refl
minus_asks (inf true) e f = clash f refl
minus_asks (inf false) e f = clash refl e
minus_asks (fin true m k) e f = rw (above m k) tt
minus_asks (fin false m k) e f = clash (above m k) e

-- ---- -t: its range and its pattern

pub half_lt : (n : ℕ) → 0 < n → 2 ^ (n - 1) < 2 ^ n
half_lt n p = pow-lt (let h : n - 1 < n = omega arith in h)

range_minus : (n t : ℕ) → in_range n (neg_ℤ (pos t)) ≡ leb t (2 ^ (n - 1))
unfolding in_range
range_minus n zero = lt-ltb 0 (2 ^ n) (pow_pos n) ∙ sym (le-leb 0 (2 ^ (n - 1)) (omega arith))
range_minus n (suc j) = refl

pattern_minus : (n t : ℕ) → 0 < n → t ≤ 2 ^ (n - 1) → pattern_of n (neg_ℤ (pos t)) ≡ neg_of n t
unfolding pattern_of
pattern_minus n zero p h = rw (sub-zero, mod_self, mod-eq_of_lt (pow_pos n)) refl
pattern_minus n (suc j) p h =
    let l = half_lt n p in
    let q : j % 2 ^ n ≡ j = mod-eq_of_lt (omega arith) in
    rw q (sym (mod-eq_of_lt (omega arith)))

-- ---- the whole number that a double is cut to, by the tests

-- it is z
abbrev pub Whole : ℕ → Float → ℤ → Type 0
Whole n x z = (truncated x ≡ z) × (cut_fits n x ≡ in_range n z)

-- x above -1 and below 2 ^ 64
pub plus_in : (n : ℕ) (x : Float) → lt lowest x ≡ true → lt x limit ≡ true → Whole n x (pos (to_unsigned 64 x))
unfolding lt truncated cut_fits to_unsigned
plus_in n nan e f = clash f refl
plus_in n (inf true) e f = clash e refl
plus_in n (inf false) e f = clash f refl
plus_in n (fin false m k) e f =
    rw (capped (m * up k / down k) (under (m * up k) (down k) (down_pos k) (ltb-true _ _ f))) (refl, refl)
plus_in n (fin true m k) e f =
    let h : m * up k * 1 < 1 * 1 * down k = ltb-true _ _ e in
    let z : m * up k / down k ≡ 0 = div-eq_of_lt (omega arith) in
    rw z (refl, refl)

pub plus_out : (n : ℕ) (x : Float) → n ≤ 64 → lt lowest x ≡ true → lt x limit ≡ false → cut_fits n x ≡ false
unfolding lt truncated cut_fits in_range
plus_out n nan l e f = refl
plus_out n (inf s) l e f = refl
plus_out n (fin false m k) l e f =
    let h : 2 ^ 64 ≤ m * up k / down k = over (m * up k) (down k) (down_pos k) (ltb-false _ _ f) in
    le-ltb (m * up k / down k) (2 ^ n) (le_trans (pow_mono l) h)
plus_out n (fin true m k) l e f = clash (lt-ltb 0 (m * up k * 1 + 2 ^ 64 * down k) (let q = down_pos k in omega arith)) f

-- x at most -1 or a NaN
pub minus_in : (n : ℕ) (x : Float) → lt lowest x ≡ false → lt (neg x) limit ≡ true → Whole n x (neg_ℤ (pos (to_unsigned 64 (neg x))))
unfolding lt neg truncated cut_fits to_unsigned
minus_in n nan e f = clash f refl
minus_in n (inf true) e f = clash f refl
minus_in n (inf false) e f = clash refl e
minus_in n (fin true m k) e f =
    rw (capped (m * up k / down k) (under (m * up k) (down k) (down_pos k) (ltb-true _ _ f))) (refl, refl)
minus_in n (fin false m k) e f = clash (above m k) e

pub minus_out : (n : ℕ) (x : Float) → 0 < n → n ≤ 64 → lt lowest x ≡ false → lt (neg x) limit ≡ false → cut_fits n x ≡ false
unfolding lt neg truncated cut_fits
minus_out n nan p l e f = refl
minus_out n (inf s) p l e f = refl
minus_out n (fin true m k) p l e f =
    let h : 2 ^ 64 ≤ m * up k / down k = over (m * up k) (down k) (down_pos k) (ltb-false _ _ f) in
    let i : 2 ^ (n - 1) < m * up k / down k = lt_of_lt_of_le (half_lt n p) (le_trans (pow_mono l) h) in
    range_minus n (m * up k / down k) ∙ lt-leb (m * up k / down k) (2 ^ (n - 1)) i
minus_out n (fin false m k) p l e f = clash (above m k) e

-- ---- what the code gives

-- its test and its pattern
abbrev pub Gives : ℕ → Float → Bool → ℕ → Type 0
Gives n x b w = (b ≡ cut_fits n x) × (w ≡ cut_of n x)

pub out_of_range : (n : ℕ) (x : Float) → cut_fits n x ≡ false → Gives n x false (2 ^ (n - 1))
unfolding cut_of
out_of_range n x e = (sym e, rw e refl)

module _ (n t : ℕ) (x : Float) where
  module _ (a : lt lowest x ≡ true) (b : lt x limit ≡ true) (e : t ≡ to_unsigned 64 x) where
    plus_whole : Whole n x (pos t)
    plus_whole = subst (λ (k : ℕ). Whole n x (pos k)) (sym e) (plus_in n x a b)

    pub plus_fits : t < 2 ^ n → Gives n x true t
    unfolding cut_of in_range pattern_of
    plus_fits h =
        let f : cut_fits n x ≡ true = plus_whole.1 ∙ lt-ltb t (2 ^ n) h in
        (sym f, rw (f, plus_whole.0, mod-eq_of_lt h) refl)

    pub plus_over : 2 ^ n ≤ t → Gives n x false (2 ^ (n - 1))
    unfolding in_range
    plus_over h = out_of_range n x (plus_whole.1 ∙ le-ltb t (2 ^ n) h)

  module _ (a : lt lowest x ≡ false) (b : lt (neg x) limit ≡ true) (e : t ≡ to_unsigned 64 (neg x)) where
    minus_whole : Whole n x (neg_ℤ (pos t))
    minus_whole = subst (λ (k : ℕ). Whole n x (neg_ℤ (pos k))) (sym e) (minus_in n x a b)

    pub minus_fits : 0 < n → t ≤ 2 ^ (n - 1) → Gives n x true (neg_of n t)
    unfolding cut_of
    minus_fits p h =
        let f : cut_fits n x ≡ true = minus_whole.1 ∙ range_minus n t ∙ le-leb t (2 ^ (n - 1)) h in
        (sym f, rw (f, minus_whole.0) (sym (pattern_minus n t p h)))

    pub minus_over : 2 ^ (n - 1) < t → Gives n x false (2 ^ (n - 1))
    minus_over h = out_of_range n x (minus_whole.1 ∙ range_minus n t ∙ lt-leb t (2 ^ (n - 1)) h)

-- the code's test of a whole number: of its half
pub under_width : (n t : ℕ) → 0 < n → t / 2 < 2 ^ (n - 1) → t < 2 ^ n
under_width n t p h = let e = twice n p in omega arith

pub over_width : (n t : ℕ) → 0 < n → 2 ^ (n - 1) ≤ t / 2 → 2 ^ n ≤ t
over_width n t p h = let e = twice n p in omega arith
