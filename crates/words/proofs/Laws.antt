-- Laws of words of n bits, each once over the width. Assumes nothing.
use Rattle.std.proofs.Common.{◌≡◌, ℕ, zero, suc, ◌+◌, ◌-◌, ◌*◌, ◌/◌, ◌%◌, ◌^◌, ◌<◌, ◌≤◌, min, Bool, true, false, cond, not, eqb, ltb, ℤ, pos, negsuc, neg_ℤ, nat_abs, sym, refl, ap, ◌∙◌, ap₂, lt_of_le_of_lt, le_of_lt, mod-eq_of_lt, mul_assoc, mul_comm, pow-suc, mul-add, div-le_self, arith, pow_pos, pow-add, ltb-false, ltb-true, le-ltb, lt-ltb, eq-eqb, ne_eqb, eqb-true, subst, lt_of_lt_of_le, mul-one, lit<}
use mathlib.Core.Bool.{xor, beq}
use native.Mathlib.Nat.{mod-le, sub-zero, mod_self, zero-mod, pow-le-pow_right, mul-add-mod_self_left, min-eq_left, min-eq_right, mul-mod_left, div-eq_of_lt, div-zero, mod-zero}
use lib.Signed.{non_neg, quot_z, rem_z, lt_z}
use lib.Pow.{mod-mod-pow}
use Rattle.std.proofs.Math.Pow.{not_mod}
use borrow.Author.Tests.{eqb-false}
use Rattle.rules.specs.Words.{add_of, neg_of, signed_of, pattern_of, idiv_of, imod_of, shl_of, shr_of, sar_of, not_of, cmp_of, icmp_of, order_of}

-- ---- tests

-- below m or not
split_by {ℓ} : {X : Type ℓ} (t : Bool) (a m : ℕ) → ltb a m ≡ t → (a < m → X) → (m ≤ a → X) → X
split_by true a m e f g = f (ltb-true a m e)
split_by false a m e f g = g (ltb-false a m e)

split {ℓ} : {X : Type ℓ} (a m : ℕ) → (a < m → X) → (m ≤ a → X) → X
split a m = split_by (ltb a m) a m refl

-- two tests that stand or fall together
ltb_same : (x y u v : ℕ) → (x < y → u < v) → (y ≤ x → v ≤ u) → ltb x y ≡ ltb u v
ltb_same x y u v f g =
    split x y (λ h. lt-ltb _ _ h ∙ sym (lt-ltb _ _ (f h))) (λ h. le-ltb _ _ h ∙ sym (le-ltb _ _ (g h)))

eqb_by : (t : Bool) (x y u v : ℕ) → eqb x y ≡ t → (x ≡ y → u ≡ v) → (u ≡ v → x ≡ y) → eqb x y ≡ eqb u v
eqb_by true x y u v e f g = e ∙ sym (eq-eqb u v (f (eqb-true x y e)))
eqb_by false x y u v e f g = e ∙ sym (ne_eqb u v (λ q. eqb-false x y e (g q)))

off : (t : Bool) → not t ≡ true → t ≡ false
off true e = sym e
off false e = refl

on : (t : Bool) → not t ≡ false → t ≡ true
on true e = refl
on false e = sym e

pub differ : (s t : Bool) → not (beq (not s) (not t)) ≡ xor s t
unfolding xor
differ true true = refl
differ true false = refl
differ false true = refl
differ false false = refl

-- ---- division by zero

pub div_by_zero : (a b : ℕ) → b ≡ 0 → a / b ≡ 0
div_by_zero a b e = rw e (div-zero a)

pub mod_by_zero : (a b : ℕ) → b ≡ 0 → a % b ≡ a
mod_by_zero a b e = rw e (mod-zero a)

-- ---- signs and magnitudes

-- a quotient and a remainder by the operands' signs and magnitudes
quot_by_sign : (x y : ℤ)
    → quot_z x y ≡ cond (xor (non_neg x) (non_neg y)) (neg_ℤ (pos (nat_abs x / nat_abs y))) (pos (nat_abs x / nat_abs y))
unfolding xor
quot_by_sign (pos a) (pos b) = refl
quot_by_sign (pos a) (negsuc b) = refl
quot_by_sign (negsuc a) (pos b) = refl
quot_by_sign (negsuc a) (negsuc b) = refl

rem_by_sign : (x y : ℤ)
    → rem_z x y ≡ cond (not (non_neg x)) (neg_ℤ (pos (nat_abs x % nat_abs y))) (pos (nat_abs x % nat_abs y))
rem_by_sign (pos a) y = refl
rem_by_sign (negsuc a) y = refl

sign_of : (t : Bool) (x y : ℕ) → non_neg (cond t (pos x) (negsuc y)) ≡ t
sign_of true x y = refl
sign_of false x y = refl

-- 2 ^ n is twice 2 ^ (n - 1)
pub twice : (n : ℕ) → 0 < n → 2 ^ n ≡ 2 ^ (n - 1) + 2 ^ (n - 1)
twice zero p = omega arith
twice (suc k) p = let e : suc k - 1 ≡ k = omega arith in rw (e, pow-suc) (omega arith)

module _ (n : ℕ) where
  pub sign : (a : ℕ) → non_neg (signed_of n a) ≡ ltb a (2 ^ (n - 1))
  unfolding signed_of
  sign a = sign_of (ltb a (2 ^ (n - 1))) a (2 ^ n - suc a)

  pub negative_high : (a : ℕ) → not (non_neg (signed_of n a)) ≡ true → 2 ^ (n - 1) ≤ a
  negative_high a e = ltb-false a (2 ^ (n - 1)) (sym (sign a) ∙ off _ e)

  pub positive_low : (a : ℕ) → not (non_neg (signed_of n a)) ≡ false → a < 2 ^ (n - 1)
  positive_low a e = ltb-true a (2 ^ (n - 1)) (sym (sign a) ∙ on _ e)

  low : (a : ℕ) → a < 2 ^ (n - 1) → signed_of n a ≡ pos a
  unfolding signed_of
  low a h = rw (lt-ltb _ _ h)

  high : (a : ℕ) → 2 ^ (n - 1) ≤ a → signed_of n a ≡ negsuc (2 ^ n - suc a)
  unfolding signed_of
  high a h = rw (le-ltb _ _ h)

  pub magnitude_low : (a : ℕ) → a < 2 ^ (n - 1) → nat_abs (signed_of n a) ≡ a
  magnitude_low a h = rw (low a h)

  pub magnitude_high : (a : ℕ) → 2 ^ (n - 1) ≤ a → a < 2 ^ n → nat_abs (signed_of n a) ≡ neg_of n a
  magnitude_high a h l =
      let q = pow_pos (n - 1) in
      let e : (2 ^ n - a) % 2 ^ n ≡ 2 ^ n - a = mod-eq_of_lt (omega arith) in
      rw (high a h, e) (omega arith)

  magnitude_lt : (a : ℕ) → a < 2 ^ n → nat_abs (signed_of n a) < 2 ^ n
  magnitude_lt a l =
      let q = pow_pos (n - 1) in
      split a (2 ^ (n - 1)) (λ h. rw (low a h) l) (λ h. rw (high a h) (omega arith))

  -- the pattern of q and of -q
  plus : (q : ℕ) → q < 2 ^ n → pattern_of n (pos q) ≡ q
  unfolding pattern_of
  plus q h = mod-eq_of_lt h

  minus : (q : ℕ) → q < 2 ^ n → pattern_of n (neg_ℤ (pos q)) ≡ neg_of n q
  unfolding pattern_of
  minus zero h = rw (zero-mod, sub-zero, mod_self)
  minus (suc j) h =
      let e : j % 2 ^ n ≡ j = mod-eq_of_lt (omega arith) in
      let f : (2 ^ n - suc j) % 2 ^ n ≡ 2 ^ n - suc j = mod-eq_of_lt (omega arith) in
      rw (e, f)

  pattern_by_sign : (t : Bool) (q : ℕ) → q < 2 ^ n → pattern_of n (cond t (neg_ℤ (pos q)) (pos q)) ≡ cond t (neg_of n q) q
  pattern_by_sign true q h = minus q h
  pattern_by_sign false q h = plus q h

  pub idiv_law : (a b : ℕ) → a < 2 ^ n
      → idiv_of n a b
      ≡ cond (xor (non_neg (signed_of n a)) (non_neg (signed_of n b)))
      (neg_of n (nat_abs (signed_of n a) / nat_abs (signed_of n b)))
      (nat_abs (signed_of n a) / nat_abs (signed_of n b))
  unfolding idiv_of
  idiv_law a b l =
      ap (pattern_of n) (quot_by_sign (signed_of n a) (signed_of n b))
      ∙ pattern_by_sign (xor (non_neg (signed_of n a)) (non_neg (signed_of n b))) (nat_abs (signed_of n a) / nat_abs (signed_of n b))
      (lt_of_le_of_lt (div-le_self _ _) (magnitude_lt a l))

  pub imod_law : (a b : ℕ) → a < 2 ^ n
      → imod_of n a b
      ≡ cond (not (non_neg (signed_of n a)))
      (neg_of n (nat_abs (signed_of n a) % nat_abs (signed_of n b)))
      (nat_abs (signed_of n a) % nat_abs (signed_of n b))
  unfolding imod_of
  imod_law a b l =
      ap (pattern_of n) (rem_by_sign (signed_of n a) (signed_of n b))
      ∙ pattern_by_sign (not (non_neg (signed_of n a))) (nat_abs (signed_of n a) % nat_abs (signed_of n b))
      (lt_of_le_of_lt (mod-le _ _) (magnitude_lt a l))

  -- ---- shifts, by whether the count is below the width

  pub shl_in : (a k : ℕ) → k < n → shl_of n a k ≡ a * 2 ^ k % 2 ^ n
  unfolding shl_of
  shl_in a k h = rw (min-eq_left (le_of_lt h))

  pub shl_out : (a k : ℕ) → n ≤ k → shl_of n a k ≡ 0
  unfolding shl_of
  shl_out a k h = rw (min-eq_right h) (mul-mod_left a (2 ^ n))

  pub shr_in : (a k : ℕ) → k < n → shr_of n a k ≡ a / 2 ^ k
  unfolding shr_of
  shr_in a k h = rw (min-eq_left (le_of_lt h))

  pub shr_out : (a k : ℕ) → a < 2 ^ n → n ≤ k → shr_of n a k ≡ 0
  unfolding shr_of
  shr_out a k l h = rw (min-eq_right h) (div-eq_of_lt l)

  pub sar_low : (a k : ℕ) → a < 2 ^ (n - 1) → a < 2 ^ n → sar_of n a k ≡ shr_of n a k
  unfolding sar_of shr_of
  sar_low a k h l = rw (low a h) (plus _ (lt_of_le_of_lt (div-le_self _ _) l))

  pub sar_high : (a k : ℕ) → 2 ^ (n - 1) ≤ a → a < 2 ^ n → sar_of n a k ≡ not_of n (shr_of n (not_of n a) k)
  unfolding sar_of shr_of not_of pattern_of
  sar_high a k h l =
      let e : 2 ^ n - suc a ≡ 2 ^ n - 1 - a = omega arith in
      let d : (2 ^ n - 1 - a) / 2 ^ min k n ≤ 2 ^ n - 1 - a = div-le_self _ _ in
      let f : (2 ^ n - 1 - a) / 2 ^ min k n % 2 ^ n ≡ (2 ^ n - 1 - a) / 2 ^ min k n = mod-eq_of_lt (omega arith) in
      rw (high a h, e, f) (omega arith)

-- ---- order

module _ (n : ℕ) (p : 0 < n) where
  -- the sign bit turned over
  abbrev flip : ℕ → ℕ
  flip a = add_of n a (2 ^ (n - 1))

  flip_low : (a : ℕ) → a < 2 ^ (n - 1) → flip a ≡ a + 2 ^ (n - 1)
  flip_low a h = let tw = twice n p in mod-eq_of_lt (omega arith)

  flip_high : (a : ℕ) → 2 ^ (n - 1) ≤ a → a < 2 ^ n → flip a ≡ a - 2 ^ (n - 1)
  flip_high a h l =
      let tw = twice n p in
      let e : a + 2 ^ (n - 1) ≡ 2 ^ n * 1 + (a - 2 ^ (n - 1)) = omega arith in
      rw e (mul-add-mod_self_left (2 ^ n) 1 _ ∙ mod-eq_of_lt (omega arith))

  module _ (a b : ℕ) (la : a < 2 ^ n) (lb : b < 2 ^ n) where
    flip_order : lt_z (signed_of n b) (signed_of n a) ≡ ltb (flip b) (flip a)
    flip_order =
        let H = 2 ^ (n - 1) in
        let tw = twice n p in
        split a H
        (λ h. split b H
        (λ k. rw (low n a h, low n b k, flip_low a h, flip_low b k)
        (ltb_same b a (b + H) (a + H) (λ q. omega arith) (λ q. omega arith)))
        (λ k. rw (low n a h, high n b k, flip_low a h, flip_high b k lb) (sym (lt-ltb (b - H) (a + H) (omega arith)))))
        (λ h. split b H
        (λ k. rw (high n a h, low n b k, flip_high a h la, flip_low b k) (sym (le-ltb (b + H) (a - H) (omega arith))))
        (λ k. rw (high n a h, high n b k, flip_high a h la, flip_high b k lb)
        (ltb_same (2 ^ n - suc a) (2 ^ n - suc b) (b - H) (a - H) (λ q. omega arith) (λ q. omega arith))))

    flip_back : flip a ≡ flip b → a ≡ b
    flip_back e =
        let H = 2 ^ (n - 1) in
        let tw = twice n p in
        split a H
        (λ h. split b H
        (λ k. let f = rw (flip_low a h, flip_low b k) at e in omega arith)
        (λ k. let f = rw (flip_low a h, flip_high b k lb) at e in omega arith))
        (λ h. split b H
        (λ k. let f = rw (flip_high a h la, flip_low b k) at e in omega arith)
        (λ k. let f = rw (flip_high a h la, flip_high b k lb) at e in omega arith))

    -- the signed order is the unsigned one of the patterns with the sign bit turned over
    pub icmp_law : icmp_of n a b ≡ cmp_of (add_of n a (2 ^ (n - 1))) (add_of n b (2 ^ (n - 1)))
    unfolding icmp_of cmp_of
    icmp_law = ap₂ order_of flip_order (eqb_by (eqb a b) a b (flip a) (flip b) refl (λ e. ap flip e) flip_back)

-- ---- computed on 64 bits and cut to n

module _ (n : ℕ) (h : n ≤ 64) where
  rest : 64 - n + n ≡ 64
  rest = omega arith

  pub cut_mod : (x : ℕ) → x % 2 ^ 64 % 2 ^ n ≡ x % 2 ^ n
  cut_mod x = subst (λ (t : ℕ). x % 2 ^ t % 2 ^ n ≡ x % 2 ^ n) rest (mod-mod-pow x (64 - n) n)

  -- 2 ^ 64 is a multiple of 2 ^ n
  multiple : 2 ^ 64 ≡ 2 ^ n * (2 ^ (64 - n) - 1) + 2 ^ n
  multiple =
      let p = pow_pos (64 - n) in
      let e : 2 ^ (64 - n) ≡ 2 ^ (64 - n) - 1 + 1 = omega arith in
      subst (λ (t : ℕ). 2 ^ t ≡ 2 ^ n * (2 ^ (64 - n) - 1) + 2 ^ n) rest
      (pow-add 2 (64 - n) n ∙ mul_comm (2 ^ (64 - n)) (2 ^ n) ∙ ap (λ (t : ℕ). 2 ^ n * t) e ∙ mul-add (2 ^ n) (2 ^ (64 - n) - 1) 1 ∙ ap (λ (t : ℕ). 2 ^ n * (2 ^ (64 - n) - 1) + t) (mul-one (2 ^ n)))

  pub cut_sub : (a b : ℕ) → b < 2 ^ n → (a + (2 ^ 64 - b)) % 2 ^ 64 % 2 ^ n ≡ (a + (2 ^ n - b)) % 2 ^ n
  cut_sub a b l =
      let e : a + (2 ^ 64 - b) ≡ 2 ^ n * (2 ^ (64 - n) - 1) + (a + (2 ^ n - b)) = rw multiple (omega arith) in
      cut_mod (a + (2 ^ 64 - b)) ∙ rw e (mul-add-mod_self_left (2 ^ n) (2 ^ (64 - n) - 1) (a + (2 ^ n - b)))

  pub cut_neg : (a : ℕ) → a < 2 ^ n → (0 + (2 ^ 64 - a)) % 2 ^ 64 % 2 ^ n ≡ neg_of n a
  cut_neg a l = cut_sub 0 a l ∙ ap (λ (t : ℕ). t % 2 ^ n) (omega arith)

  pub cut_not : (a : ℕ) → a < 2 ^ n → (2 ^ 64 - 1 - a) % 2 ^ n ≡ 2 ^ n - 1 - a
  cut_not a l = subst (λ (t : ℕ). (2 ^ t - 1 - a) % 2 ^ n ≡ 2 ^ n - 1 - a) rest (not_mod (64 - n) n l)

  pub cut_shl : (a k : ℕ) → a * 2 ^ k % 2 ^ 64 % 2 ^ n ≡ shl_of n a k
  cut_shl a k =
      cut_mod (a * 2 ^ k)
      ∙ split k n (λ l. sym (shl_in n a k l))
      (λ l. let e : k ≡ k - n + n = omega arith in
      ap (λ (t : ℕ). a * 2 ^ t % 2 ^ n) e ∙ ap (λ (t : ℕ). a * t % 2 ^ n) (pow-add 2 (k - n) n)
      ∙ ap (λ (t : ℕ). t % 2 ^ n) (sym (mul_assoc a (2 ^ (k - n)) (2 ^ n))) ∙ mul-mod_left (a * 2 ^ (k - n)) (2 ^ n) ∙ sym (shl_out n a k l))

pub cut_shr : (n a k : ℕ) → a < 2 ^ n → a / 2 ^ k % 2 ^ n ≡ shr_of n a k
cut_shr n a k l =
    mod-eq_of_lt (lt_of_le_of_lt (div-le_self a (2 ^ k)) l)
    ∙ split k n (λ j. sym (shr_in n a k j))
    (λ j. div-eq_of_lt (lt_of_lt_of_le l (pow-le-pow_right (lit< tt) j)) ∙ sym (shr_out n a k l j))

-- a count of 64 or more
pub gone : (n : ℕ) → 0 % 2 ^ n ≡ 0
gone n = zero-mod (2 ^ n)
