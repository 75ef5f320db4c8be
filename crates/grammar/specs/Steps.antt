-- The readers of `Reading`, one step each, by what stands in front.
use Rattle.std.specs.Prelude.{◌≡◌, refl, ℕ, suc, ◌+◌, ◌*◌, ◌-◌, ◌≤◌, true, false, List, [], ◌∷◌, leb}
use Rattle.std.proofs.Common.{◌∙◌, arith}
use Rattle.std.proofs.Math.Option.{some}
use Rattle.soundness.specs.Tests.{eqb_other, leb_yes, leb_is, and_intro, and_both}
use Rattle.rules.specs.Grammar.{Sign, dash, Tree, number, name, minus, both, group, Digit, Name, is_r, is_g, is_b, SumSign, is_plus, is_dash, ProductSign, is_star, is_slash}
use Rattle.rules.specs.Reading.{is_digit, skip, digits, numeral, letter, sign, opening, closing, lead, onward, factor_of, negated, closed, product_sign, sum_sign, sum, sums, product, products, factor}

-- ---- bytes

pub is_digit_lem : {c : ℕ} → Digit c → is_digit c ≡ true
is_digit_lem {c} d = and_intro (leb 48 c) (leb c 57) (leb_yes 48 c d.from) (leb_yes c 57 d.upto)

pub digit_is : (c : ℕ) → is_digit c ≡ true → Digit c
digit_is c e = record { from = leb_is 48 c (and_both (leb 48 c) (leb c 57) e).0; upto = leb_is c 57 (and_both (leb 48 c) (leb c 57) e).1 }

pub skip_digit : (c : ℕ) (s : List ℕ) → is_digit c ≡ true → skip (c ∷ s) ≡ c ∷ s
unfolding skip
skip_digit c s e = let d : Digit c = digit_is c e in rw (eqb_other c 32 (λ p. omega (arith, d.from))) refl

-- no digit stands in front
abbrev pub Clear : List ℕ → Type 0
Clear [] = Unit {0}
Clear (c ∷ s) = is_digit c ≡ false

pub digits_stop : (n : ℕ) (r : List ℕ) → Clear r → digits n r ≡ (n, r)
unfolding digits
digits_stop n [] e = refl
digits_stop n (c ∷ r) e = rw e refl

pub digits_on : (n c : ℕ) (r : List ℕ) → is_digit c ≡ true → digits n (c ∷ r) ≡ digits (10 * n + (c - 48)) r
unfolding digits
digits_on n c r e = rw e refl

pub lead_digit : (c : ℕ) (s : List ℕ) → is_digit c ≡ true → lead (c ∷ s) ≡ numeral (digits (c - 48) s).0 (skip (digits (c - 48) s).1)
unfolding lead
lead_digit c s e = rw e refl

pub lead_sum : {c : ℕ} {o : Sign} → SumSign c o → (s : List ℕ) → lead (c ∷ s) ≡ sign o (skip s)
unfolding lead
lead_sum is_plus s = refl
lead_sum is_dash s = refl

pub lead_product : {c : ℕ} {o : Sign} → ProductSign c o → (s : List ℕ) → lead (c ∷ s) ≡ sign o (skip s)
unfolding lead
lead_product is_star s = refl
lead_product is_slash s = refl

pub lead_name : {c i : ℕ} → Name c i → (s : List ℕ) → lead (c ∷ s) ≡ letter i (skip s)
unfolding lead
lead_name is_r s = refl
lead_name is_g s = refl
lead_name is_b s = refl

pub lead_open : (s : List ℕ) → lead (40 ∷ s) ≡ opening (skip s)
unfolding lead
lead_open s = refl

pub lead_close : (s : List ℕ) → lead (41 ∷ s) ≡ closing (skip s)
unfolding lead
lead_close s = refl

-- ---- readers

pub factor_suc : (f : ℕ) (s : List ℕ) → factor (suc f) s ≡ factor_of (lead s) (λ r. onward (factor f r) (λ t r'. negated t r')) (λ r. onward (sum f r) (λ t r'. closed t r'))
unfolding factor
factor_suc f s = refl

pub product_suc : (f : ℕ) (s : List ℕ) → product (suc f) s ≡ onward (factor f s) (λ t r. products f t r)
unfolding product
product_suc f s = refl

pub products_suc : (f : ℕ) (t : Tree) (s : List ℕ) → products (suc f) t s ≡ product_sign (lead s) (some (t, s)) (λ o r. onward (factor f r) (λ u r'. products f (both o t u) r'))
unfolding products
products_suc f t s = refl

pub sum_suc : (f : ℕ) (s : List ℕ) → sum (suc f) s ≡ onward (product f s) (λ t r. sums f t r)
unfolding sum
sum_suc f s = refl

pub sums_suc : (f : ℕ) (t : Tree) (s : List ℕ) → sums (suc f) t s ≡ sum_sign (lead s) (some (t, s)) (λ o r. onward (product f r) (λ u r'. sums f (both o t u) r'))
unfolding sums
sums_suc f t s = refl

module _ (f : ℕ) (s : List ℕ) where
  pub factor_number : (n : ℕ) (r : List ℕ) → lead s ≡ numeral n r → n ≤ 4294967295 → factor (suc f) s ≡ some (number n, r)
  factor_number n r e l = factor_suc f s ∙ rw (e, leb_yes n 4294967295 l) refl

  pub factor_name : (i : ℕ) (r : List ℕ) → lead s ≡ letter i r → factor (suc f) s ≡ some (name i, r)
  factor_name i r e = factor_suc f s ∙ rw e refl

  pub factor_minus : (r r' : List ℕ) (t : Tree) → lead s ≡ sign dash r → factor f r ≡ some (t, r') → factor (suc f) s ≡ some (minus t, r')
  factor_minus r r' t e h = factor_suc f s ∙ rw (e, h) refl

  pub factor_group : (r r' r'' : List ℕ) (t : Tree) → lead s ≡ opening r → sum f r ≡ some (t, r') → lead r' ≡ closing r'' → factor (suc f) s ≡ some (group t, r'')
  factor_group r r' r'' t e h q = factor_suc f s ∙ rw (e, h, q) refl

  pub product_on : (r : List ℕ) (t : Tree) → factor f s ≡ some (t, r) → product (suc f) s ≡ products f t r
  product_on r t h = product_suc f s ∙ rw h refl

  pub sum_on : (r : List ℕ) (t : Tree) → product f s ≡ some (t, r) → sum (suc f) s ≡ sums f t r
  sum_on r t h = sum_suc f s ∙ rw h refl

  pub products_on : {c : ℕ} {o : Sign} → ProductSign c o → (t u : Tree) (r r' : List ℕ) → lead s ≡ sign o r → factor f r ≡ some (u, r') → products (suc f) t s ≡ products f (both o t u) r'
  products_on is_star t u r r' e h = products_suc f t s ∙ rw (e, h) refl
  products_on is_slash t u r r' e h = products_suc f t s ∙ rw (e, h) refl

  pub sums_on : {c : ℕ} {o : Sign} → SumSign c o → (t u : Tree) (r r' : List ℕ) → lead s ≡ sign o r → product f r ≡ some (u, r') → sums (suc f) t s ≡ sums f (both o t u) r'
  sums_on is_plus t u r r' e h = sums_suc f t s ∙ rw (e, h) refl
  sums_on is_dash t u r r' e h = sums_suc f t s ∙ rw (e, h) refl
