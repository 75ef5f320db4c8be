-- Laws of `tokens`.
use mathlib.Core.Path.{◌≡◌, refl, sym, ap, ◌∙◌}
use mathlib.Core.Logic.{◌≢◌}
use Prim.Native.Nat.{ℕ, suc, ◌+◌, ◌*◌, ◌-◌, ◌≤◌, ◌<◌}
use native.Mathlib.Omega.{arith}
use native.Mathlib.Numerals.{add-one}
use mathlib.Core.Bool.{true, false}
use mathlib.Core.Option.{none}
use mathlib.Core.List.{List, ◌∷◌}
use lib.ListN.{length, drop, get_or, drop_of_length-le}
use lib.Seq.{drop-cons}
use lib.Dec.{leb, eqb}
use Rattle.soundness.specs.Tests.{decide, eqb_is, eqb_same, eqb_other, leb_is, leb_isnt}
use Rattle.rules.specs.Grammar.{Sign, plus, dash, star, slash, Digit, is_r, is_g, is_b, SumSign, is_dash, ProductSign}
use Rattle.rules.specs.Reading.{is_digit, skip, digits, Lead, numeral, letter, sign, opening, closing, nothing, lead, mark_of, Part, closed_by, factor_of, product_sign, sum_sign, factor}
use Rattle.grammar.specs.Steps.{digit_is, digits_on, lead_digit, lead_sum, lead_product, lead_name, lead_open, lead_close, factor_suc}
use Rattle.std.specs.Prelude.{Some, None}
use Rattle.std.proofs.lemmas.Option.{none-some, same_Some}
use Rattle.formula.specs.Tokens.{Skipped, Capped, Grown, Counted, Leads, name_of, Plain, negatives, SumFollow, ProductFollow, CloseFollow}

front : (s : List ℕ) (i : ℕ) → i < length s → drop i s ≡ get_or s i 0 ∷ drop (i + 1) s
front s i h = rw (add-one i) (drop-cons s i 0 h)

-- ---- spaces and digits

pub skip_step : (s : List ℕ) (i : ℕ) → i < length s → get_or s i 0 ≡ 32 → skip (drop (i + 1) s) ≡ skip (drop i s)
unfolding skip
skip_step s i h e = sym (ap skip (front s i h) ∙ rw (e, eqb_same 32) refl)

pub skip_stop : (s : List ℕ) (i : ℕ) → i < length s → get_or s i 0 ≢ 32 → drop i s ≡ skip (drop i s)
unfolding skip
skip_stop s i h e = sym (ap skip (front s i h) ∙ rw (eqb_other (get_or s i 0) 32 e) refl ∙ sym (front s i h))

pub skip_end : (s : List ℕ) (i : ℕ) → length s ≤ i → drop i s ≡ skip (drop i s)
unfolding skip
skip_end s i h = rw (drop_of_length-le s h) refl

pub digits_step : (s : List ℕ) (i n : ℕ) → i < length s → is_digit (get_or s i 0) ≡ true → digits n (drop i s) ≡ digits (10 * n + (get_or s i 0 - 48)) (drop (i + 1) s)
digits_step s i n h e = ap (digits n) (front s i h) ∙ digits_on n (get_or s i 0) (drop (i + 1) s) e

pub zero_step : (s : List ℕ) (i n : ℕ) → i < length s → n ≡ 0 → get_or s i 0 ≡ 48 → digits n (drop i s) ≡ digits n (drop (i + 1) s)
zero_step s i n h z e = rw z (digits_step s i 0 h (rw e refl) ∙ ap (λ (b : ℕ). digits (10 * 0 + (b - 48)) (drop (i + 1) s)) e)

pub digits_halt : (s : List ℕ) (i n : ℕ) → i < length s → is_digit (get_or s i 0) ≡ false → digits n (drop i s) ≡ (n, drop i s)
unfolding digits
digits_halt s i n h e = ap (digits n) (front s i h) ∙ rw e refl ∙ ap (λ (x : List ℕ). (n, x)) (sym (front s i h))

pub digits_end : (s : List ℕ) (i n : ℕ) → length s ≤ i → digits n (drop i s) ≡ (n, drop i s)
unfolding digits
digits_end s i n h = rw (drop_of_length-le s h) refl

pub grown_same : (v c : ℕ) → 4294967295 < v → v < 42949672960 → Grown v c v
unfolding Grown
grown_same v c h b n k =
    let a : leb v 4294967295 ≡ false = decide (leb v 4294967295) (λ z. absurd (omega (arith, leb_is v 4294967295 z))) (λ z. z) in
    let l : 4294967295 < n = leb_isnt n 4294967295 (sym k.same ∙ a) in
    let d : leb (10 * n + (c - 48)) 4294967295 ≡ false = decide (leb (10 * n + (c - 48)) 4294967295) (λ z. absurd (omega (arith, leb_is (10 * n + (c - 48)) 4294967295 z))) (λ z. z) in
    record { same = a ∙ sym d; value = λ z. absurd (omega arith); below = b }

pub grown_more : (v c : ℕ) → v ≤ 4294967295 → is_digit c ≡ true → Grown v c (10 * v + (c - 48))
unfolding Grown
grown_more v c h e n k =
    let d : Digit c = digit_is c e in
    let q : v ≡ n = k.value h in
    record { same = rw q refl; value = λ z. rw q refl; below = omega (arith, d.upto) }

pub grown_by : (v c r : ℕ) → Grown v c r → (n : ℕ) → Capped v n → Capped r (10 * n + (c - 48))
unfolding Grown
grown_by v c r g n k = g n k

pub small_digit : (c : ℕ) → is_digit c ≡ true → (48 ≤ c) × (c ≤ 57)
small_digit c e = let d : Digit c = digit_is c e in (d.from, d.upto)

pub capped_first : (v : ℕ) → v < 10 → Capped v v
capped_first v h = record { same = refl; value = λ z. refl; below = omega arith }

-- ---- what stands in front

-- what holds of each lead holds of a byte's that is no digit
module _ (P : Lead → Type 0) (c : ℕ) (s : List ℕ) (p₁ : c ≡ 43 → P (sign plus s)) (p₂ : c ≡ 45 → P (sign dash s)) (p₃ : c ≡ 42 → P (sign star s)) (p₄ : c ≡ 47 → P (sign slash s))
    (p₅ : c ≡ 40 → P (opening s)) (p₆ : c ≡ 41 → P (closing s)) (p₇ : c ≡ 114 → P (letter 0 s)) (p₈ : c ≡ 103 → P (letter 1 s)) (p₉ : c ≡ 98 → P (letter 2 s)) (p₀ : P nothing) where
  marks : P (mark_of c s)
  marks =
      decide (eqb c 43) (λ e. rw e (p₁ (eqb_is c 43 e))) (λ e₁.
      decide (eqb c 45) (λ e. rw (e₁, e) (p₂ (eqb_is c 45 e))) (λ e₂.
      decide (eqb c 42) (λ e. rw (e₁, e₂, e) (p₃ (eqb_is c 42 e))) (λ e₃.
      decide (eqb c 47) (λ e. rw (e₁, e₂, e₃, e) (p₄ (eqb_is c 47 e))) (λ e₄.
      decide (eqb c 40) (λ e. rw (e₁, e₂, e₃, e₄, e) (p₅ (eqb_is c 40 e))) (λ e₅.
      decide (eqb c 41) (λ e. rw (e₁, e₂, e₃, e₄, e₅, e) (p₆ (eqb_is c 41 e))) (λ e₆.
      decide (eqb c 114) (λ e. rw (e₁, e₂, e₃, e₄, e₅, e₆, e) (p₇ (eqb_is c 114 e))) (λ e₇.
      decide (eqb c 103) (λ e. rw (e₁, e₂, e₃, e₄, e₅, e₆, e₇, e) (p₈ (eqb_is c 103 e))) (λ e₈.
      decide (eqb c 98) (λ e. rw (e₁, e₂, e₃, e₄, e₅, e₆, e₇, e₈, e) (p₉ (eqb_is c 98 e))) (λ e₉.
      rw (e₁, e₂, e₃, e₄, e₅, e₆, e₇, e₈, e₉) p₀)))))))))

-- of the byte at a place: with digits, or past the end
module _ (P : Lead → Type 0) (s : List ℕ) (at : ℕ) where
  pub leads_byte : at < length s → ((n : ℕ) (x : List ℕ) → P (numeral n x)) → ((x : List ℕ) → P (mark_of (get_or s at 0) x)) → P (lead (drop at s))
  unfolding lead
  leads_byte h p q =
      rw (front s at h)
      (decide (is_digit (get_or s at 0))
      (λ e. rw e (p (digits (get_or s at 0 - 48) (drop (at + 1) s)).0 (skip (digits (get_or s at 0 - 48) (drop (at + 1) s)).1)))
      (λ e. rw e (q (skip (drop (at + 1) s)))))

  pub leads_end : length s ≤ at → P nothing → P (lead (drop at s))
  unfolding lead
  leads_end h p = rw (drop_of_length-le s h) p

module _ (s : List ℕ) (at r : ℕ) (h : at < length s) (p : Skipped s (at + 1) r) where
  -- a byte of which the lead is known
  leads : (l : List ℕ → Lead) (c : ℕ) → get_or s at 0 ≡ c → ((x : List ℕ) → lead (c ∷ x) ≡ l (skip x)) → Leads s at r l
  leads l c e q =
      record { is = ap lead (front s at h ∙ ap (λ (b : ℕ). b ∷ drop (at + 1) s) e) ∙ q (drop (at + 1) s) ∙ ap l (sym p.rest); on = omega (arith, p.from); upto = p.upto }

  pub leads_sum : {c : ℕ} {o : Sign} → get_or s at 0 ≡ c → SumSign c o → Leads s at r (sign o)
  leads_sum {c} {o} e k = leads (sign o) c e (λ x. lead_sum k x)

  pub leads_product : {c : ℕ} {o : Sign} → get_or s at 0 ≡ c → ProductSign c o → Leads s at r (sign o)
  leads_product {c} {o} e k = leads (sign o) c e (λ x. lead_product k x)

  pub leads_close : get_or s at 0 ≡ 41 → Leads s at r closing
  leads_close e = leads closing 41 e (λ x. lead_close x)

  pub leads_open : get_or s at 0 ≡ 40 → Leads s at r opening
  leads_open e = leads opening 40 e (λ x. lead_open x)

  pub leads_name : (i : ℕ) → Some i ≡ name_of (get_or s at 0) → Leads s at r (letter i)
  leads_name i q =
      let c : ℕ = get_or s at 0 in
      decide (eqb c 114) (λ e. let k : i ≡ 0 = same_Some i 0 (q ∙ rw e refl) in rw k (leads (letter 0) 114 (eqb_is c 114 e) (λ x. lead_name is_r x))) (λ e₁.
      decide (eqb c 103) (λ e. let k : i ≡ 1 = same_Some i 1 (q ∙ rw (e₁, e) refl) in rw k (leads (letter 1) 103 (eqb_is c 103 e) (λ x. lead_name is_g x))) (λ e₂.
      decide (eqb c 98) (λ e. let k : i ≡ 2 = same_Some i 2 (q ∙ rw (e₁, e₂, e) refl) in rw k (leads (letter 2) 98 (eqb_is c 98 e) (λ x. lead_name is_b x))) (λ e₃.
      absurd (none-some i (sym (q ∙ rw (e₁, e₂, e₃) refl))))))

-- digits, and the spaces after them
module _ (s : List ℕ) (at v e : ℕ) (h : at < length s) (d : is_digit (get_or s at 0) ≡ true) (k : Counted s (at + 1) (get_or s at 0 - 48) v e) where
  pub lead_number : lead (drop at s) ≡ numeral k.number (skip (drop e s))
  lead_number = ap lead (front s at h) ∙ lead_digit (get_or s at 0) (drop (at + 1) s) d ∙ rw k.is refl

  pub leads_number : (r : ℕ) → Skipped s e r → Leads s at r (numeral k.number)
  leads_number r p = record { is = lead_number ∙ ap (numeral k.number) (sym p.rest); on = omega (arith, k.from, p.from); upto = p.upto }

-- a byte that begins no factor
pub begins_none : (s : List ℕ) (at : ℕ) → at < length s → is_digit (get_or s at 0) ≡ false → Plain s at → get_or s at 0 ≢ 40 → None ≡ name_of (get_or s at 0)
    → (m o : List ℕ → Part) → factor_of (lead (drop at s)) m o ≡ none
unfolding lead
begins_none s at h d n b l m o =
    let c : ℕ = get_or s at 0 in
    rw (front s at h, d)
    (marks (λ x. factor_of x m o ≡ none) c (skip (drop (at + 1) s)) (λ e. refl) (λ e. absurd (n h e)) (λ e. refl) (λ e. refl) (λ e. absurd (b e)) (λ e. refl)
    (λ e. absurd (named e refl)) (λ e. absurd (named e refl)) (λ e. absurd (named e refl)) refl)
  where
    named : {k i : ℕ} → get_or s at 0 ≡ k → name_of k ≡ Some i → ⊥
    named {k} {i} e q = none-some i (l ∙ ap name_of e ∙ q)

pub begins_end : (s : List ℕ) (at : ℕ) → length s ≤ at → (m o : List ℕ → Part) → factor_of (lead (drop at s)) m o ≡ none
begins_end s at h m o = leads_end (λ x. factor_of x m o ≡ none) s at h refl

-- ---- signs

module _ (s : List ℕ) (at : ℕ) where
  pub product_none : at < length s → get_or s at 0 ≢ 42 → get_or s at 0 ≢ 47 → ProductFollow s at None
  product_none h p q d k =
      leads_byte (λ x. product_sign x d k ≡ d) s at h (λ n x. refl)
      (λ x. marks (λ y. product_sign y d k ≡ d) (get_or s at 0) x (λ e. refl) (λ e. refl) (λ e. absurd (p e)) (λ e. absurd (q e)) (λ e. refl) (λ e. refl) (λ e. refl) (λ e. refl) (λ e. refl) refl)

  pub sum_none : at < length s → get_or s at 0 ≢ 43 → get_or s at 0 ≢ 45 → SumFollow s at None
  sum_none h p q d k =
      leads_byte (λ x. sum_sign x d k ≡ d) s at h (λ n x. refl)
      (λ x. marks (λ y. sum_sign y d k ≡ d) (get_or s at 0) x (λ e. absurd (p e)) (λ e. absurd (q e)) (λ e. refl) (λ e. refl) (λ e. refl) (λ e. refl) (λ e. refl) (λ e. refl) (λ e. refl) refl)

  pub close_none : at < length s → get_or s at 0 ≢ 41 → CloseFollow s at None
  close_none h p t =
      leads_byte (λ x. closed_by t x ≡ none) s at h (λ n x. refl)
      (λ x. marks (λ y. closed_by t y ≡ none) (get_or s at 0) x (λ e. refl) (λ e. refl) (λ e. refl) (λ e. refl) (λ e. refl) (λ e. absurd (p e)) (λ e. refl) (λ e. refl) (λ e. refl) refl)

  module _ (h : length s ≤ at) where
    pub product_end : ProductFollow s at None
    product_end d k = leads_end (λ x. product_sign x d k ≡ d) s at h refl

    pub sum_end : SumFollow s at None
    sum_end d k = leads_end (λ x. sum_sign x d k ≡ d) s at h refl

    pub close_end : CloseFollow s at None
    close_end t = leads_end (λ x. closed_by t x ≡ none) s at h refl

-- ---- minuses

-- one minus more, before r and the spaces up to q
pub minus_more : (s : List ℕ) (at n r q : ℕ) → at + n ≤ r → r < length s → get_or s r 0 ≡ 45 → Skipped s (r + 1) q → ((f : ℕ) → factor (n + f) (drop at s) ≡ negatives n (factor f (drop r s)))
    → (f : ℕ) → factor (n + 1 + f) (drop at s) ≡ negatives (n + 1) (factor f (drop q s))
minus_more s at n r q l h e p g f =
    let k : n + 1 + f ≡ n + suc f = omega arith in
    let d : Leads s r q (sign dash) = leads_sum s r q h p e is_dash in
    rw (k, add-one n) (g (suc f) ∙ ap (negatives n) (factor_suc f (drop r s) ∙ rw d.is refl))
