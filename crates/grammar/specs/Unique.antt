-- No line has two readings: every derivation's tree is the one that `reading` computes.
use Rattle.std.specs.Prelude.{◌≡◌, refl, ℕ, zero, suc, ◌+◌, ◌*◌, ◌≤◌, List, [], ◌∷◌, ◌++◌, length}
use Rattle.std.proofs.Common.{sym, ap, ◌∙◌, arith, append_assoc, append-nil, length-append}
use Rattle.std.proofs.Math.Option.{some}
use Rattle.soundness.specs.Tests.{some_inj}
use Rattle.rules.specs.Grammar.{Sign, Tree, number, name, minus, both, group, Name, Numeral, digit, next, SumSign, is_plus, is_dash, ProductSign, is_star, is_slash, Rank, Spells, a_product, sum_more, a_factor, product_more, a_number, a_name, negative, bracketed, space_before, space_after, Line}
use Rattle.rules.specs.Reading.{skip, digits, numeral, lead, Part, product_sign, sum, sums, product, products, factor, reading, enough}
use Rattle.grammar.specs.Steps.{is_digit_lem, skip_digit, Clear, digits_stop, digits_on, lead_digit, lead_sum, lead_product, lead_name, lead_open, lead_close, products_suc, sums_suc, factor_number, factor_name, factor_minus, factor_group, product_on, sum_on, products_on, sums_on}

numeral_skip : {s : List ℕ} {n : ℕ} → Numeral s n → (r : List ℕ) → skip (s ++ r) ≡ s ++ r
numeral_skip (digit {c = c} d) r = skip_digit c r (is_digit_lem d)
numeral_skip (next {s = s} {n = n} {c = c} h d) r = rw append_assoc (numeral_skip h (c ∷ r))

numeral_lead : {s : List ℕ} {n : ℕ} → Numeral s n → (r : List ℕ) → lead (s ++ r) ≡ numeral (digits n r).0 (skip (digits n r).1)
numeral_lead (digit {c = c} d) r = lead_digit c r (is_digit_lem d)
numeral_lead (next {s = s} {n = n} {c = c} h d) r = rw append_assoc (numeral_lead h (c ∷ r) ∙ rw (digits_on n c r (is_digit_lem d)) refl)

-- no sign of products, or of sums, stands in front
abbrev NoProduct : List ℕ → Type 0
NoProduct r = (d : Part) (k : Sign → List ℕ → Part) → product_sign (lead (skip r)) d k ≡ d

products_end : (f : ℕ) (t : Tree) (r : List ℕ) → NoProduct r → 1 ≤ f → products f t (skip r) ≡ some (t, skip r)
products_end zero t r h l = absurd (omega arith)
products_end (suc f) t r h l = products_suc f t (skip r) ∙ h (some (t, skip r)) _

sum_sign_lem : {c : ℕ} {o : Sign} → SumSign c o → (s : List ℕ) → (skip (c ∷ s) ≡ c ∷ s) × Clear (c ∷ s) × NoProduct (c ∷ s)
unfolding skip lead
sum_sign_lem is_plus s = (refl, refl, λ d k. refl)
sum_sign_lem is_dash s = (refl, refl, λ d k. refl)

product_sign_lem : {c : ℕ} {o : Sign} → ProductSign c o → (s : List ℕ) → (skip (c ∷ s) ≡ c ∷ s) × Clear (c ∷ s)
unfolding skip
product_sign_lem is_star s = (refl, refl)
product_sign_lem is_slash s = (refl, refl)

close_stops : (r : List ℕ) → (skip (41 ∷ r) ≡ 41 ∷ r) × NoProduct (41 ∷ r)
unfolding skip lead
close_stops r = (refl, λ d k. refl)

skip_space : (s : List ℕ) → skip (32 ∷ s) ≡ skip s
unfolding skip
skip_space s = refl

skip_minus : (s : List ℕ) → skip (45 ∷ s) ≡ 45 ∷ s
unfolding skip
skip_minus s = refl

skip_open : (s : List ℕ) → skip (40 ∷ s) ≡ 40 ∷ s
unfolding skip
skip_open s = refl

skip_name : {c i : ℕ} → Name c i → (s : List ℕ) → skip (c ∷ s) ≡ c ∷ s
unfolding skip
skip_name Name.is_r s = refl
skip_name Name.is_g s = refl
skip_name Name.is_b s = refl

sums_end : (f : ℕ) (t : Tree) (r : List ℕ) → sums (suc f) t (41 ∷ r) ≡ some (t, 41 ∷ r)
unfolding lead
sums_end f t r = sums_suc f t (41 ∷ r)

-- what a derivation says of the readers, whatever follows: a sum is read up to the signs after it, a product likewise, a factor whole
abbrev Claim : Rank → List ℕ → Tree → Type 0
Claim Rank.sum s t = (r : List ℕ) → Clear r → NoProduct r → (f : ℕ) → 4 * length (s ++ r) + 3 ≤ f
    → (g : ℕ) × (4 * length r + 1 ≤ g) × (sum f (skip (s ++ r)) ≡ sums g t (skip r))
Claim Rank.product s t = (r : List ℕ) → Clear r → (f : ℕ) → 4 * length (s ++ r) + 2 ≤ f
    → (g : ℕ) × (4 * length r + 1 ≤ g) × (product f (skip (s ++ r)) ≡ products g t (skip r))
Claim Rank.factor s t = (r : List ℕ) → Clear r → (f : ℕ) → 4 * length (s ++ r) + 1 ≤ f → factor f (skip (s ++ r)) ≡ some (t, skip r)

module _ (s s' r : List ℕ) (a : ℕ) (o : Sign) (t u : Tree) (f : ℕ) where
  more_sums : SumSign a o → NoProduct r → (g : ℕ) → 4 * length (a ∷ (s' ++ r)) + 1 ≤ g → sum f (skip ((s ++ (a ∷ s')) ++ r)) ≡ sums g t (skip (a ∷ (s' ++ r)))
      → ((g : ℕ) → 4 * length (s' ++ r) + 2 ≤ g → (h : ℕ) × (4 * length r + 1 ≤ h) × (product g (skip (s' ++ r)) ≡ products h u (skip r)))
      → (g : ℕ) × (4 * length r + 1 ≤ g) × (sum f (skip ((s ++ (a ∷ s')) ++ r)) ≡ sums g (both o t u) (skip r))
  more_sums w n zero l z k = absurd (omega arith)
  more_sums w n (suc g) l z k =
      let x = k g (omega arith) in
      (g, omega (arith, length-append s' r), z ∙ ap (λ y. sums (suc g) t y) (sum_sign_lem w (s' ++ r)).0 ∙ sums_on g (a ∷ (s' ++ r)) w t u (skip (s' ++ r)) (skip r) (lead_sum w (s' ++ r)) (x.2 ∙ products_end x.0 u r n (omega (arith, x.1))))

  more_products : ProductSign a o → (g : ℕ) → 4 * length (a ∷ (s' ++ r)) + 1 ≤ g → product f (skip ((s ++ (a ∷ s')) ++ r)) ≡ products g t (skip (a ∷ (s' ++ r)))
      → ((g : ℕ) → 4 * length (s' ++ r) + 1 ≤ g → factor g (skip (s' ++ r)) ≡ some (u, skip r))
      → (g : ℕ) × (4 * length r + 1 ≤ g) × (product f (skip ((s ++ (a ∷ s')) ++ r)) ≡ products g (both o t u) (skip r))
  more_products w zero l z k = absurd (omega arith)
  more_products w (suc g) l z k =
      (g, omega (arith, length-append s' r), z ∙ ap (λ y. products (suc g) t y) (product_sign_lem w (s' ++ r)).0 ∙ products_on g (a ∷ (s' ++ r)) w t u (skip (s' ++ r)) (skip r) (lead_product w (s' ++ r)) (k g (omega arith)))

sums_closed : (g : ℕ) (t : Tree) (r : List ℕ) → 1 ≤ g → sums g t (skip (41 ∷ r)) ≡ some (t, 41 ∷ r)
sums_closed zero t r l = absurd (omega arith)
sums_closed (suc g) t r l = ap (λ x. sums (suc g) t x) (close_stops r).0 ∙ sums_end g t r

-- the derivation's tree is what the readers give
on_number : {s : List ℕ} {n : ℕ} → Numeral s n → n ≤ 4294967295 → Claim Rank.factor s (number n)
on_number d h r c zero l = absurd (omega arith)
on_number {s} {n} d h r c (suc f) l =
    ap (λ x. factor (suc f) x) (numeral_skip d r) ∙ factor_number f (s ++ r) n (skip r) (numeral_lead d r ∙ rw (digits_stop n r c) refl) h

on_name : {a i : ℕ} → Name a i → Claim Rank.factor (a ∷ []) (name i)
on_name d r c zero l = absurd (omega arith)
on_name {a} {i} d r c (suc f) l = ap (λ x. factor (suc f) x) (skip_name d r) ∙ factor_name f (a ∷ r) i (skip r) (lead_name d r)

on_minus : (s : List ℕ) (t : Tree) → Claim Rank.factor s t → Claim Rank.factor (45 ∷ s) (minus t)
on_minus s t d r c zero l = absurd (omega arith)
on_minus s t d r c (suc f) l =
    ap (λ x. factor (suc f) x) (skip_minus (s ++ r)) ∙ factor_minus f (45 ∷ (s ++ r)) (skip (s ++ r)) (skip r) t (lead_sum is_dash (s ++ r)) (d r c f (omega arith))

on_group : (s : List ℕ) (t : Tree) → Claim Rank.sum s t → Claim Rank.factor (40 ∷ (s ++ (41 ∷ []))) (group t)
on_group s t d r c zero l = absurd (omega arith)
on_group s t d r c (suc f) l =
    let q : (s ++ (41 ∷ [])) ++ r ≡ s ++ (41 ∷ r) = append_assoc s (41 ∷ []) r in
    let l' : 4 * length (s ++ (41 ∷ r)) + 3 ≤ f = rw (← q) (omega arith) in
    let y = d (41 ∷ r) refl (close_stops r).1 f l' in
    ap (λ x. factor (suc f) x) (skip_open ((s ++ (41 ∷ [])) ++ r))
    ∙ factor_group f (40 ∷ ((s ++ (41 ∷ [])) ++ r)) (skip ((s ++ (41 ∷ [])) ++ r)) (41 ∷ r) (skip r) t (lead_open ((s ++ (41 ∷ [])) ++ r)) (rw q (y.2 ∙ sums_closed y.0 t r (omega (arith, y.1)))) (lead_close r)

on_factor : (s : List ℕ) (t : Tree) → Claim Rank.factor s t → Claim Rank.product s t
on_factor s t d r c zero l = absurd (omega arith)
on_factor s t d r c (suc f) l = (f, omega (arith, length-append s r), product_on f (skip (s ++ r)) (skip r) t (d r c f (omega arith)))

on_product : (s : List ℕ) (t : Tree) → Claim Rank.product s t → Claim Rank.sum s t
on_product s t d r c n zero l = absurd (omega arith)
on_product s t d r c n (suc f) l =
    let x = d r c f (omega arith) in
    (f, omega (arith, length-append s r), sum_on f (skip (s ++ r)) (skip r) t (x.2 ∙ products_end x.0 t r n (omega (arith, x.1))))

reads : {k : Rank} {s : List ℕ} {t : Tree} → Spells k s t → Claim k s t
reads (a_product {s = s} {t = t} d) = on_product s t (reads d)
reads (sum_more {s = s} {s' = s'} {c = a} {o = o} {t = t} {u = u} d w e) = λ r c n f l.
    let q : (s ++ (a ∷ s')) ++ r ≡ s ++ (a ∷ (s' ++ r)) = append_assoc s (a ∷ s') r in
    let y = reads d (a ∷ (s' ++ r)) (sum_sign_lem w (s' ++ r)).1 (sum_sign_lem w (s' ++ r)).2 f (rw q at l) in
    more_sums s s' r a o t u f w n y.0 y.1 (rw q y.2) (λ g h. reads e r c g h)
reads (a_factor {s = s} {t = t} d) = on_factor s t (reads d)
reads (product_more {s = s} {s' = s'} {c = a} {o = o} {t = t} {u = u} d w e) = λ r c f l.
    let q : (s ++ (a ∷ s')) ++ r ≡ s ++ (a ∷ (s' ++ r)) = append_assoc s (a ∷ s') r in
    let y = reads d (a ∷ (s' ++ r)) (product_sign_lem w (s' ++ r)).1 f (rw q at l) in
    more_products s s' r a o t u f w y.0 y.1 (rw q y.2) (λ g h. reads e r c g h)
reads (a_number d h) = on_number d h
reads (a_name d) = on_name d
reads (negative {s = s} {t = t} d) = on_minus s t (reads d)
reads (bracketed {s = s} {t = t} d) = on_group s t (reads d)
reads (space_before {s = s} {t = t} d) = λ r c f l. ap (λ x. factor f x) (skip_space (s ++ r)) ∙ reads d r c f (omega arith)
reads (space_after {s = s} {t = t} d) = λ r c f l.
    let q : (s ++ (32 ∷ [])) ++ r ≡ s ++ (32 ∷ r) = append_assoc s (32 ∷ []) r in
    rw q (reads d (32 ∷ r) refl f (rw q at l) ∙ rw (skip_space r) refl)

sums_finish : (g : ℕ) (t : Tree) → 1 ≤ g → sums g t (skip []) ≡ some (t, [])
unfolding skip lead
sums_finish zero t l = absurd (omega arith)
sums_finish (suc g) t l = sums_suc g t []

nil_stops : NoProduct []
unfolding skip lead
nil_stops d k = refl

-- every derivation's tree is the computed one
pub line_reads : {s : List ℕ} {t : Tree} → Line s t → reading s ≡ some t
unfolding reading
line_reads {s} {t} d =
    let q : s ++ [] ≡ s = append-nil s in
    let y = reads d [] tt nil_stops (enough s) (rw q (omega arith)) in
    let e : sum (enough s) (skip s) ≡ some (t, []) = rw q at (y.2 ∙ sums_finish y.0 t (omega (arith, y.1))) in
    rw e refl

-- "show that no line has two readings"
pub unique : {s : List ℕ} {t u : Tree} → Line s t → Line s u → t ≡ u
unique {s} {t} {u} d e = some_inj t u (sym (line_reads d) ∙ line_reads e)
