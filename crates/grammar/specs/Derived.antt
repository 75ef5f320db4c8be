-- What `reading` computes has a derivation, so that a line is in the grammar exactly where `reading` gives a tree.
use Rattle.std.specs.Prelude.{◌≡◌, refl, ℕ, zero, suc, ◌+◌, ◌*◌, ◌-◌, Bool, true, false, List, [], ◌∷◌, ◌++◌, leb, eqb}
use Rattle.std.proofs.Common.{sym, ap, ◌∙◌, subst, append_assoc, append-nil}
use Rattle.std.proofs.Math.Option.{none, some}
use Rattle.soundness.specs.Tests.{decide, eqb_is, leb_is, some_inj, none_some}
use Rattle.rules.specs.Grammar.{Sign, plus, dash, star, slash, Tree, minus, both, group, Digit, Name, is_r, is_g, is_b, Numeral, digit, next, SumSign, is_plus, is_dash, ProductSign, is_star, is_slash, Rank, Spells, a_product, sum_more, a_factor, product_more, a_number, a_name, negative, bracketed, space_before, space_after, Line}
use Rattle.rules.specs.Reading.{is_digit, skip, digits, Lead, numeral, letter, sign, opening, closing, nothing, mark_of, lead, Part, onward, factor_of, negated, closed, closed_by, product_sign, sum_sign, sum, sums, product, products, factor, reading, enough, whole, whole_of}
use Rattle.grammar.specs.Steps.{digit_is, lead_digit}

-- ---- what stands in front

data Front : List ℕ → Lead → Type 0 where
  with_number : {p : List ℕ} {n : ℕ} → Numeral p n → (x : List ℕ) → Front (p ++ x) (numeral n (skip x))
  with_name : {c i : ℕ} → Name c i → (x : List ℕ) → Front (c ∷ x) (letter i (skip x))
  with_plus : (x : List ℕ) → Front (43 ∷ x) (sign plus (skip x))
  with_dash : (x : List ℕ) → Front (45 ∷ x) (sign dash (skip x))
  with_star : (x : List ℕ) → Front (42 ∷ x) (sign star (skip x))
  with_slash : (x : List ℕ) → Front (47 ∷ x) (sign slash (skip x))
  with_open : (x : List ℕ) → Front (40 ∷ x) (opening (skip x))
  with_close : (x : List ℕ) → Front (41 ∷ x) (closing (skip x))
  with_nothing : {s : List ℕ} → Front s nothing

mark_front : (c : ℕ) (x : List ℕ) → Front (c ∷ x) (mark_of c (skip x))
mark_front c x =
    decide (eqb c 43) (λ e. hit 43 e (with_plus x)) (λ e₁. decide (eqb c 45) (λ e. hit 45 e (with_dash x)) (λ e₂. decide (eqb c 42) (λ e. hit 42 e (with_star x)) (λ e₃.
    decide (eqb c 47) (λ e. hit 47 e (with_slash x)) (λ e₄. decide (eqb c 40) (λ e. hit 40 e (with_open x)) (λ e₅. decide (eqb c 41) (λ e. hit 41 e (with_close x)) (λ e₆.
    decide (eqb c 114) (λ e. hit 114 e (with_name is_r x)) (λ e₇. decide (eqb c 103) (λ e. hit 103 e (with_name is_g x)) (λ e₈. decide (eqb c 98) (λ e. hit 98 e (with_name is_b x)) (λ e₉.
    rw (e₁, e₂, e₃, e₄, e₅, e₆, e₇, e₈, e₉) with_nothing)))))))))
  where
    hit : (k : ℕ) → eqb c k ≡ true → Front (k ∷ x) (mark_of k (skip x)) → Front (c ∷ x) (mark_of c (skip x))
    hit k e h = subst (λ j. Front (j ∷ x) (mark_of j (skip x))) (sym (eqb_is c k e)) h

-- the digits in front, after others
digits_begin : {p : List ℕ} {n : ℕ} → Numeral p n → (x : List ℕ) → (q : List ℕ) × (p ++ x ≡ q ++ (digits n x).1) × Numeral q (digits n x).0
unfolding digits
digits_begin {p = p} {n = n} d [] = (p, refl, d)
digits_begin {p = p} {n = n} d (c ∷ x) = go (is_digit c) refl (λ h. digits_begin {p = p ++ (c ∷ [])} {n = 10 * n + (c - 48)} (next d h) x)
  where
    go : (b : Bool) → is_digit c ≡ b → ((h : Digit c) → (q : List ℕ) × ((p ++ (c ∷ [])) ++ x ≡ q ++ (digits (10 * n + (c - 48)) x).1) × Numeral q (digits (10 * n + (c - 48)) x).0)
        → (q : List ℕ) × (p ++ (c ∷ x) ≡ q ++ (digits n (c ∷ x)).1) × Numeral q (digits n (c ∷ x)).0
    go true e k = let y = k (digit_is c e) in (y.0, rw e (sym (append_assoc p (c ∷ []) x) ∙ y.1), rw e y.2)
    go false e k = (p, rw e refl, rw e d)

in_front : (s : List ℕ) → Front s (lead s)
unfolding lead
in_front [] = with_nothing
in_front (c ∷ x) = go (is_digit c) refl
  where
    go : (b : Bool) → is_digit c ≡ b → Front (c ∷ x) (lead (c ∷ x))
    go true e =
        let y = digits_begin (digit (digit_is c e)) x in
        let z : Front (y.0 ++ (digits (c - 48) x).1) (numeral (digits (c - 48) x).0 (skip (digits (c - 48) x).1)) = with_number y.2 (digits (c - 48) x).1 in
        rw (lead_digit c x e) (rw y.1 z)
    go false e = rw e (mark_front c x)

-- ---- spaces

space_front : {k : Rank} {s : List ℕ} {t : Tree} → Spells k s t → Spells k (32 ∷ s) t
space_front (a_product d) = a_product (space_front d)
space_front (sum_more d w e) = sum_more (space_front d) w e
space_front (a_factor d) = a_factor (space_front d)
space_front (product_more d w e) = product_more (space_front d) w e
space_front (a_number d h) = space_before (a_number d h)
space_front (a_name d) = space_before (a_name d)
space_front (negative d) = space_before (negative d)
space_front (bracketed d) = space_before (bracketed d)
space_front (space_before d) = space_before (space_before d)
space_front (space_after d) = space_before (space_after d)

-- spaces in front belong to what follows
before : {k : Rank} {p : List ℕ} {t : Tree} → Spells k p t → (x r : List ℕ) → skip x ≡ p ++ r → (q : List ℕ) × (x ≡ q ++ r) × Spells k q t
unfolding skip
before {k} {p} {t} d [] r e = (p, e, d)
before {k} {p} {t} d (c ∷ x) r e = go (eqb c 32) refl (λ h. before d x r h)
  where
    go : (b : Bool) → eqb c 32 ≡ b → (skip x ≡ p ++ r → (q : List ℕ) × (x ≡ q ++ r) × Spells k q t) → (q : List ℕ) × (c ∷ x ≡ q ++ r) × Spells k q t
    go true h i = let y = i (rw h at e) in (32 ∷ y.0, ap (λ z. z ∷ x) (eqb_is c 32 h) ∙ ap (λ z. 32 ∷ z) y.1, space_front y.2)
    go false h i = (p, rw h at e, d)

-- spaces after a factor belong to it
after : {p : List ℕ} {t : Tree} → Spells Rank.factor p t → (x : List ℕ) → (q : List ℕ) × (p ++ x ≡ q ++ skip x) × Spells Rank.factor q t
unfolding skip
after {p} {t} d [] = (p, refl, d)
after {p} {t} d (c ∷ x) = go (eqb c 32) refl (after (space_after d) x)
  where
    go : (b : Bool) → eqb c 32 ≡ b → (q : List ℕ) × ((p ++ (32 ∷ [])) ++ x ≡ q ++ skip x) × Spells Rank.factor q t → (q : List ℕ) × (p ++ (c ∷ x) ≡ q ++ skip (c ∷ x)) × Spells Rank.factor q t
    go true h y = (y.0, rw (eqb_is c 32 h) (sym (append_assoc p (32 ∷ []) x) ∙ y.1), y.2)
    go false h y = (p, rw h refl, d)

-- ---- the readers

-- what a reader gave is spelled
abbrev Spelled : Rank → List ℕ → Tree → List ℕ → Type 0
Spelled k s t r = (p : List ℕ) × (s ≡ p ++ r) × Spells k p t

-- what more a reader of signs gave goes on from any that was read before
abbrev Goes : Rank → Tree → List ℕ → Tree → List ℕ → Type 0
Goes k t s u r = (q : List ℕ) × (s ≡ q ++ r) × ((p : List ℕ) → Spells k p t → Spells k (p ++ q) u)

onward_some : (P : Part) (k : Tree → List ℕ → Part) (t : Tree) (r : List ℕ) → onward P k ≡ some (t, r) → (u : Tree) × (r' : List ℕ) × (P ≡ some (u, r')) × (k u r' ≡ some (t, r))
onward_some none k t r e = none_some e
onward_some (some x) k t r e = (x.0, x.1, refl, e)

tree_is : (t u : Tree) (r r' : List ℕ) → ◌≡◌ {A = Part} (some (t, r)) (some (u, r')) → t ≡ u
tree_is t u r r' e = ap (λ (x : Tree × List ℕ). x.0) (some_inj (t, r) (u, r') e)

rest_is : (t u : Tree) (r r' : List ℕ) → ◌≡◌ {A = Part} (some (t, r)) (some (u, r')) → r ≡ r'
rest_is t u r r' e = ap (λ (x : Tree × List ℕ). x.1) (some_inj (t, r) (u, r') e)

-- a factor that ends in front of x
ends_at : {p : List ℕ} {t : Tree} → Spells Rank.factor p t → (x : List ℕ) (u : Tree) (r : List ℕ) → ◌≡◌ {A = Part} (some (t, skip x)) (some (u, r)) → Spelled Rank.factor (p ++ x) u r
ends_at {p} {t} d x u r e =
    let y = after d x in
    let a : t ≡ u = tree_is t u (skip x) r e in
    let b : skip x ≡ r = rest_is t u (skip x) r e in
    (y.0, rw b at y.1, subst (λ v. Spells Rank.factor y.0 v) a y.2)

-- the closing bracket
closes : (s : List ℕ) (l : Lead) → Front s l → (t u : Tree) (r : List ℕ) → closed_by t l ≡ some (u, r) → (y : List ℕ) × (s ≡ 41 ∷ y) × (◌≡◌ {A = Part} (some (group t, skip y)) (some (u, r)))
closes s l (with_number d x) t u r e = none_some e
closes s l (with_name d x) t u r e = none_some e
closes s l (with_plus x) t u r e = none_some e
closes s l (with_dash x) t u r e = none_some e
closes s l (with_star x) t u r e = none_some e
closes s l (with_slash x) t u r e = none_some e
closes s l (with_open x) t u r e = none_some e
closes s l (with_close x) t u r e = (x, refl, e)
closes s l with_nothing t u r e = none_some e

-- a group that ends in front of y
ends_group : {p : List ℕ} {t : Tree} → Spells Rank.sum p t → (x y s : List ℕ) (u : Tree) (r : List ℕ) → x ≡ p ++ s → s ≡ 41 ∷ y
    → ◌≡◌ {A = Part} (some (group t, skip y)) (some (u, r)) → Spelled Rank.factor (40 ∷ x) u r
ends_group {p} d x y s u r e q h =
    let a = ends_at (bracketed d) y u r h in
    (a.0, ap (λ j. 40 ∷ j) (e ∙ ap (λ j. p ++ j) q ∙ sym (append_assoc p (41 ∷ []) y)) ∙ a.1, a.2)

-- the callees, each as far as f allows
module _ (f : ℕ) (hf : (s : List ℕ) (t : Tree) (r : List ℕ) → factor f s ≡ some (t, r) → Spelled Rank.factor s t r) where
  module _ (hs : (s : List ℕ) (t : Tree) (r : List ℕ) → sum f s ≡ some (t, r) → Spelled Rank.sum s t r) where
    factor_by : (s : List ℕ) (l : Lead) → Front s l → (t : Tree) (r : List ℕ)
        → factor_of l (λ r. onward (factor f r) (λ t r'. negated t r')) (λ r. onward (sum f r) (λ t r'. closed t r')) ≡ some (t, r) → Spelled Rank.factor s t r
    factor_by s l (with_number {p = p} {n = n} d x) t r e =
        decide (leb n 4294967295) (λ h. ends_at (a_number d (leb_is n 4294967295 h)) x t r (rw h at e)) (λ h. none_some (rw h at e))
    factor_by s l (with_name d x) t r e = ends_at (a_name d) x t r e
    factor_by s l (with_plus x) t r e = none_some e
    factor_by s l (with_dash x) t r e =
        let y = onward_some (factor f (skip x)) (λ t r'. negated t r') t r e in
        let z = hf (skip x) y.0 y.1 y.2 in
        let w = before z.2 x y.1 z.1 in
        (45 ∷ w.0, ap (λ v. 45 ∷ v) (w.1 ∙ ap (λ v. w.0 ++ v) (rest_is (minus y.0) t y.1 r y.3)), subst (λ v. Spells Rank.factor (45 ∷ w.0) v) (tree_is (minus y.0) t y.1 r y.3) (negative w.2))
    factor_by s l (with_star x) t r e = none_some e
    factor_by s l (with_slash x) t r e = none_some e
    factor_by s l (with_open x) t r e =
        let y = onward_some (sum f (skip x)) (λ t r'. closed t r') t r e in
        let z = hs (skip x) y.0 y.1 y.2 in
        let w = before z.2 x y.1 z.1 in
        let v = closes y.1 (lead y.1) (in_front y.1) y.0 t r y.3 in
        ends_group w.2 x v.0 y.1 t r w.1 v.1 v.2
    factor_by s l (with_close x) t r e = none_some e
    factor_by s l with_nothing t r e = none_some e

  module _ (hp : (t : Tree) (s : List ℕ) (u : Tree) (r : List ℕ) → products f t s ≡ some (u, r) → Goes Rank.product t s u r) where
    stay_product : (t : Tree) (s : List ℕ) (u : Tree) (r : List ℕ) → ◌≡◌ {A = Part} (some (t, s)) (some (u, r)) → Goes Rank.product t s u r
    stay_product t s u r e =
        ([], rest_is t u s r e, λ p d. rw (append-nil p) (subst (λ v. Spells Rank.product p v) (tree_is t u s r e) d))

    more_product : {c : ℕ} {o : Sign} → ProductSign c o → (t : Tree) (x : List ℕ) (u : Tree) (r : List ℕ)
        → onward (factor f (skip x)) (λ u r'. products f (both o t u) r') ≡ some (u, r) → Goes Rank.product t (c ∷ x) u r
    more_product {c} {o} w t x u r e =
        let y = onward_some (factor f (skip x)) (λ u r'. products f (both o t u) r') u r e in
        let z = hf (skip x) y.0 y.1 y.2 in
        let v = before z.2 x y.1 z.1 in
        let g = hp (both o t y.0) y.1 u r y.3 in (
          c ∷ (v.0 ++ g.0),
          ap (λ j. c ∷ j) (v.1 ∙ ap (λ j. v.0 ++ j) g.1 ∙ sym (append_assoc v.0 g.0 r)),
          λ p d. rw append_assoc at (g.2 (p ++ (c ∷ v.0)) (product_more d w v.2)),
        )

    products_by : (s : List ℕ) (l : Lead) → Front s l → (t u : Tree) (r : List ℕ)
        → product_sign l (some (t, s)) (λ o r. onward (factor f r) (λ u r'. products f (both o t u) r')) ≡ some (u, r) → Goes Rank.product t s u r
    products_by s l (with_number {p = p} d x) t u r e = stay_product t (p ++ x) u r e
    products_by s l (with_name {c = c} d x) t u r e = stay_product t (c ∷ x) u r e
    products_by s l (with_plus x) t u r e = stay_product t (43 ∷ x) u r e
    products_by s l (with_dash x) t u r e = stay_product t (45 ∷ x) u r e
    products_by s l (with_star x) t u r e = more_product is_star t x u r e
    products_by s l (with_slash x) t u r e = more_product is_slash t x u r e
    products_by s l (with_open x) t u r e = stay_product t (40 ∷ x) u r e
    products_by s l (with_close x) t u r e = stay_product t (41 ∷ x) u r e
    products_by s l (with_nothing {s = x}) t u r e = stay_product t x u r e

    product_by : (s : List ℕ) (u : Tree) (r : List ℕ) → onward (factor f s) (λ t r. products f t r) ≡ some (u, r) → Spelled Rank.product s u r
    product_by s u r e =
        let y = onward_some (factor f s) (λ t r. products f t r) u r e in
        let z = hf s y.0 y.1 y.2 in
        let g = hp y.0 y.1 u r y.3 in
        (z.0 ++ g.0, z.1 ∙ ap (λ j. z.0 ++ j) g.1 ∙ sym (append_assoc z.0 g.0 r), g.2 z.0 (a_factor z.2))

module _ (f : ℕ) (hf : (s : List ℕ) (t : Tree) (r : List ℕ) → product f s ≡ some (t, r) → Spelled Rank.product s t r)
    (hp : (t : Tree) (s : List ℕ) (u : Tree) (r : List ℕ) → sums f t s ≡ some (u, r) → Goes Rank.sum t s u r) where
  stay_sum : (t : Tree) (s : List ℕ) (u : Tree) (r : List ℕ) → ◌≡◌ {A = Part} (some (t, s)) (some (u, r)) → Goes Rank.sum t s u r
  stay_sum t s u r e =
      ([], rest_is t u s r e, λ p d. rw (append-nil p) (subst (λ v. Spells Rank.sum p v) (tree_is t u s r e) d))

  more_sum : {c : ℕ} {o : Sign} → SumSign c o → (t : Tree) (x : List ℕ) (u : Tree) (r : List ℕ)
      → onward (product f (skip x)) (λ u r'. sums f (both o t u) r') ≡ some (u, r) → Goes Rank.sum t (c ∷ x) u r
  more_sum {c} {o} w t x u r e =
      let y = onward_some (product f (skip x)) (λ u r'. sums f (both o t u) r') u r e in
      let z = hf (skip x) y.0 y.1 y.2 in
      let v = before z.2 x y.1 z.1 in
      let g = hp (both o t y.0) y.1 u r y.3 in (
        c ∷ (v.0 ++ g.0),
        ap (λ j. c ∷ j) (v.1 ∙ ap (λ j. v.0 ++ j) g.1 ∙ sym (append_assoc v.0 g.0 r)),
        λ p d. rw append_assoc at (g.2 (p ++ (c ∷ v.0)) (sum_more d w v.2)),
      )

  sums_by : (s : List ℕ) (l : Lead) → Front s l → (t u : Tree) (r : List ℕ)
      → sum_sign l (some (t, s)) (λ o r. onward (product f r) (λ u r'. sums f (both o t u) r')) ≡ some (u, r) → Goes Rank.sum t s u r
  sums_by s l (with_number {p = p} d x) t u r e = stay_sum t (p ++ x) u r e
  sums_by s l (with_name {c = c} d x) t u r e = stay_sum t (c ∷ x) u r e
  sums_by s l (with_plus x) t u r e = more_sum is_plus t x u r e
  sums_by s l (with_dash x) t u r e = more_sum is_dash t x u r e
  sums_by s l (with_star x) t u r e = stay_sum t (42 ∷ x) u r e
  sums_by s l (with_slash x) t u r e = stay_sum t (47 ∷ x) u r e
  sums_by s l (with_open x) t u r e = stay_sum t (40 ∷ x) u r e
  sums_by s l (with_close x) t u r e = stay_sum t (41 ∷ x) u r e
  sums_by s l (with_nothing {s = x}) t u r e = stay_sum t x u r e

  sum_by : (s : List ℕ) (u : Tree) (r : List ℕ) → onward (product f s) (λ t r. sums f t r) ≡ some (u, r) → Spelled Rank.sum s u r
  sum_by s u r e =
      let y = onward_some (product f s) (λ t r. sums f t r) u r e in
      let z = hf s y.0 y.1 y.2 in
      let g = hp y.0 y.1 u r y.3 in
      (z.0 ++ g.0, z.1 ∙ ap (λ j. z.0 ++ j) g.1 ∙ sym (append_assoc z.0 g.0 r), g.2 z.0 (a_product z.2))

mutual
  unfolding sum

  sum_spells : (f : ℕ) (s : List ℕ) (t : Tree) (r : List ℕ) → sum f s ≡ some (t, r) → Spelled Rank.sum s t r
  sum_spells zero s t r e = none_some e
  sum_spells (suc f) s t r e = sum_by f (λ s t r e. product_spells f s t r e) (λ t s u r e. sums_spells f t s u r e) s t r e

  sums_spells : (f : ℕ) (t : Tree) (s : List ℕ) (u : Tree) (r : List ℕ) → sums f t s ≡ some (u, r) → Goes Rank.sum t s u r
  sums_spells zero t s u r e = none_some e
  sums_spells (suc f) t s u r e = sums_by f (λ s t r e. product_spells f s t r e) (λ t s u r e. sums_spells f t s u r e) s (lead s) (in_front s) t u r e

  product_spells : (f : ℕ) (s : List ℕ) (t : Tree) (r : List ℕ) → product f s ≡ some (t, r) → Spelled Rank.product s t r
  product_spells zero s t r e = none_some e
  product_spells (suc f) s t r e = product_by f (λ s t r e. factor_spells f s t r e) (λ t s u r e. products_spells f t s u r e) s t r e

  products_spells : (f : ℕ) (t : Tree) (s : List ℕ) (u : Tree) (r : List ℕ) → products f t s ≡ some (u, r) → Goes Rank.product t s u r
  products_spells zero t s u r e = none_some e
  products_spells (suc f) t s u r e = products_by f (λ s t r e. factor_spells f s t r e) (λ t s u r e. products_spells f t s u r e) s (lead s) (in_front s) t u r e

  factor_spells : (f : ℕ) (s : List ℕ) (t : Tree) (r : List ℕ) → factor f s ≡ some (t, r) → Spelled Rank.factor s t r
  factor_spells zero s t r e = none_some e
  factor_spells (suc f) s t r e = factor_by f (λ s t r e. factor_spells f s t r e) (λ s t r e. sum_spells f s t r e) s (lead s) (in_front s) t r e

whole_some : (P : Part) (t : Tree) → whole P ≡ some t → P ≡ some (t, [])
whole_some none t e = none_some e
whole_some (some x) t e = go x.0 x.1 e
  where
    go : (u : Tree) (r : List ℕ) → whole_of u r ≡ some t → ◌≡◌ {A = Part} (some (u, r)) (some (t, []))
    go u [] e = ap (λ (v : Tree). some (v, [])) (some_inj u t e)
    go u (c ∷ r) e = none_some e

-- the computed tree has a derivation
pub reading_spells : (s : List ℕ) (t : Tree) → reading s ≡ some t → Line s t
unfolding reading
reading_spells s t e =
    let y = sum_spells (enough s) (skip s) t [] (whole_some (sum (enough s) (skip s)) t e) in
    let z = before y.2 s [] y.1 in
    rw (z.1 ∙ append-nil z.0) z.2
