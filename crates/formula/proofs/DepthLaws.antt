-- A part is at least as deep as each part that it is made of, so that what is too deep stays so.
use mathlib.Core.Path.{◌≡◌, refl, sym, ap, ◌∙◌}
use Prim.Native.Nat.{ℕ, zero, suc, ◌≤◌}
use native.Mathlib.Omega.{arith}
use mathlib.Core.Option.{none, some}
use mathlib.Core.List.{List}
use Rattle.soundness.specs.Tests.{none_some, some_inj}
use Rattle.rules.specs.Grammar.{Sign, plus, dash, star, slash, Tree, minus, both, group, depth}
use Rattle.rules.specs.Reading.{Lead, numeral, letter, sign, opening, closing, nothing, lead, Part, onward, negated, closed_by, product_sign, sum_sign, sums, product, products, factor}
use Rattle.formula.specs.Tokens.{negatives}

pub same_tree : {t u : Tree} {x y : List ℕ} → ◌≡◌ {A = Part} (some (t, x)) (some (u, y)) → t ≡ u
same_tree {t} {u} {x} {y} e = ap (λ (z : Tree × List ℕ). z.0) (some_inj (t, x) (u, y) e)

-- the first of two parts, where both are read
pub onward_some : (p : Part) (k : Tree → List ℕ → Part) (t : Tree) (r : List ℕ) → onward p k ≡ some (t, r) → (u : Tree) × (x : List ℕ) × (p ≡ some (u, x)) × (k u x ≡ some (t, r))
onward_some none k t r e = none_some e
onward_some (some z) k t r e = (z.0, z.1, refl, e)

-- ---- brackets and minuses

pub closed_group : (l : Lead) (u t : Tree) (r : List ℕ) → closed_by u l ≡ some (t, r) → t ≡ group u
closed_group (numeral n s) u t r e = none_some e
closed_group (letter i s) u t r e = none_some e
closed_group (sign o s) u t r e = none_some e
closed_group (opening s) u t r e = none_some e
closed_group (closing s) u t r e = sym (same_tree e)
closed_group nothing u t r e = none_some e

abbrev pub minuses : ℕ → Tree → Tree
minuses zero t = t
minuses (suc n) t = minuses n (minus t)

pub depth_minuses : (n : ℕ) (t : Tree) → depth (minuses n t) ≡ depth t
depth_minuses zero t = refl
depth_minuses (suc n) t = depth_minuses n (minus t)

pub negatives_read : (n : ℕ) (t : Tree) (r : List ℕ) → negatives n (some (t, r)) ≡ some (minuses n t, r)
negatives_read zero t r = refl
negatives_read (suc n) t r = negatives_read n (minus t) r

pub negatives_some : (n : ℕ) (p : Part) (t : Tree) (r : List ℕ) → negatives n p ≡ some (t, r) → (u : Tree) × (x : List ℕ) × (p ≡ some (u, x)) × (depth t ≡ depth u)
negatives_some zero p t r e = (t, r, e, refl)
negatives_some (suc n) p t r e =
    let z = negatives_some n (onward p (λ u x. negated u x)) t r e in
    let y = onward_some p (λ u x. negated u x) z.0 z.1 z.2 in
    (y.0, y.1, y.2, z.3 ∙ ap depth (sym (same_tree y.3)))

-- ---- sums and products

pub product_cases : (P : Part → Type 0) (l : Lead) (d : Part) (k : Sign → List ℕ → Part) → P d → ((o : Sign) (r : List ℕ) → P (k o r)) → P (product_sign l d k)
product_cases P (numeral n s) d k p q = p
product_cases P (letter i s) d k p q = p
product_cases P (sign plus s) d k p q = p
product_cases P (sign dash s) d k p q = p
product_cases P (sign star s) d k p q = q star s
product_cases P (sign slash s) d k p q = q slash s
product_cases P (opening s) d k p q = p
product_cases P (closing s) d k p q = p
product_cases P nothing d k p q = p

pub sum_cases : (P : Part → Type 0) (l : Lead) (d : Part) (k : Sign → List ℕ → Part) → P d → ((o : Sign) (r : List ℕ) → P (k o r)) → P (sum_sign l d k)
sum_cases P (numeral n s) d k p q = p
sum_cases P (letter i s) d k p q = p
sum_cases P (sign plus s) d k p q = q plus s
sum_cases P (sign dash s) d k p q = q dash s
sum_cases P (sign star s) d k p q = p
sum_cases P (sign slash s) d k p q = p
sum_cases P (opening s) d k p q = p
sum_cases P (closing s) d k p q = p
sum_cases P nothing d k p q = p

pub products_deep : (f : ℕ) (t : Tree) (s : List ℕ) (u : Tree) (r : List ℕ) → products f t s ≡ some (u, r) → depth t ≤ depth u
unfolding products
products_deep zero t s u r e = none_some e
products_deep (suc f) t s u r e =
    product_cases (λ p. p ≡ some (u, r) → depth t ≤ depth u) (lead s) (some (t, s)) (λ o x. onward (factor f x) (λ v y. products f (both o t v) y))
    (λ q. let z : t ≡ u = same_tree q in rw z (omega arith))
    (λ o x q. let z = onward_some (factor f x) (λ v y. products f (both o t v) y) u r q in omega (arith, products_deep f (both o t z.0) z.1 u r z.3))
    e

pub sums_deep : (f : ℕ) (t : Tree) (s : List ℕ) (u : Tree) (r : List ℕ) → sums f t s ≡ some (u, r) → depth t ≤ depth u
unfolding sums
sums_deep zero t s u r e = none_some e
sums_deep (suc f) t s u r e =
    sum_cases (λ p. p ≡ some (u, r) → depth t ≤ depth u) (lead s) (some (t, s)) (λ o x. onward (product f x) (λ v y. sums f (both o t v) y))
    (λ q. let z : t ≡ u = same_tree q in rw z (omega arith))
    (λ o x q. let z = onward_some (product f x) (λ v y. sums f (both o t v) y) u r q in omega (arith, sums_deep f (both o t z.0) z.1 u r z.3))
    e
