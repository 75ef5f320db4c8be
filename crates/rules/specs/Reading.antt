-- 02, A4: the reading of a line, computed, so that the answers compute. That it is the grammar's is `derived` and `read` of
-- `Compiled`.
use Rattle.std.specs.Prelude.{ℕ, zero, suc, ◌+◌, ◌*◌, ◌-◌, Bool, true, false, ◌&&◌, cond, List, [], ◌∷◌, length, leb, eqb}
use Rattle.std.proofs.Math.Option.{Option, none, some}
use Rattle.rules.specs.Grammar.{Sign, plus, dash, star, slash, Tree, number, name, minus, both, group}

abbrev pub is_digit : ℕ → Bool
is_digit c = leb 48 c && leb c 57

-- without the spaces in front
unfoldable pub skip : List ℕ → List ℕ
skip [] = []
skip (c ∷ s) = cond (eqb c 32) (skip s) (c ∷ s)

-- the digits in front, after others that spell n: the number, and what is left
unfoldable pub digits : ℕ → List ℕ → ℕ × List ℕ
digits n [] = (n, [])
digits n (c ∷ s) = cond (is_digit c) (digits (10 * n + (c - 48)) s) (n, c ∷ s)

-- what stands in front, and the line after it and the spaces that follow
pub data Lead : Type 0 where
  numeral : ℕ → List ℕ → Lead
  letter : ℕ → List ℕ → Lead
  sign : Sign → List ℕ → Lead
  opening : List ℕ → Lead
  closing : List ℕ → Lead
  nothing : Lead

abbrev pub mark_of : ℕ → List ℕ → Lead
mark_of c s =
    cond (eqb c 43) (sign plus s) (cond (eqb c 45) (sign dash s) (cond (eqb c 42) (sign star s) (cond (eqb c 47) (sign slash s)
    (cond (eqb c 40) (opening s) (cond (eqb c 41) (closing s) (cond (eqb c 114) (letter 0 s) (cond (eqb c 103) (letter 1 s) (cond (eqb c 98) (letter 2 s) nothing))))))))

abbrev pub lead_of : Bool → ℕ → List ℕ → Lead
lead_of true c s = numeral (digits (c - 48) s).0 (skip (digits (c - 48) s).1)
lead_of false c s = mark_of c (skip s)

unfoldable pub lead : List ℕ → Lead
lead [] = nothing
lead (c ∷ s) = lead_of (is_digit c) c s

-- a tree and the line after it
abbrev pub Part : Type 0
Part = Option (Tree × List ℕ)

abbrev pub onward : Part → (Tree → List ℕ → Part) → Part
onward none k = none
onward (some x) k = k x.0 x.1

abbrev pub limited : ℕ → List ℕ → Part
limited n s = cond (leb n 4294967295) (some (number n, s)) none

-- what begins a factor; m after a minus, o after an opening bracket
abbrev pub factor_of : Lead → (List ℕ → Part) → (List ℕ → Part) → Part
factor_of (numeral n s) m o = limited n s
factor_of (letter i s) m o = some (name i, s)
factor_of (sign plus s) m o = none
factor_of (sign dash s) m o = m s
factor_of (sign star s) m o = none
factor_of (sign slash s) m o = none
factor_of (opening s) m o = o s
factor_of (closing s) m o = none
factor_of nothing m o = none

abbrev pub negated : Tree → List ℕ → Part
negated t s = some (minus t, s)

abbrev pub closed_by : Tree → Lead → Part
closed_by t (numeral n s) = none
closed_by t (letter i s) = none
closed_by t (sign o s) = none
closed_by t (opening s) = none
closed_by t (closing s) = some (group t, s)
closed_by t nothing = none

abbrev pub closed : Tree → List ℕ → Part
closed t s = closed_by t (lead s)

-- a sign of products, or of sums, with k after it; else d
abbrev pub product_sign : Lead → Part → (Sign → List ℕ → Part) → Part
product_sign (numeral n s) d k = d
product_sign (letter i s) d k = d
product_sign (sign plus s) d k = d
product_sign (sign dash s) d k = d
product_sign (sign star s) d k = k star s
product_sign (sign slash s) d k = k slash s
product_sign (opening s) d k = d
product_sign (closing s) d k = d
product_sign nothing d k = d

abbrev pub sum_sign : Lead → Part → (Sign → List ℕ → Part) → Part
sum_sign (numeral n s) d k = d
sum_sign (letter i s) d k = d
sum_sign (sign plus s) d k = k plus s
sum_sign (sign dash s) d k = k dash s
sum_sign (sign star s) d k = d
sum_sign (sign slash s) d k = d
sum_sign (opening s) d k = d
sum_sign (closing s) d k = d
sum_sign nothing d k = d

-- the first argument bounds how deep the calls go; 4 for each byte and 3 more are always enough
unfoldable mutual
  pub sum : ℕ → List ℕ → Part
  sum zero s = none
  sum (suc f) s = onward (product f s) (λ t r. sums f t r)

  -- the signs and products after the sum t
  pub sums : ℕ → Tree → List ℕ → Part
  sums zero t s = none
  sums (suc f) t s = sum_sign (lead s) (some (t, s)) (λ o r. onward (product f r) (λ u r'. sums f (both o t u) r'))

  pub product : ℕ → List ℕ → Part
  product zero s = none
  product (suc f) s = onward (factor f s) (λ t r. products f t r)

  pub products : ℕ → Tree → List ℕ → Part
  products zero t s = none
  products (suc f) t s = product_sign (lead s) (some (t, s)) (λ o r. onward (factor f r) (λ u r'. products f (both o t u) r'))

  pub factor : ℕ → List ℕ → Part
  factor zero s = none
  factor (suc f) s = factor_of (lead s) (λ r. onward (factor f r) (λ t r'. negated t r')) (λ r. onward (sum f r) (λ t r'. closed t r'))

abbrev pub whole_of : Tree → List ℕ → Option Tree
whole_of t [] = some t
whole_of t (c ∷ s) = none

-- a part after which nothing is left
abbrev pub whole : Part → Option Tree
whole none = none
whole (some x) = whole_of x.0 x.1

abbrev pub enough : List ℕ → ℕ
enough s = 4 * length s + 3

-- the tree of a line; none for a line that is not in the grammar
unfoldable pub reading : List ℕ → Option Tree
reading s = whole (sum (enough s) (skip s))
