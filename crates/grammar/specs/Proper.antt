-- What a derivation says of its tree: numbers that fit, names of parameters, and not more instructions than bytes.
use Rattle.std.specs.Prelude.{◌≡◌, refl, ℕ, suc, ◌+◌, ◌≤◌, ◌<◌, List, [], ◌∷◌, length}
use Rattle.std.proofs.Common.{arith, length-append}
use Rattle.rules.specs.Grammar.{Tree, number, name, minus, both, group, Name, is_r, is_g, is_b, Numeral, digit, next, Rank, Spells, a_product, sum_more, a_factor, product_more, a_number, a_name, negative, bracketed, space_before, space_after}
use Rattle.rules.specs.Formula.{need, numbers, postfix}

-- numbers are ints, and names are those of three parameters
abbrev pub Proper : Tree → Type 0
Proper (number n) = n < 4294967296
Proper (name i) = i < 3
Proper (minus t) = Proper t
Proper (both o t u) = Proper t × Proper u
Proper (group t) = Proper t

name_below : {c i : ℕ} → Name c i → i < 3
name_below is_r = omega arith
name_below is_g = omega arith
name_below is_b = omega arith

pub spells_proper : {k : Rank} {s : List ℕ} {t : Tree} → Spells k s t → Proper t
spells_proper (a_product d) = spells_proper d
spells_proper (sum_more d w e) = (spells_proper d, spells_proper e)
spells_proper (a_factor d) = spells_proper d
spells_proper (product_more d w e) = (spells_proper d, spells_proper e)
spells_proper (a_number d h) = omega arith
spells_proper (a_name d) = name_below d
spells_proper (negative d) = spells_proper d
spells_proper (bracketed d) = spells_proper d
spells_proper (space_before d) = spells_proper d
spells_proper (space_after d) = spells_proper d

-- ---- sizes

-- instructions of a tree, `ret` apart
abbrev pub count : Tree → ℕ
count (number n) = 1
count (name i) = 1
count (minus t) = suc (count t)
count (both o t u) = suc (count t + count u)
count (group t) = count t

pub postfix_count : (t : Tree) (k : ℕ) → length (postfix k t) ≡ count t
postfix_count (number n) k = refl
postfix_count (name i) k = refl
postfix_count (minus t) k = let h : length (postfix k t) ≡ count t = postfix_count t k in simp length-append (omega arith)
postfix_count (both o t u) k =
    let a : length (postfix k t) ≡ count t = postfix_count t k in
    let b : length (postfix (k + length (numbers t)) u) ≡ count u = postfix_count u (k + length (numbers t)) in
    simp length-append (omega arith)
postfix_count (group t) k = postfix_count t k

numeral_some : {s : List ℕ} {n : ℕ} → Numeral s n → 1 ≤ length s
numeral_some (digit d) = omega arith
numeral_some (next {s = s} {c = c} h d) = omega (arith, length-append s (c ∷ []))

-- every instruction has a byte of its own in the line, so a line of 256 bytes runs in 257 steps
pub spells_count : {k : Rank} {s : List ℕ} {t : Tree} → Spells k s t → count t ≤ length s
spells_count (a_product d) = spells_count d
spells_count (sum_more {s = s} {s' = s'} {c = c} d w e) = omega (arith, length-append s (c ∷ s'), spells_count d, spells_count e)
spells_count (a_factor d) = spells_count d
spells_count (product_more {s = s} {s' = s'} {c = c} d w e) = omega (arith, length-append s (c ∷ s'), spells_count d, spells_count e)
spells_count (a_number d h) = numeral_some d
spells_count (a_name d) = omega arith
spells_count (negative d) = omega (arith, spells_count d)
spells_count (bracketed {s = s} d) = omega (arith, length-append s (41 ∷ []), spells_count d)
spells_count (space_before d) = omega (arith, spells_count d)
spells_count (space_after {s = s} d) = omega (arith, length-append s (32 ∷ []), spells_count d)

pub numbers_count : (t : Tree) → length (numbers t) ≤ count t
numbers_count (number n) = omega arith
numbers_count (name i) = omega arith
numbers_count (minus t) = omega (arith, numbers_count t)
numbers_count (both o t u) = omega (arith, length-append (numbers t) (numbers u), numbers_count t, numbers_count u)
numbers_count (group t) = numbers_count t

-- every tree leaves an operand
pub need_some : (t : Tree) → 1 ≤ need t
need_some (number n) = omega arith
need_some (name i) = omega arith
need_some (minus t) = need_some t
need_some (both o t u) = omega (arith, need_some u)
need_some (group t) = need_some t
