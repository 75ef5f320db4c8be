-- What the first test in number order says; what rows 1 to 5 leave where they don't hold.
use Prim.Native.Nat.{ℕ, suc, ◌+◌, ◌*◌, ◌≤◌, ◌<◌}
use native.Mathlib.Nat.{le_trans}
use native.Mathlib.Omega.{arith}
use mathlib.Core.Path.{◌≡◌, refl, sym, ap, ◌∙◌}
use mathlib.Core.Bool.{Bool, true, false, ◌&&◌, ◌||◌}
use mathlib.Core.List.{List, [], ◌∷◌, ◌++◌}
use lib.ListN.{length}
use lib.Dec.{eqb, ltb}
use borrow.Author.Tests.{lt-ltb, le-ltb, ne_eqb, ltb-false, eqb-true}
use Rattle.rules.specs.Bytes.{word}
use Rattle.rules.specs.Tables.{first_of, differs, unknown_edition, structure_limit}
use Rattle.rules.specs.ModuleFile.{edition, short, other_edition, other_total, over_limit, not_packed, constants_at, functions_at, labels_at, code_at, structures_at, structures, code_length, entry_length}
use Rattle.soundness.specs.Tests.{decide, or_neither}
use Rattle.soundness.specs.Readable.{same_numbers}
use Rattle.format.specs.Layout.{sections_of, Declares, size_tests, header_tests, Packed}
use Rattle.format.proofs.Editions.{limit_small}

-- ---- the first test

pub first_hit : (n : ℕ) (hs ts : List Bool) → (first_of (suc n) hs ≡ 0 → ⊥) → first_of (suc n) (hs ++ ts) ≡ first_of (suc n) hs
unfolding first_of
first_hit n [] ts h = absurd (h refl)
first_hit n (true ∷ hs) ts h = refl
first_hit n (false ∷ hs) ts h = first_hit (suc n) hs ts h

pub first_miss : (n : ℕ) (t : Bool) (ts : List Bool) → first_of (suc n) (t ∷ ts) ≡ 0 → (t ≡ false) × (first_of (suc (suc n)) ts ≡ 0)
unfolding first_of
first_miss n true ts h = let z : suc n ≡ 0 = h in absurd (omega arith)
first_miss n false ts h = (refl, h)

pub first_none : (n : ℕ) (hs ts : List Bool) → first_of (suc n) (hs ++ ts) ≡ 0 → first_of (suc n) hs ≡ 0
unfolding first_of
first_none n [] ts h = refl
first_none n (true ∷ hs) ts h = h
first_none n (false ∷ hs) ts h = first_none (suc n) hs ts h

-- ---- rows 1 and 2 by edition

pub short_fourth : (s : List ℕ) → edition s ≡ 4 → length s < 56 → short s ≡ true
short_fourth s e l = rw e (lt-ltb (length s) 56 l)

pub long_fourth : (s : List ℕ) → edition s ≡ 4 → 56 ≤ length s → short s ≡ false
long_fourth s e l = rw e (le-ltb (length s) 56 l)

pub long_other : (s : List ℕ) → (edition s ≡ 4 → ⊥) → 48 ≤ length s → short s ≡ false
long_other s e l = simp (ne_eqb (edition s) 4 e, le-ltb (length s) 48 l)

-- which of editions 1 and 3, of one that is not 4
pub unknown_other : (e : ℕ) → (e ≡ 4 → ⊥) → unknown_edition e ≡ (differs e 1 && differs e 3)
unknown_other e four = rw (ne_eqb e 4 four) (go (differs e 1 && differs e 3))
  where
    go : (b : Bool) → (b && true) ≡ b
    go true = refl
    go false = refl

pub from_sizes : (s : List ℕ) → short s ≡ false → other_edition s ≡ false → first_of 1 (header_tests s) ≡ first_of 3 (size_tests s)
unfolding first_of
from_sizes s long known = simp (long, known)

pub plain_declares : (s : List ℕ) (e : ℕ) → 48 ≤ length s → e ≡ edition s → (e ≡ 4 → ⊥) → Declares s e 0 0
plain_declares s e l q four =
    record { header = l; edition_is = q; structures_is = simp (ne_eqb (edition s) 4 (λ p. four (q ∙ p))); small = omega arith; offset_is = λ p. absurd (four p) }

pub fourth_declares : (s : List ℕ) (z a : ℕ) → 56 ≤ length s → edition s ≡ 4 → z ≡ word 4 s 48 → z < 4294967296 → a ≡ word 4 s 52 → Declares s 4 z a
fourth_declares s z a l q y m o = record { header = omega arith; edition_is = sym q; structures_is = rw q y; small = m; offset_is = λ p. o }

-- the offset of structures, which only edition 4 has
pub offset_fourth : (e a w x : ℕ) → (e ≡ 4 → a ≡ w) → (eqb e 4 && differs a x) ≡ (eqb e 4 && differs w x)
offset_fourth e a w x h = decide (eqb e 4) (λ y. rw y (ap (λ (b : ℕ). differs b x) (h (eqb-true e 4 y)))) (λ y. rw y refl)

-- ---- rows 1 to 5

pub record Header (s : List ℕ) : Type 0 where
  pub long : short s ≡ false
  pub known : other_edition s ≡ false
  pub total : other_total s ≡ false
  pub limits : over_limit s ≡ false
  pub packed : not_packed s ≡ false

pub header_of_lem : (s : List ℕ) → first_of 1 (header_tests s) ≡ 0 → Header s
header_of_lem s h =
    let p = first_miss 0 _ _ h in
    let q = first_miss 1 _ _ p.1 in
    let r = first_miss 2 _ _ q.1 in
    let t = first_miss 3 _ _ r.1 in
    let u = first_miss 4 _ _ t.1 in
    record { long = p.0; known = q.0; total = r.0; limits = t.0; packed = u.0 }

pub packed_of : (s : List ℕ) → Header s → Packed s (sections_of s)
unfolding over_limit not_packed
packed_of s h =
    let l5 = or_neither _ _ h.limits in
    let l4 = or_neither _ _ l5.0 in
    let l3 = or_neither _ _ l4.0 in
    let l2 = or_neither _ _ l3.0 in
    let l1 = or_neither _ _ l2.0 in
    let most : structure_limit (edition s) ≤ 16 = limit_small (edition s) in
    let few : structures s ≤ structure_limit (edition s) = ltb-false _ _ l4.1 in
    let offsets : Bool =
    differs (word 4 s 12) (constants_at s) || differs (word 4 s 20) (functions_at s) || differs (word 4 s 28) (labels_at s)
    || differs (word 4 s 36) (code_at s) || (eqb (edition s) 4 && differs (word 4 s 52) (structures_at s)) in
    let sum : Bool = differs (structures_at s + 12 * structures s) (word 4 s 4) in
    let p5 = or_neither (offsets || sum) (ltb (code_length s) (entry_length s)) h.packed in
    let p4 = or_neither offsets sum p5.0 in
    record {
      known = h.known;
      constants_is = refl;
      functions_is = refl;
      labels_is = refl;
      extent_is = refl;
      entry_is = refl;
      records_is = refl;
      targets_is = refl;
      code_is = refl;
      pool_is = refl;
      structures_is = refl;
      stride_is = refl;
      few_constants = ltb-false _ _ l1.0;
      few_functions = ltb-false _ _ l1.1;
      few_labels = ltb-false _ _ l2.1;
      little_code = ltb-false _ _ l3.1;
      few_structures = le_trans few most;
      whole = same_numbers _ _ p4.1 ∙ same_numbers _ _ h.total;
      entry_inside = ltb-false _ _ p5.1;
    }
