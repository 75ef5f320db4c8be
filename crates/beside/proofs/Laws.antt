-- Bodies by number, the bytes of a record one by one, its first 0, and 45.
use Prim.Native.Nat.{ℕ, zero, suc, ◌+◌, ◌-◌, ◌^◌, ◌≤◌, ◌<◌}
use mathlib.Core.Path.{◌≡◌, refl, ap, ◌∙◌, sym}
use native.Mathlib.Omega.{arith}
use mathlib.Core.Bool.{Bool, true, false, not, cond, ◌||◌}
use mathlib.Core.Option.{none, some}
use mathlib.Core.List.{List, [], ◌∷◌}
use lib.ListN.{length}
use lib.Dec.{ltb, eqb}
use Rattle.rules.specs.Bytes.{byte, word, some_below}
use Rattle.rules.specs.Tables.{Body, entry, fn, body_of, body_number}
use Rattle.rules.specs.Check.{bodies, functions_from}
use Rattle.rules.specs.Recording.{record_length, index_of, record_differs, first_zero}
use Rattle.soundness.specs.Tests.{eqb_same, eqb_other}
use Rattle.nodes.proofs.Bounds.{is_entry, is_function}
use Rattle.beside.specs.Bodies.{body_at}

-- ---- bodies by number

pub first_body : (i : ℕ) → i ≡ 0 → (0xffffffff ≡ body_number (body_at i)) × (body_of 0xffffffff ≡ body_at i) × (0xffffffff < 2 ^ 32)
first_body i z = rw z (refl, refl, omega arith)

pub later_body : (i : ℕ) → (i ≡ 0 → ⊥) → i ≤ 128 → (i - 1 ≡ body_number (body_at i)) × (body_of (i - 1) ≡ body_at i) × (i - 1 < 2 ^ 32)
later_body zero n h = absurd (n refl)
later_body (suc k) n h = let z : suc k - 1 ≡ k = omega arith in rw z (refl, is_function k (λ q. omega arith), omega arith)

pub entry_index : (o : ℕ) → o ≡ 0xffffffff → 0 ≡ index_of (body_of o)
entry_index o z = ap index_of (sym (is_entry o z))

pub function_index : (o : ℕ) → (o ≡ 0xffffffff → ⊥) → o + 1 ≡ index_of (body_of o)
function_index o n = let z : o + 1 ≡ suc o = omega arith in z ∙ ap index_of (sym (is_function o n))

-- ---- tests of records

pub some_more : (f : ℕ → Bool) (i : ℕ) (x : Bool) → x ≡ some_below i f → (x || f i) ≡ some_below (i + 1) f
unfolding some_below
some_more f i x e = let z : suc i ≡ i + 1 = omega arith in ap (λ y. y || f i) e ∙ ap (λ k. some_below k f) z

pub some_end : (f : ℕ → Bool) (i b : ℕ) (x : Bool) → x ≡ some_below i f → i ≡ b → x ≡ some_below b f
some_end f i b x e z = e ∙ ap (λ k. some_below k f) z

pub some_none : (f : ℕ → Bool) → false ≡ some_below 0 f
unfolding some_below
some_none f = refl

index_at : (i : ℕ) → index_of (body_at i) ≡ i
index_at zero = refl
index_at (suc k) = refl

-- n bodies from the i-th on
pub bodies_from : ℕ → ℕ → List Body
bodies_from i zero = []
bodies_from i (suc n) = body_at i ∷ bodies_from (suc i) n

functions_from_lem : (n k : ℕ) → functions_from n k ≡ bodies_from (suc k) n
unfolding bodies_from
functions_from_lem zero k = refl
functions_from_lem (suc n) k = ap {B = List Body} (λ w. fn k ∷ w) (functions_from_lem n (suc k))

pub search_first : (r : List ℕ) (b : ℕ) → 0 < b → first_zero r (bodies (b - 1)) ≡ first_zero r (bodies_from 0 (b - 0))
unfolding bodies_from
search_first r zero h = absurd (omega arith)
search_first r (suc n) h =
    let z : suc n - 1 ≡ n = omega arith in
    let y : suc n - 0 ≡ suc n = omega arith in
    ap (λ k. first_zero r (bodies k)) z ∙ ap (λ w. first_zero r (entry ∷ w)) (functions_from_lem n 0) ∙ ap (λ k. first_zero r (bodies_from 0 k)) (sym y)

module _ (r : List ℕ) (b i : ℕ) (l : i < b) where
  here : first_zero r (bodies_from i (b - i)) ≡ cond (eqb (byte r (8 + i)) 0) (some (body_at i)) (first_zero r (bodies_from (suc i) (b - suc i)))
  unfolding bodies_from
  here =
      let z : b - i ≡ suc (b - suc i) = omega arith in
      ap (λ k. first_zero r (bodies_from i k)) z ∙ ap (λ k. cond (eqb (byte r (8 + k)) 0) (some (body_at i)) (first_zero r (bodies_from (suc i) (b - suc i)))) (index_at i)

  pub search_found : byte r (8 + i) ≡ 0 → first_zero r (bodies_from i (b - i)) ≡ some (body_at i)
  search_found e = here ∙ rw e refl

  pub search_on : (byte r (8 + i) ≡ 0 → ⊥) → first_zero r (bodies_from i (b - i)) ≡ first_zero r (bodies_from (i + 1) (b - (i + 1)))
  search_on n = let z : suc i ≡ i + 1 = omega arith in here ∙ rw (eqb_other (byte r (8 + i)) 0 n) (ap (λ k. first_zero r (bodies_from k (b - k))) z)

pub search_done : (r : List ℕ) (b i : ℕ) → b ≤ i → i ≤ b → first_zero r (bodies_from i (b - i)) ≡ none
unfolding bodies_from
search_done r b i h l = let z : b - i ≡ 0 = omega arith in rw z refl

-- ---- 45

pub other_length : (r : List ℕ) (b : ℕ) → 0 < b → (length r ≡ 8 + b → ⊥) → true ≡ record_differs (b - 1) r
unfolding record_differs
other_length r b h n =
    rw (eqb_other (length r) (record_length (b - 1)) (λ z. n (omega arith))) (go (eqb (word 4 r 0) (suc (b - 1))) (eqb (word 4 r 4) 8))
  where
    go : (x y : Bool) → true ≡ (not x || not y || true || some_below (suc (b - 1)) (λ i. ltb 1 (byte r (8 + i))))
    go true true = refl
    go true false = refl
    go false y = refl

pub other_count : (r : List ℕ) (b : ℕ) → 0 < b → (word 4 r 0 ≡ b → ⊥) → true ≡ record_differs (b - 1) r
unfolding record_differs
other_count r b h n = rw (eqb_other (word 4 r 0) (suc (b - 1)) (λ z. n (omega arith))) refl

pub other_offset : (r : List ℕ) (b : ℕ) → 0 < b → (word 4 r 4 ≡ 8 → ⊥) → true ≡ record_differs (b - 1) r
unfolding record_differs
other_offset r b h n = rw (eqb_other (word 4 r 4) 8 n) (go (eqb (word 4 r 0) (suc (b - 1))))
  where
    go : (x : Bool) → true ≡ (not x || true || not (eqb (length r) (record_length (b - 1))) || some_below (suc (b - 1)) (λ i. ltb 1 (byte r (8 + i))))
    go true = refl
    go false = refl

pub good_head : (r : List ℕ) (b : ℕ) → 0 < b → length r ≡ 8 + b → word 4 r 0 ≡ b → word 4 r 4 ≡ 8 → some_below b (λ i. ltb 1 (byte r (8 + i))) ≡ record_differs (b - 1) r
unfolding record_differs
good_head r b h l n o =
    let z : suc (b - 1) ≡ b = omega arith in
    let y : length r ≡ record_length (b - 1) = omega arith in
    rw (eqb_is_yes (word 4 r 0) (suc (b - 1)) (n ∙ sym z), eqb_is_yes (word 4 r 4) 8 o, eqb_is_yes (length r) (record_length (b - 1)) y) (ap (λ k. some_below k (λ i. ltb 1 (byte r (8 + i)))) (sym z))
  where
    eqb_is_yes : (i j : ℕ) → i ≡ j → eqb i j ≡ true
    eqb_is_yes i j e = ap (λ k. eqb k j) e ∙ eqb_same j
