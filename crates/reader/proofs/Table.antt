-- The opcode tables against what the code tests, by computing all 256 bytes.
use Prim.Native.Nat.{ℕ, zero, suc, ◌/◌, ◌%◌, ◌^◌, ◌<◌}
use native.Mathlib.Nat.{eq-or-lt_of_le, le_of_suc-le-suc}
use native.Mathlib.Omega.{arith}
use mathlib.Core.Path.{◌≡◌, refl, sym, ap, ◌∙◌}
use mathlib.Core.Logic.{inl, inr, ⊎_elim}
use mathlib.Core.Bool.{Bool, true, false, not, xor, ◌&&◌, ◌||◌, cond, true≢false}
use lib.Dec.{ltb, leb, eqb}
use borrow.Author.Tests.{eqb-true}
use Rattle.rules.specs.Instructions.{opcodes, opcode_of}
use Rattle.rules.specs.Tables.{unknown_edition}
use Rattle.soundness.specs.Readable.{KnownEdition, known_edition}
use Rattle.format.proofs.Tests.{and_left, and_right}
use Rattle.reader.specs.Cut.{size_in, is_bare, is_wide, bits_of, earlier}

all_below : ℕ → (ℕ → Bool) → Bool
all_below zero f = true
all_below (suc n) f = all_below n f && f n

all_at : (n : ℕ) (f : ℕ → Bool) → all_below n f ≡ true → (i : ℕ) → i < n → f i ≡ true
unfolding all_below
all_at zero f e i h = absurd (omega arith)
all_at (suc n) f e i h =
    ⊎_elim (λ q. ap f q ∙ and_right (all_below n f) (f n) e) (λ l. all_at n f (and_left (all_below n f) (f n) e) i l)
    (eq-or-lt_of_le (le_of_suc-le-suc h))

-- ---- sizes, by a bit for each opcode

-- where no bit is set, what edition 4 adds
abbrev pub size_by_bits : ℕ → ℕ → ℕ
size_by_bits e b =
    cond (ltb 63 b) 0
    (cond (eqb (bits_of is_wide (earlier e) / 2 ^ b % 2) 1) 5
    (cond (eqb (bits_of is_bare (earlier e) / 2 ^ b % 2) 1) 1
    (cond (eqb e 4 && (eqb b 6 || eqb b 49 || eqb b 52)) 5
    (cond (eqb e 4 && (eqb b 48 || eqb b 50 || eqb b 51)) 1 0))))

abbrev sized_in : ℕ → ℕ → Bool
sized_in e b = eqb (size_by_bits e b) (size_in (opcode_of (opcodes e) b))

first_sizes : all_below 256 (sized_in 1) ≡ true
unfolding all_below
first_sizes = refl

third_sizes : all_below 256 (sized_in 3) ≡ true
unfolding all_below
third_sizes = refl

fourth_sizes : all_below 256 (sized_in 4) ≡ true
unfolding all_below
fourth_sizes = refl

sizes : (e : ℕ) → KnownEdition e → all_below 256 (sized_in e) ≡ true
sizes e (inl q) = rw q first_sizes
sizes e (inr (inl q)) = rw q third_sizes
sizes e (inr (inr q)) = rw q fourth_sizes

pub size_by_bits_lem : (e b : ℕ) → unknown_edition e ≡ false → b < 256 → size_by_bits e b ≡ size_in (opcode_of (opcodes e) b)
size_by_bits_lem e b known h = eqb-true _ _ (all_at 256 (sized_in e) (sizes e (known_edition e known)) b h)

-- ---- opcodes that stand alone, by comparisons

abbrev first_bare : ℕ → Bool
first_bare b = eqb b 2 || (leb 5 b && leb b 25) || (leb 34 b && leb b 37)

abbrev third_bare : ℕ → Bool
third_bare b = eqb b 2 || (leb 7 b && leb b 31) || eqb b 40 || eqb b 43 || eqb b 44 || eqb b 46

abbrev fourth_bare : ℕ → Bool
fourth_bare b = third_bare b || eqb b 48 || eqb b 50 || eqb b 51

like : (x y : Bool) → not (xor x y) ≡ true → x ≡ y
unfolding xor
like true true h = refl
like true false h = absurd (true≢false (sym h))
like false true h = absurd (true≢false (sym h))
like false false h = refl

pub first_bare_lem : (b : ℕ) → b < 256 → first_bare b ≡ is_bare (opcode_of (opcodes 1) b)
unfolding all_below xor
first_bare_lem b h = like _ _ (all_at 256 (λ b. not (xor (first_bare b) (is_bare (opcode_of (opcodes 1) b)))) refl b h)

pub third_bare_lem : (b : ℕ) → b < 256 → third_bare b ≡ is_bare (opcode_of (opcodes 3) b)
unfolding all_below xor
third_bare_lem b h = like _ _ (all_at 256 (λ b. not (xor (third_bare b) (is_bare (opcode_of (opcodes 3) b)))) refl b h)

pub fourth_bare_lem : (b : ℕ) → b < 256 → fourth_bare b ≡ is_bare (opcode_of (opcodes 4) b)
unfolding all_below xor
fourth_bare_lem b h = like _ _ (all_at 256 (λ b. not (xor (fourth_bare b) (is_bare (opcode_of (opcodes 4) b)))) refl b h)
