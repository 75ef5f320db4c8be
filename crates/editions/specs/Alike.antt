-- 02, A7: code and tables of editions 3 and 4 with paired function records are cut alike and refused alike.
use Rattle.std.specs.Prelude.{◌≡◌, true, not, ◌&&◌, ◌||◌, get_or, eqb}
use Rattle.std.proofs.Math.Path.{refl}
use Rattle.std.proofs.Common.{sym, ap, ◌∙◌}
use Prim.Native.Nat.{ℕ, zero, suc, ◌+◌, ◌*◌, ◌%◌, ◌≤◌, ◌<◌}
use native.Mathlib.Omega.{arith}
use Rattle.std.proofs.Math.Bool.{Bool, false}
use mathlib.Core.List.{List, [], ◌∷◌}
use Rattle.std.proofs.Math.ListN.{length}
use Rattle.std.proofs.Math.Dec.{ltb}
use Rattle.rules.specs.Bytes.{byte, word, some_below}
use Rattle.rules.specs.Instructions.{is_absent}
use Rattle.rules.specs.Tables.{Bodies, Tables, tables, function_at, label_at, differs, number_type, pointer_type, structure_type, managed_type, odd_return, bad_param, bad_record, bad_function, bad_functions, end_before, opcode_at, due_after, due, unknown_at, crossed, bad_code, owns, bad_label, bad_labels, label_count, first_of, content_tests}
use Rattle.rules.specs.Writing.{too_many, broken, table_refusal}
use Rattle.rules.specs.Converting.{new_type}
use Rattle.soundness.specs.Tests.{decide, eqb_is, ltb_is, ltb_isnt, false_true, or_neither}
use Rattle.soundness.specs.Readable.{none_below}
use Rattle.soundness.specs.Numbering.{third_in_fourth}
use Rattle.editions.specs.Paired.{Paired, pair_byte, pair_byte_at, pair_start, pair_length, pair_counts}

-- tests that agree below n
pub same_below : (n : ℕ) (f g : ℕ → Bool) → ((i : ℕ) → i < n → f i ≡ g i) → some_below n f ≡ some_below n g
unfolding some_below
same_below zero f g h = refl
same_below (suc n) f g h = rw (same_below n f g (λ i l. h i (omega arith)), h n (omega arith))

-- no i below n passes a test that none passes
pub none_found : (n : ℕ) (f : ℕ → Bool) → ((i : ℕ) → i < n → f i ≡ false) → some_below n f ≡ false
unfolding some_below
none_found zero f h = refl
none_found (suc n) f h = rw (none_found n f (λ i l. h i (omega arith)), h n (omega arith))

-- ---- types: what edition 3 knows edition 4 knows, too

more_return : (d a m : Bool) → (d && not (a || false)) ≡ false → (d && not (a || m)) ≡ false
more_return false a m h = refl
more_return true true m h = refl
more_return true false m h = false_true (sym h)

more_param : (u a m x : Bool) → ((u && not (a || false)) || x) ≡ false → ((u && not (a || m)) || x) ≡ false
more_param false a m x h = h
more_param true true m x h = h
more_param true false m x h = false_true (sym h)

-- the signatures of the first n functions have only types that edition 3 knows
abbrev pub Signed : ℕ → List ℕ → Type 0
Signed n gs = (i : ℕ) → i < n → new_type gs i ≡ false

-- ---- opcodes

-- code of which edition 3 knows every instruction, by either edition's cut
abbrev pub Known : List ℕ → Type 0
Known code = (p : ℕ) → p < length code → due 3 code p ≡ 0 → due 4 code p ≡ 0 → is_absent (opcode_at 3 code p) ≡ false

module _ (code : List ℕ) (known : Known code) where
  -- where an instruction begins in both cuts it has the same opcode; past the code's end there is none
  opcode_at_lem : (p : ℕ) → due 3 code p ≡ 0 → due 4 code p ≡ 0 → opcode_at 4 code p ≡ opcode_at 3 code p
  opcode_at_lem p d e =
      decide (ltb p (length code)) (λ y. third_in_fourth (byte code p) (known p (ltb_is p (length code) y) d e))
      (λ y. let z : byte code p ≡ 0 = get_or_past code p (ltb_isnt p (length code) y) in rw z refl)
    where
      get_or_past : (l : List ℕ) (i : ℕ) → length l ≤ i → get_or l i 0 ≡ 0
      get_or_past [] i h = refl
      get_or_past (x ∷ l) zero h = absurd (omega arith)
      get_or_past (x ∷ l) (suc i) h = get_or_past l i (omega arith)

  -- both editions cut it alike
  pub same_due : (p : ℕ) → due 4 code p ≡ due 3 code p
  unfolding due
  same_due zero = refl
  same_due (suc p) = go (due 3 code p) refl (same_due p)
    where
      go : (d : ℕ) → due 3 code p ≡ d → due 4 code p ≡ due 3 code p → due_after (due 4 code p) (opcode_at 4 code p) ≡ due_after (due 3 code p) (opcode_at 3 code p)
      go zero q r = rw (r, opcode_at_lem p q (r ∙ q))
      go (suc d) q r = rw (r, q)

  -- so an instruction begins with the same opcode
  pub same_opcode : (p : ℕ) → due 3 code p ≡ 0 → opcode_at 4 code p ≡ opcode_at 3 code p
  same_opcode p d = opcode_at_lem p d (same_due p ∙ d)

  -- a place with no opcode
  same_unknown : (p : ℕ) → unknown_at 4 code p ≡ unknown_at 3 code p
  unfolding unknown_at
  same_unknown p =
      decide (eqb (due 3 code p) 0) (λ y. rw (same_due p, same_opcode p (eqb_is (due 3 code p) 0 y))) (λ y. rw (same_due p, y))

-- ---- tables

-- these tables in each edition, with its function records and without structures
abbrev pub third_of : Tables → List ℕ → Tables
third_of t fs = tables 3 t.constants fs t.labels [] t.bodies.code t.bodies.entry

abbrev pub fourth_of : Tables → List ℕ → Tables
fourth_of t gs = tables 4 t.constants gs t.labels [] t.bodies.code t.bodies.entry

module _ (n : ℕ) (fs gs : List ℕ) (p : Paired n fs gs) where
  -- a parameter byte of function i, by the rules of edition 3
  same_param : (i : ℕ) → i < n → (j : ℕ) → j < 8 → bad_param 3 0 gs (function_at 4 i) j ≡ bad_param 3 0 fs (function_at 3 i) j
  unfolding bad_param
  same_param i l j h = rw (pair_byte n fs gs p i 8 l (omega arith), pair_byte_at n fs gs p i 10 j l (omega arith))

  -- all eight
  same_params : (i : ℕ) → i < n → some_below 8 (bad_param 3 0 gs (function_at 4 i)) ≡ some_below 8 (bad_param 3 0 fs (function_at 3 i))
  same_params i l = same_below 8 (bad_param 3 0 gs (function_at 4 i)) (bad_param 3 0 fs (function_at 3 i)) (same_param i l)

  -- the types of function i in each edition's records
  pub same_types : (i : ℕ) → i < n → new_type gs i ≡ (odd_return 3 0 (byte fs (function_at 3 i + 9)) || some_below 8 (bad_param 3 0 fs (function_at 3 i)))
  same_types i l = rw (pair_byte n fs gs p i 9 l (omega arith), same_params i l)

  -- the record of function i, where edition 3 knows its types
  module _ (i : ℕ) (l : i < n) (old : new_type gs i ≡ false) where
    old_types : (odd_return 3 0 (byte gs (function_at 4 i + 9)) ≡ false) × (some_below 8 (bad_param 3 0 gs (function_at 4 i)) ≡ false)
    old_types = or_neither (odd_return 3 0 (byte gs (function_at 4 i + 9))) (some_below 8 (bad_param 3 0 gs (function_at 4 i))) old

    return_4 : odd_return 4 0 (byte gs (function_at 4 i + 9)) ≡ false
    return_4 = let t : ℕ = byte gs (function_at 4 i + 9) in more_return (differs t 0) (number_type t || structure_type 0 t) (managed_type 4 0 t) old_types.0

    return_3 : odd_return 3 0 (byte fs (function_at 3 i + 9)) ≡ false
    return_3 = sym (ap (λ (t : ℕ). odd_return 3 0 t) (pair_byte n fs gs p i 9 l (omega arith))) ∙ old_types.0

    params_4 : some_below 8 (bad_param 4 0 gs (function_at 4 i)) ≡ false
    unfolding bad_param
    params_4 =
        none_found 8 (bad_param 4 0 gs (function_at 4 i))
        (λ j h. let t : ℕ = byte gs (function_at 4 i + 10 + j) in
        let u : Bool = ltb j (byte gs (function_at 4 i + 8)) in
        more_param u (number_type t || pointer_type 4 t || structure_type 0 t) (managed_type 4 0 t) (not u && differs t 0)
        (none_below 8 (bad_param 3 0 gs (function_at 4 i)) old_types.1 j h))

    params_3 : some_below 8 (bad_param 3 0 fs (function_at 3 i)) ≡ false
    params_3 = sym (same_params i l) ∙ old_types.1

    same_record : (from : ℕ) → bad_record 4 0 gs (function_at 4 i) from ≡ bad_record 3 0 fs (function_at 3 i) from
    unfolding bad_record
    same_record from =
        rw (
          return_4,
          return_3,
          params_4,
          params_3,
          pair_start n fs gs p i,
          pair_length n fs gs p i,
          pair_byte n fs gs p i 8 l (omega arith),
          pair_byte n fs gs p i 18 l (omega arith),
          pair_byte n fs gs p i 19 l (omega arith),
        )

  -- an owner of a place
  same_owns : (m o q : ℕ) → owns 4 gs m o q ≡ owns 3 fs m o q
  unfolding owns
  same_owns m o q = rw ((pair_counts n fs gs p).0, (pair_counts n fs gs p).1, pair_start n fs gs p o, pair_length n fs gs p o)

  module _ (t : Tables) where
    abbrev B3 : Bodies
    B3 = (third_of t fs).bodies

    abbrev B4 : Bodies
    B4 = (fourth_of t gs).bodies

    -- where bodies end
    same_ends : (i : ℕ) → end_before B4 i ≡ end_before B3 i
    unfolding end_before
    same_ends zero = refl
    same_ends (suc i) = rw (same_ends i, pair_length n fs gs p i)

    -- row 7, of one function and of all
    same_function : Signed n gs → (i : ℕ) → i < n → bad_function B4 i ≡ bad_function B3 i
    unfolding bad_function
    same_function signed i l = rw (same_ends i) (same_record i l (signed i l) (end_before B3 i))

    same_functions : Signed n gs → bad_functions B4 ≡ bad_functions B3
    unfolding bad_functions
    same_functions signed =
        rw ((pair_counts n fs gs p).0, (pair_counts n fs gs p).1, same_ends n, same_below n (bad_function B4) (bad_function B3) (same_function signed))

    -- row 4
    same_many : too_many (fourth_of t gs) ≡ too_many (third_of t fs)
    unfolding too_many
    same_many = rw ((pair_counts n fs gs p).0, (pair_counts n fs gs p).1)

    -- row 5
    same_broken : broken (fourth_of t gs) ≡ broken (third_of t fs)
    unfolding broken
    same_broken =
        let a : length gs ≡ 24 * n = p.long in
        let b : length fs ≡ 20 * n = p.short in
        let x : length gs % 24 ≡ 0 = omega arith in
        let y : length fs % 20 ≡ 0 = omega arith in
        rw (x, y)

    module _ (known : Known t.bodies.code) (signed : Signed n gs) where
      -- row 8, at a body's end and of all code
      same_crossed : (i : ℕ) → crossed B4 i ≡ crossed B3 i
      unfolding crossed
      same_crossed i = rw (same_ends i, same_due t.bodies.code known (end_before B3 i))

      same_code : bad_code B4 ≡ bad_code B3
      unfolding bad_code
      same_code =
          let code : List ℕ = t.bodies.code in
          rw (
            (pair_counts n fs gs p).0,
            (pair_counts n fs gs p).1,
            same_below (length code) (unknown_at 4 code) (unknown_at 3 code) (λ q l. same_unknown code known q),
            same_below (suc n) (crossed B4) (crossed B3) (λ i l. same_crossed i),
          )

      -- row 9, of one label and of all
      same_label : (i : ℕ) → bad_label B4 t.labels i ≡ bad_label B3 t.labels i
      unfolding bad_label
      same_label i =
          let o : ℕ = word 4 t.labels (label_at i) in
          let q : ℕ = word 4 t.labels (label_at i + 4) in rw (same_owns t.bodies.entry o q, same_due t.bodies.code known q)

      same_labels : bad_labels B4 t.labels ≡ bad_labels B3 t.labels
      unfolding bad_labels
      same_labels = same_below (label_count t.labels) (bad_label B4 t.labels) (bad_label B3 t.labels) (λ i l. same_label i)

      -- rows 6 to 9
      same_content : content_tests (fourth_of t gs) ≡ content_tests (third_of t fs)
      same_content = rw (same_functions signed, same_code, same_labels)

      -- tables of edition 4 are refused as those of edition 3
      pub same_refusal : table_refusal (fourth_of t gs) ≡ table_refusal (third_of t fs)
      unfolding table_refusal
      same_refusal =
          rw (same_many, same_broken)
          (ap (λ (x : List Bool). first_of 2 (false ∷ false ∷ too_many (third_of t fs) ∷ broken (third_of t fs) ∷ x)) same_content)
