-- 02, A1: what is written can be read and gives the tables back, and what was read is written as it was.
use Rattle.std.proofs.Math.Path.{◌≡◌, refl, sym, ap}
use Rattle.std.proofs.Common.{◌∙◌, inl, inr, take_at, drop_at, take_all, take-add, drop-drop}
use Rattle.std.specs.Prelude.{◌≢◌, ◌⊎◌, Bool, not, ◌&&◌, ◌||◌, cond, get_or, ltb, eqb}
use Prim.Native.Nat.{ℕ, zero, suc, ◌+◌, ◌*◌, ◌/◌, ◌%◌, ◌^◌, ◌≤◌, ◌<◌}
use native.Mathlib.Omega.{arith}
use Rattle.std.proofs.Math.Bool.{true, false, or-false}
use mathlib.Core.List.{List, [], ◌∷◌, ◌++◌, append_assoc, append-nil}
use Rattle.std.proofs.Math.ListN.{length, take, drop, length-append, length-drop, take-append-drop}
use Rattle.rules.specs.Bytes.{bytes, words, word, cut}
use Rattle.rules.specs.Tables.{Tables, differs, header_size, function_size, unknown_edition, first_of, content_tests, constant_count, function_count, label_count, structure_count}
use Rattle.rules.specs.ModuleFile.{edition, constants, functions, labels, code_length, entry_length, structures, constants_at, functions_at, labels_at, code_at, structures_at, constants_in, functions_in, labels_in, code_in, structures_in, tables_in, short, other_edition, other_total, over_limit, not_packed, refusal}
use Rattle.rules.specs.Writing.{file_length, header_words, file_of, too_many, broken, table_refusal, write_number, wrote, write_with, write}
use Rattle.rules.specs.Numbers.{done, output_too_short}
use Rattle.rules.specs.Claims.{AreBytes}
use Rattle.rules.specs.Saved.{Saves}
use Rattle.memory.proofs.Words.{number_bytes}
use Rattle.memory.proofs.Copies.{word_bytes}
use Rattle.soundness.specs.Names.{Unwritten, Written}
use Rattle.soundness.specs.Tests.{decide, eqb_is, eqb_same, eqb_other, ltb_no, false_true, or_neither}
use Rattle.soundness.specs.Functions.{count_under, length_most, records_fill, records_whole}
use Rattle.soundness.specs.Readable.{same_numbers, KnownEdition, Good, GoodTables, good_tables}
use Rattle.soundness.specs.Cutting.{Packed, packed, constants_length, functions_length, labels_length, code_length_lem, structures_length, constant_count_lem, function_count_lem, label_count_lem, structure_count_lem, good_file}

-- ---- tests

differs_same : (a b : ℕ) → a ≡ b → differs a b ≡ false
differs_same a b e = ap not (ap (λ k. eqb k b) e ∙ eqb_same b)

differs_not : (a b : ℕ) → a ≢ b → differs a b ≡ true
differs_not a b n = ap not (eqb_other a b n)

-- two tests that hold together
differs_iff : (a b c d : ℕ) → (a ≡ b → c ≡ d) → (c ≡ d → a ≡ b) → differs a b ≡ differs c d
differs_iff a b c d f g =
    decide (eqb a b) (λ y. let e : a ≡ b = eqb_is a b y in differs_same a b e ∙ sym (differs_same c d (f e)))
    (λ y. ap not y ∙ sym (decide (eqb c d) (λ z. differs_same c d (eqb_is c d z) ∙ sym (differs_same a b (g (eqb_is c d z))) ∙ ap not y) (λ z. ap not z)))

-- row 5 of the file against row 5 of the tables, as numbers: function records of R bytes; header size H, lengths C, F, L, N, Z of the tables, entry length E; where g
-- holds, the header's last word W is the place of the structures
module _ (R H C F L N Z E W : ℕ) (fill : F % R ≡ 0 → R * (F / R) ≡ F) (full : R * (F / R) ≡ F → F % R ≡ 0) (g : Bool) (last : g ≡ true → W ≡ H + C + F + L + N) where
  abbrev loose : Bool
  loose =
      differs H H || differs (H + C) (H + 12 * (C / 12)) || differs (H + C + F) (H + 12 * (C / 12) + R * (F / R))
      || differs (H + C + F + L) (H + 12 * (C / 12) + R * (F / R) + 8 * (L / 8))
      || (g && differs W (H + 12 * (C / 12) + R * (F / R) + 8 * (L / 8) + N))
      || differs (H + 12 * (C / 12) + R * (F / R) + 8 * (L / 8) + N + 12 * (Z / 12)) (H + C + F + L + N + Z) || ltb N E

  abbrev parted : Bool
  parted = differs (C % 12) 0 || differs (F % R) 0 || differs (L % 8) 0 || differs (Z % 12) 0 || ltb N E

  same_row : loose ≡ parted
  same_row = at_c (differs (C % 12) 0) refl
    where
      h_test : differs H H ≡ false
      h_test = differs_same H H refl

      c_test : differs (H + C) (H + 12 * (C / 12)) ≡ differs (C % 12) 0
      c_test = differs_iff (H + C) (H + 12 * (C / 12)) (C % 12) 0 (λ e. omega arith) (λ e. omega arith)

      f_test : C % 12 ≡ 0 → differs (H + C + F) (H + 12 * (C / 12) + R * (F / R)) ≡ differs (F % R) 0
      f_test c = differs_iff (H + C + F) (H + 12 * (C / 12) + R * (F / R)) (F % R) 0 (λ e. full (omega arith)) (λ e. let q : R * (F / R) ≡ F = fill e in omega arith)

      l_test : C % 12 ≡ 0 → F % R ≡ 0 → differs (H + C + F + L) (H + 12 * (C / 12) + R * (F / R) + 8 * (L / 8)) ≡ differs (L % 8) 0
      l_test c f =
          let q : R * (F / R) ≡ F = fill f in
          differs_iff (H + C + F + L) (H + 12 * (C / 12) + R * (F / R) + 8 * (L / 8)) (L % 8) 0 (λ e. omega arith) (λ e. omega arith)

      w_test : C % 12 ≡ 0 → F % R ≡ 0 → L % 8 ≡ 0 → (g && differs W (H + 12 * (C / 12) + R * (F / R) + 8 * (L / 8) + N)) ≡ false
      w_test c f l =
          decide g
          (λ y. let q : W ≡ H + C + F + L + N = last y in
          let r : R * (F / R) ≡ F = fill f in
          rw y (differs_same W (H + 12 * (C / 12) + R * (F / R) + 8 * (L / 8) + N) (omega arith)))
          (λ y. rw y refl)

      z_test : C % 12 ≡ 0 → F % R ≡ 0 → L % 8 ≡ 0
          → differs (H + 12 * (C / 12) + R * (F / R) + 8 * (L / 8) + N + 12 * (Z / 12)) (H + C + F + L + N + Z) ≡ differs (Z % 12) 0
      z_test c f l =
          let q : R * (F / R) ≡ F = fill f in
          differs_iff (H + 12 * (C / 12) + R * (F / R) + 8 * (L / 8) + N + 12 * (Z / 12)) (H + C + F + L + N + Z) (Z % 12) 0 (λ e. omega arith)
          (λ e. omega arith)

      at_l : C % 12 ≡ 0 → F % R ≡ 0 → (x : Bool) → differs (L % 8) 0 ≡ x → loose ≡ parted
      at_l c f true y = rw (h_test, c_test, f_test c, l_test c f, differs_same (C % 12) 0 c, differs_same (F % R) 0 f, y)
      at_l c f false y =
          let l : L % 8 ≡ 0 = same_numbers (L % 8) 0 y in
          rw (h_test, c_test, f_test c, l_test c f, w_test c f l, z_test c f l, differs_same (C % 12) 0 c, differs_same (F % R) 0 f, y)

      at_f : C % 12 ≡ 0 → (x : Bool) → differs (F % R) 0 ≡ x → loose ≡ parted
      at_f c true y = rw (h_test, c_test, f_test c, differs_same (C % 12) 0 c, y)
      at_f c false y = at_l c (same_numbers (F % R) 0 y) (differs (L % 8) 0) refl

      at_c : (x : Bool) → differs (C % 12) 0 ≡ x → loose ≡ parted
      at_c true y = rw (h_test, c_test, y)
      at_c false y = at_f (same_numbers (C % 12) 0 y) (differs (F % R) 0) refl

-- ---- words, one after the other

length_words : (ws : List ℕ) → length (words ws) ≡ 4 * length ws
length_words [] = refl
length_words (w ∷ ws) = let h : length (words ws) ≡ 4 * length ws = length_words ws in omega arith

word_words : (ws rest : List ℕ) (i : ℕ) → get_or ws i 0 < 2 ^ 32 → i < length ws → word 4 (words ws ++ rest) (4 * i) ≡ get_or ws i 0
unfolding word
word_words [] rest i h l = absurd (omega arith)
word_words (w ∷ ws) rest zero h l = number_bytes 4 w (omega arith)
word_words (w ∷ ws) rest (suc i) h l =
    let q : 4 * suc i ≡ suc (suc (suc (suc (4 * i)))) = omega arith in rw q (word_words ws rest i h (omega arith))

cut_at : (p q r : List ℕ) (a n : ℕ) → length p ≡ a → length q ≡ n → cut (p ++ (q ++ r)) a n ≡ q
cut_at p q r a n h k = ap (take n) (drop_at p (q ++ r) a h) ∙ take_at q r n k

-- ---- the file of tables

abbrev numbers : Tables → List ℕ
numbers t =
    header_words t.bodies.edition (header_size t.bodies.edition) (length t.constants) (length t.bodies.functions) (length t.labels) (length t.bodies.code) (length t.bodies.structures) t.bodies.entry

abbrev constants_from : Tables → ℕ
constants_from t = header_size t.bodies.edition

abbrev functions_from : Tables → ℕ
functions_from t = constants_from t + length t.constants

abbrev labels_from : Tables → ℕ
labels_from t = functions_from t + length t.bodies.functions

abbrev code_from : Tables → ℕ
code_from t = labels_from t + length t.labels

abbrev structures_from : Tables → ℕ
structures_from t = code_from t + length t.bodies.code

-- the file has a place for the structures, or there are none
abbrev pub Placeable : Tables → Type 0
Placeable t = (t.bodies.edition ≡ 4) ⊎ (t.bodies.structures ≡ [])

header_limit : (e : ℕ) → header_size e ≤ 56
header_limit e = decide (eqb e 4) (λ y. rw y (omega arith)) (λ y. rw y (omega arith))

module _ (t : Tables) where
  header_length : length (words (numbers t)) ≡ constants_from t
  header_length = length_words (numbers t) ∙ decide (eqb t.bodies.edition 4) (λ y. rw y refl) (λ y. rw y refl)

  pub length_file : length (file_of t) ≡ file_length t
  unfolding file_of
  length_file =
      let h : length (words (numbers t)) ≡ constants_from t = header_length in
      simp length-append (omega arith)

module _ (t : Tables) (placeable : Placeable t) (short-edition : t.bodies.edition < 2 ^ 32) (small : file_length t < 2 ^ 32) (low : t.bodies.entry < 2 ^ 32) where
  header_word : (i : ℕ) → i < length (numbers t) → get_or (numbers t) i 0 < 2 ^ 32 → word 4 (file_of t) (4 * i) ≡ get_or (numbers t) i 0
  unfolding file_of
  header_word i l h = word_words (numbers t) (t.constants ++ (t.bodies.functions ++ (t.labels ++ (t.bodies.code ++ t.bodies.structures)))) i h l

  edition_back : edition (file_of t) ≡ t.bodies.edition
  edition_back = header_word 0 (omega arith) short-edition

  total_back : word 4 (file_of t) 4 ≡ file_length t
  total_back = header_word 1 (omega arith) small

  constants_back : constants (file_of t) ≡ constant_count t.constants
  constants_back = header_word 2 (omega arith) (omega arith)

  constants_at_back : word 4 (file_of t) 12 ≡ constants_from t
  constants_at_back = header_word 3 (omega arith) (omega arith)

  functions_back : functions (file_of t) ≡ function_count t.bodies.edition t.bodies.functions
  functions_back = let u : function_count t.bodies.edition t.bodies.functions ≤ length t.bodies.functions = count_under t.bodies.edition (length t.bodies.functions) in header_word 4 (omega arith) (omega arith)

  functions_at_back : word 4 (file_of t) 20 ≡ functions_from t
  functions_at_back = header_word 5 (omega arith) (omega arith)

  labels_back : labels (file_of t) ≡ label_count t.labels
  labels_back = header_word 6 (omega arith) (omega arith)

  labels_at_back : word 4 (file_of t) 28 ≡ labels_from t
  labels_at_back = header_word 7 (omega arith) (omega arith)

  code_back : code_length (file_of t) ≡ length t.bodies.code
  code_back = header_word 8 (omega arith) (omega arith)

  code_at_back : word 4 (file_of t) 36 ≡ code_from t
  code_at_back = header_word 9 (omega arith) (omega arith)

  entry_back : entry_length (file_of t) ≡ t.bodies.entry
  entry_back = header_word 10 (omega arith) low

  zero_back : word 4 (file_of t) 44 ≡ 0
  zero_back = header_word 11 (omega arith) (omega arith)

  constants_from_lem : constants_at (file_of t) ≡ constants_from t
  constants_from_lem = ap header_size edition_back

  -- of edition 4 alone
  structures_word : eqb t.bodies.edition 4 ≡ true → word 4 (file_of t) 48 ≡ structure_count t.bodies.structures
  structures_word y =
      let q : get_or (numbers t) 12 0 ≡ structure_count t.bodies.structures = rw y refl in
      header_word 12 (rw y (omega arith)) (rw q (omega arith)) ∙ q

  structures_at_back : eqb t.bodies.edition 4 ≡ true → word 4 (file_of t) 52 ≡ structures_from t
  structures_at_back y =
      let q : get_or (numbers t) 13 0 ≡ structures_from t = rw y refl in
      header_word 13 (rw y (omega arith)) (rw q (omega arith)) ∙ q

  structures_back : structures (file_of t) ≡ structure_count t.bodies.structures
  structures_back =
      ap (λ n. cond (eqb n 4) (word 4 (file_of t) 48) 0) edition_back
      ∙ decide (eqb t.bodies.edition 4) (λ y. ap (λ g. cond g (word 4 (file_of t) 48) 0) y ∙ structures_word y)
      (λ y. ap (λ g. cond g (word 4 (file_of t) 48) 0) y ∙ without placeable y)
    where
      without : Placeable t → eqb t.bodies.edition 4 ≡ false → 0 ≡ structure_count t.bodies.structures
      without (inl q) y = false_true (sym y ∙ ap (λ n. eqb n 4) q)
      without (inr q) y = rw q refl

  -- ---- rows 1 to 5

  long_enough : short (file_of t) ≡ false
  long_enough =
      let l : length (file_of t) ≡ file_length t = length_file t in
      let h : constants_at (file_of t) ≡ constants_from t = constants_from_lem in ltb_no (length (file_of t)) (constants_at (file_of t)) (omega arith)

  its_edition : other_edition (file_of t) ≡ unknown_edition t.bodies.edition
  its_edition = ap unknown_edition edition_back

  its_total : other_total (file_of t) ≡ false
  its_total = differs_same (word 4 (file_of t) 4) (length (file_of t)) (total_back ∙ sym (length_file t))

  fourth : over_limit (file_of t) ≡ too_many t
  unfolding over_limit too_many
  fourth = rw (structures_back, constants_back, functions_back, labels_back, code_back, zero_back, edition_back) (or-false _)

  fifth : not_packed (file_of t) ≡ broken t
  unfolding not_packed broken
  fifth =
      rw (structures_back, edition_back, constants_at_back, functions_at_back, labels_at_back, code_at_back, total_back, constants_back, functions_back, labels_back, code_back, entry_back)
      (same_row (function_size t.bodies.edition) (constants_from t) (length t.constants) (length t.bodies.functions) (length t.labels) (length t.bodies.code) (length t.bodies.structures) t.bodies.entry (word 4 (file_of t) 52)
      (records_fill t.bodies.edition (length t.bodies.functions)) (records_whole t.bodies.edition (length t.bodies.functions))
      (eqb t.bodies.edition 4) structures_at_back)

  -- ---- the tables, where no record is broken

  module _ (c : length t.constants % 12 ≡ 0) (f : length t.bodies.functions % function_size t.bodies.edition ≡ 0) (l : length t.labels % 8 ≡ 0) (z : length t.bodies.structures % 12 ≡ 0) where
    before_functions : List ℕ
    before_functions = words (numbers t) ++ t.constants

    before_labels : List ℕ
    before_labels = before_functions ++ t.bodies.functions

    before_code : List ℕ
    before_code = before_labels ++ t.labels

    before_structures : List ℕ
    before_structures = before_code ++ t.bodies.code

    lengths : (length before_functions ≡ functions_from t) × (length before_labels ≡ labels_from t) × (length before_code ≡ code_from t) × (length before_structures ≡ structures_from t)
    unfolding before_functions before_labels before_code before_structures
    lengths =
        let h : length (words (numbers t)) ≡ constants_from t = header_length t in
        (simp length-append (omega arith), simp length-append (omega arith), simp length-append (omega arith), simp length-append (omega arith))

    constants_size : 12 * constants (file_of t) ≡ length t.constants
    constants_size = let h : constants (file_of t) ≡ constant_count t.constants = constants_back in omega arith

    functions_from_lem : functions_at (file_of t) ≡ functions_from t
    functions_from_lem = let h : constants_at (file_of t) ≡ constants_from t = constants_from_lem in let k : 12 * constants (file_of t) ≡ length t.constants = constants_size in omega arith

    functions_size : function_size (edition (file_of t)) * functions (file_of t) ≡ length t.bodies.functions
    functions_size = rw (functions_back, edition_back) (records_fill t.bodies.edition (length t.bodies.functions) f)

    labels_from_lem : labels_at (file_of t) ≡ labels_from t
    labels_from_lem = let h : functions_at (file_of t) ≡ functions_from t = functions_from_lem in let k : function_size (edition (file_of t)) * functions (file_of t) ≡ length t.bodies.functions = functions_size in omega arith

    labels_size : 8 * labels (file_of t) ≡ length t.labels
    labels_size = let h : labels (file_of t) ≡ label_count t.labels = labels_back in omega arith

    code_from_lem : code_at (file_of t) ≡ code_from t
    code_from_lem = let h : labels_at (file_of t) ≡ labels_from t = labels_from_lem in let k : 8 * labels (file_of t) ≡ length t.labels = labels_size in omega arith

    structures_from_lem : structures_at (file_of t) ≡ structures_from t
    structures_from_lem = let h : code_at (file_of t) ≡ code_from t = code_from_lem in let k : code_length (file_of t) ≡ length t.bodies.code = code_back in omega arith

    structures_size : 12 * structures (file_of t) ≡ length t.bodies.structures
    structures_size = let h : structures (file_of t) ≡ structure_count t.bodies.structures = structures_back in omega arith

    -- the section q behind p, where the header says
    section : (p q r : List ℕ) (a n : ℕ) → file_of t ≡ p ++ (q ++ r) → a ≡ length p → n ≡ length q → cut (file_of t) a n ≡ q
    section p q r a n e h k = ap (λ x. cut x a n) e ∙ cut_at p q r a n (sym h) (sym k)

    constants_is : constants_in (file_of t) ≡ t.constants
    unfolding file_of
    constants_is =
        section (words (numbers t)) t.constants (t.bodies.functions ++ (t.labels ++ (t.bodies.code ++ t.bodies.structures))) (constants_at (file_of t)) (12 * constants (file_of t)) refl
        (constants_from_lem ∙ sym (header_length t)) constants_size

    functions_is : functions_in (file_of t) ≡ t.bodies.functions
    unfolding file_of before_functions
    functions_is =
        section before_functions t.bodies.functions (t.labels ++ (t.bodies.code ++ t.bodies.structures)) (functions_at (file_of t)) (function_size (edition (file_of t)) * functions (file_of t)) (simp append_assoc) (functions_from_lem ∙ sym lengths.0)
        functions_size

    labels_is : labels_in (file_of t) ≡ t.labels
    unfolding file_of before_functions before_labels
    labels_is =
        section before_labels t.labels (t.bodies.code ++ t.bodies.structures) (labels_at (file_of t)) (8 * labels (file_of t)) (simp append_assoc) (labels_from_lem ∙ sym lengths.1) labels_size

    code_is : code_in (file_of t) ≡ t.bodies.code
    unfolding file_of before_functions before_labels before_code
    code_is = section before_code t.bodies.code t.bodies.structures (code_at (file_of t)) (code_length (file_of t)) (simp append_assoc) (code_from_lem ∙ sym lengths.2) code_back

    structures_is : structures_in (file_of t) ≡ t.bodies.structures
    unfolding file_of before_functions before_labels before_code before_structures
    structures_is =
        let re : file_of t ≡ before_structures ++ t.bodies.structures = simp append_assoc in
        section before_structures t.bodies.structures [] (structures_at (file_of t)) (12 * structures (file_of t)) (re ∙ ap (λ x. before_structures ++ x) (sym (append-nil t.bodies.structures)))
        (structures_from_lem ∙ sym lengths.3) structures_size

    tables_back : tables_in (file_of t) ≡ t
    tables_back = rw (constants_is, functions_is, labels_is, code_is, structures_is, entry_back, edition_back)

  -- ---- the table of refusals

  unbroken : broken t ≡ false → tables_in (file_of t) ≡ t
  unfolding broken
  unbroken e =
      let C : ℕ = length t.constants % 12 in
      let F : ℕ = length t.bodies.functions % function_size t.bodies.edition in
      let L : ℕ = length t.labels % 8 in
      let Z : ℕ = length t.bodies.structures % 12 in
      let w : _ × (ltb (length t.bodies.code) t.bodies.entry ≡ false) = or_neither _ (ltb (length t.bodies.code) t.bodies.entry) e in
      let x : _ × (differs Z 0 ≡ false) = or_neither _ (differs Z 0) w.0 in
      let y : _ × (differs L 0 ≡ false) = or_neither _ (differs L 0) x.0 in
      let z : (differs C 0 ≡ false) × (differs F 0 ≡ false) = or_neither (differs C 0) (differs F 0) y.0 in
      tables_back (same_numbers C 0 z.0) (same_numbers F 0 z.1) (same_numbers L 0 y.1) (same_numbers Z 0 x.1)

  same_refusal : refusal (file_of t) ≡ table_refusal t
  unfolding refusal table_refusal first_of
  same_refusal =
      rw (long_enough, its_edition, its_total, fourth, fifth)
      (go (unknown_edition t.bodies.edition) (too_many t) (broken t) refl)
    where
      go : (w x y : Bool) → broken t ≡ y → first_of 1 (false ∷ w ∷ false ∷ x ∷ y ∷ content_tests (tables_in (file_of t))) ≡ first_of 2 (w ∷ false ∷ x ∷ y ∷ content_tests t)
      go true x y e = refl
      go false true y e = refl
      go false false true e = refl
      go false false false e = ap (λ u. first_of 6 (content_tests u)) (unbroken e)

-- ---- what is written is read back

-- tables that are not refused fit the header's words
pub fits : (t : Tables) → table_refusal t ≡ 0 → (t.bodies.edition < 2 ^ 32) × (file_length t < 2 ^ 32) × (t.bodies.entry < 2 ^ 32)
fits t e =
    let g : GoodTables t = good_tables t e in
    let h : Good t.bodies = g.good in
    let fc : constant_count t.constants ≤ 1024 = g.few_constants in
    let ff : function_count t.bodies.edition t.bodies.functions ≤ 128 = h.few_functions in
    let fl : label_count t.labels ≤ 256 = g.few_labels in
    let fn : length t.bodies.code ≤ 16384 = h.little_code in
    let fz : structure_count t.bodies.structures ≤ 16 = h.few_structures in
    let fh : header_size t.bodies.edition ≤ 56 = header_limit t.bodies.edition in
    let fe : t.bodies.entry ≤ length t.bodies.code = h.inside in
    let fr : length t.bodies.functions ≤ 24 * 128 + 23 = length_most t.bodies.edition (length t.bodies.functions) 128 ff in
    (small_edition t.bodies.edition g.known, omega arith, omega arith)
  where
    small_edition : (n : ℕ) → KnownEdition n → n < 2 ^ 32
    small_edition n (inl q) = omega arith
    small_edition n (inr (inl q)) = omega arith
    small_edition n (inr (inr q)) = omega arith

-- nor have they a structure of another edition
no_stray : (t : Tables) → GoodTables t → Placeable t
no_stray t g =
    decide (eqb t.bodies.edition 4) (λ y. inl (eqb_is t.bodies.edition 4 y))
    (λ y.
    let few : structure_count t.bodies.structures ≤ 0 = rw y at g.few_allowed in
    let whole : length t.bodies.structures % 12 ≡ 0 = g.whole_structures in
    inr (empty t.bodies.structures (omega arith)))
  where
    empty : (l : List ℕ) → length l ≡ 0 → l ≡ []
    empty [] h = refl
    empty (x ∷ l) h = absurd (omega arith)

pub file_readable : (t : Tables) → table_refusal t ≡ 0 → (refusal (file_of t) ≡ 0) × (tables_in (file_of t) ≡ t)
file_readable t e =
    let s : (t.bodies.edition < 2 ^ 32) × (file_length t < 2 ^ 32) × (t.bodies.entry < 2 ^ 32) = fits t e in
    let g : GoodTables t = good_tables t e in
    let p : Placeable t = no_stray t g in
    (same_refusal t p s.0 s.1 s.2 ∙ e, tables_back t p s.0 s.1 s.2 g.whole_constants g.whole_functions g.whole_labels g.whole_structures)

module _ (t : Tables) (out : List ℕ) (n : ℕ) where
  -- a writer that answers 0 has written the file
  pub written_is : (write t out).answer ≡ Written n → (table_refusal t ≡ 0) × (take n (write t out).output ≡ file_of t)
  unfolding write
  written_is h = go (table_refusal t) refl h
    where
      clash : (m : ℕ) → Unwritten m ≡ Written n → ⊥
      clash m q = let z : ◌≡◌ {A = ℕ} 0 1 = cc in omega arith

      go : (r : ℕ) → table_refusal t ≡ r → (write_with r (file_of t) out).answer ≡ Written n → (table_refusal t ≡ 0) × (take n (write_with r (file_of t) out).output ≡ file_of t)
      go (suc r) q h = absurd (clash (suc r) h)
      go zero q h =
          decide (ltb (length out) (length (file_of t))) (λ y. absurd (clash 16 (rw y at h)))
          (λ y.
          let w : Written (length (file_of t)) ≡ Written n = rw y at h in
          let k : length (file_of t) ≡ n = cc in
          (q, rw y (take_at (file_of t) (drop (length (file_of t)) out) n k)))

-- 0 comes with a length
pub written_with : (t : Tables) (out : List ℕ) → write_number (write t out).answer ≡ done → (n : ℕ) × ((write t out).answer ≡ Written n)
unfolding write
written_with t out = go (table_refusal t)
  where
    go : (r : ℕ) → write_number (write_with r (file_of t) out).answer ≡ done → (n : ℕ) × ((write_with r (file_of t) out).answer ≡ Written n)
    go (suc r) h = absurd (omega (arith, h))
    go zero h =
        decide (ltb (length out) (length (file_of t))) (λ y. let z : output_too_short ≡ done = rw y at h in absurd (omega arith))
        (λ y. (length (file_of t), rw y refl))

-- ---- what was read is written

abbrev words_from : List ℕ → ℕ → ℕ → List ℕ
words_from s a zero = []
words_from s a (suc n) = word 4 s a ∷ words_from s (a + 4) n

words_from_lem : (s : List ℕ) → AreBytes s → (n a : ℕ) → a + 4 * n ≤ length s → words (words_from s a n) ≡ take (4 * n) (drop a s)
words_from_lem s b zero a h = refl
words_from_lem s b (suc n) a h =
    let q : 4 * suc n ≡ 4 + 4 * n = omega arith in
    ap (λ x. x ++ words (words_from s (a + 4) n)) (word_bytes s b 4 a (omega arith))
    ∙ ap (λ x. take 4 (drop a s) ++ x) (words_from_lem s b n (a + 4) (omega arith) ∙ ap (take (4 * n)) (sym (drop-drop 4 a s)))
    ∙ sym (take-add 4 (4 * n) (drop a s)) ∙ ap (λ k. take k (drop a s)) (sym q)

words_append : (a b : List ℕ) → words (a ++ b) ≡ words a ++ words b
words_append [] b = refl
words_append (w ∷ a) b = ap (λ x. bytes 4 w ++ x) (words_append a b) ∙ sym (append_assoc (bytes 4 w) (words a) (words b))

-- one section more, in front of the rest of the file
seam : (s : List ℕ) (a n : ℕ) (r : List ℕ) → r ≡ drop (a + n) s → cut s a n ++ r ≡ drop a s
seam s a n r e = ap (λ x. cut s a n ++ x) (e ∙ sym (drop-drop n a s)) ∙ take-append-drop n (drop a s)

-- the words behind the twelve that every edition has
abbrev more_words : ℕ → ℕ
more_words e = cond (eqb e 4) 2 0

module _ (s : List ℕ) (b : AreBytes s) (e : refusal s ≡ 0) where
  last_words : cond (eqb (edition s) 4) (structures s ∷ structures_at s ∷ []) [] ≡ words_from s 48 (more_words (edition s))
  last_words = go (eqb (edition s) 4) (packed s e).structures_at_lem
    where
      go : (g : Bool) → (g ≡ true → word 4 s 52 ≡ structures_at s) → cond g (cond g (word 4 s 48) 0 ∷ structures_at s ∷ []) [] ≡ words_from s 48 (cond g 2 0)
      go true h = ap (λ n. word 4 s 48 ∷ n ∷ []) (sym (h refl))
      go false h = refl

  same_words : numbers (tables_in s) ≡ words_from s 0 12 ++ words_from s 48 (more_words (edition s))
  same_words =
      let p : Packed s = packed s e in
      let lc : length (constants_in s) ≡ 12 * constants s = constants_length s e in
      let lf : length (functions_in s) ≡ function_size (edition s) * functions s = functions_length s e in
      let ll : length (labels_in s) ≡ 8 * labels s = labels_length s e in
      let ln : length (code_in s) ≡ code_length s = code_length_lem s e in
      let lz : length (structures_in s) ≡ 12 * structures s = structures_length s e in
      rw (constant_count_lem s e, function_count_lem s e, label_count_lem s e, structure_count_lem s e, lc, lf, ll, ln, lz, p.whole, p.zero_word, p.constants_at_lem, p.functions_at_lem, p.labels_at_lem, p.code_at_lem, p.total)
      (ap (λ x. edition s ∷ length s ∷ constants s ∷ constants_at s ∷ functions s ∷ functions_at s ∷ labels s ∷ labels_at s ∷ code_length s ∷ code_at s ∷ entry_length s ∷ 0 ∷ x) last_words)

  header_back : words (numbers (tables_in s)) ≡ take (constants_at s) s
  header_back =
      let n : ℕ = more_words (edition s) in
      let h : constants_at s ≡ 48 + 4 * n = decide (eqb (edition s) 4) (λ y. rw y refl) (λ y. rw y refl) in
      let w : structures_at s + 12 * structures s ≡ length s = (packed s e).whole in
      ap words same_words ∙ words_append (words_from s 0 12) (words_from s 48 n)
      ∙ ap (λ x. x ++ words (words_from s 48 n)) (words_from_lem s b 12 0 (omega arith)) ∙ ap (λ x. take 48 s ++ x) (words_from_lem s b n 48 (omega arith))
      ∙ sym (take-add 48 (4 * n) s) ∙ ap (λ k. take k s) (sym h)

  pub file_back : file_of (tables_in s) ≡ s
  unfolding file_of
  file_back =
      let w : structures_at s + 12 * structures s ≡ length s = (packed s e).whole in
      let r : List ℕ = constants_in s ++ (functions_in s ++ (labels_in s ++ (code_in s ++ structures_in s))) in
      let q : r ≡ drop (constants_at s) s =
      seam s (constants_at s) (12 * constants s) _ (seam s (functions_at s) (function_size (edition s) * functions s) _ (seam s (labels_at s) (8 * labels s) _ (seam s (code_at s) (code_length s) _
      (take_all (12 * structures s) (drop (structures_at s) s) (simp length-drop (omega arith)))))) in
      ap (λ x. x ++ r) header_back ∙ ap (λ x. take (constants_at s) s ++ x) q ∙ take-append-drop (constants_at s) s

  pub written_back : (out : List ℕ) → length s ≤ length out → write (tables_in s) out ≡ wrote (Written (length s)) (s ++ drop (length s) out)
  unfolding write
  written_back out l = rw (good_file s e, file_back) (rw (ltb_no (length out) (length s) l))

pub saves : Saves
saves =
    record {
      exactly = same_refusal;
      read_back = λ t out n h.
          let w : (table_refusal t ≡ 0) × (take n (write t out).output ≡ file_of t) = written_is t out n h in
          let r : (refusal (file_of t) ≡ 0) × (tables_in (file_of t) ≡ t) = file_readable t w.0 in
          (ap refusal w.1 ∙ r.0, ap tables_in w.1 ∙ r.1);
      write_back = λ s out b e l. written_back s b e out l;
    }
