-- A file cut into its tables: what the header's rows leave, and that the tables of a file that can be read are good.
use Rattle.std.specs.Prelude.{◌≡◌, ℕ, zero, suc, ◌+◌, ◌*◌, ◌/◌, ◌%◌, ◌≤◌, ◌<◌, true, false, ◌&&◌, List, [], ◌∷◌, get_or, take, drop, ltb, eqb}
use Rattle.std.proofs.Math.Path.{ap}
use Rattle.std.proofs.Common.{◌∙◌, subst, length-drop, length-take-le, get_or-drop}
use native.Mathlib.Omega.{arith}
use Rattle.std.proofs.Math.Bool.{Bool}
use Rattle.std.proofs.Math.ListN.{length}
use Rattle.rules.specs.Bytes.{word, cut}
use Rattle.rules.specs.Tables.{differs, function_size, over_limits, first_of, content_tests, constant_count, function_count, label_count, structure_count, bad_constants, bad_structures, bad_functions}
use Rattle.rules.specs.ModuleFile.{edition, constants, functions, labels, code_length, entry_length, structures, constants_at, functions_at, labels_at, code_at, structures_at, constants_in, functions_in, labels_in, code_in, structures_in, bodies_in, tables_in, short, other_edition, other_total, over_limit, not_packed, refusal}
use Rattle.rules.specs.Writing.{too_many, broken, table_refusal}
use Rattle.rules.specs.Claims.{AreBytes}
use Rattle.soundness.specs.Tests.{ltb_isnt, ltb_no, and_not, or_neither}
use Rattle.soundness.specs.Functions.{count_records, no_rest, count_most}
use Rattle.soundness.specs.Readable.{AllFalse, none_first, same_numbers, good_tables}

-- ---- a part of a list

pub length_cut : (s : List ℕ) (a n : ℕ) → a + n ≤ length s → length (cut s a n) ≡ n
length_cut s a n h = length-take-le n (drop a s) (simp length-drop (omega arith))

taken_le : (n : ℕ) (l : List ℕ) → length (take n l) ≤ n
taken_le zero l = omega arith
taken_le (suc n) [] = omega arith
taken_le (suc n) (x ∷ l) = let h : length (take n l) ≤ n = taken_le n l in omega arith

-- no more than n bytes, also where the list is shorter
pub length_cut_le : (s : List ℕ) (a n : ℕ) → length (cut s a n) ≤ n
length_cut_le s a n = taken_le n (drop a s)

bytes_take : (n i : ℕ) (l : List ℕ) → ((j : ℕ) → get_or l j 0 < 256) → get_or (take n l) i 0 < 256
bytes_take zero i l q = omega arith
bytes_take (suc n) i [] q = omega arith
bytes_take (suc n) zero (x ∷ l) q = q 0
bytes_take (suc n) (suc i) (x ∷ l) q = bytes_take n i l (λ j. q (suc j))

pub bytes_cut : (s : List ℕ) (a n : ℕ) → AreBytes s → AreBytes (cut s a n)
bytes_cut s a n h i = bytes_take n i (drop a s) (λ j. rw (get_or-drop a s j 0) (h (a + j)))

-- the counts are at most those of the header, also in a file that can't be read
pub function_count_le : (s : List ℕ) → function_count (edition s) (functions_in s) ≤ functions s
function_count_le s = count_most (edition s) (length (functions_in s)) (functions s) (length_cut_le s (functions_at s) (function_size (edition s) * functions s))

pub label_count_le : (s : List ℕ) → label_count (labels_in s) ≤ labels s
label_count_le s = let h : length (labels_in s) ≤ 8 * labels s = length_cut_le s (labels_at s) (8 * labels s) in omega arith

pub structure_count_le : (s : List ℕ) → structure_count (structures_in s) ≤ structures s
structure_count_le s = let h : length (structures_in s) ≤ 12 * structures s = length_cut_le s (structures_at s) (12 * structures s) in omega arith

-- ---- rows 1 to 5

pub record Packed (s : List ℕ) : Type 0 where
  pub total : word 4 s 4 ≡ length s
  pub limits : over_limits (edition s) (constants s) (functions s) (labels s) (code_length s) (structures s) ≡ false
  pub zero_word : word 4 s 44 ≡ 0
  pub constants_at_lem : word 4 s 12 ≡ constants_at s
  pub functions_at_lem : word 4 s 20 ≡ functions_at s
  pub labels_at_lem : word 4 s 28 ≡ labels_at s
  pub code_at_lem : word 4 s 36 ≡ code_at s
  pub structures_at_lem : eqb (edition s) 4 ≡ true → word 4 s 52 ≡ structures_at s
  pub whole : structures_at s + 12 * structures s ≡ length s
  pub inside : entry_length s ≤ code_length s

module _ (s : List ℕ) (e : refusal s ≡ 0) where
  rows : AllFalse (short s ∷ other_edition s ∷ other_total s ∷ over_limit s ∷ not_packed s ∷ content_tests (tables_in s))
  unfolding refusal
  rows = none_first 0 (short s ∷ other_edition s ∷ other_total s ∷ over_limit s ∷ not_packed s ∷ content_tests (tables_in s)) e

  pub packed : Packed s
  unfolding over_limit not_packed
  packed =
      let over : Bool = over_limits (edition s) (constants s) (functions s) (labels s) (code_length s) (structures s) in
      let l : (over ≡ false) × (differs (word 4 s 44) 0 ≡ false) = or_neither over (differs (word 4 s 44) 0) rows.1.1.1.0 in
      let p7 : _ × (ltb (code_length s) (entry_length s) ≡ false) = or_neither _ (ltb (code_length s) (entry_length s)) rows.1.1.1.1.0 in
      let p6 : _ × (differs (structures_at s + 12 * structures s) (word 4 s 4) ≡ false) = or_neither _ (differs (structures_at s + 12 * structures s) (word 4 s 4)) p7.0 in
      let p5 : _ × ((eqb (edition s) 4 && differs (word 4 s 52) (structures_at s)) ≡ false) = or_neither _ (eqb (edition s) 4 && differs (word 4 s 52) (structures_at s)) p6.0 in
      let p4 : _ × (differs (word 4 s 36) (code_at s) ≡ false) = or_neither _ (differs (word 4 s 36) (code_at s)) p5.0 in
      let p3 : _ × (differs (word 4 s 28) (labels_at s) ≡ false) = or_neither _ (differs (word 4 s 28) (labels_at s)) p4.0 in
      let p2 : (differs (word 4 s 12) (constants_at s) ≡ false) × (differs (word 4 s 20) (functions_at s) ≡ false) =
      or_neither (differs (word 4 s 12) (constants_at s)) (differs (word 4 s 20) (functions_at s)) p3.0 in
      let t : word 4 s 4 ≡ length s = same_numbers (word 4 s 4) (length s) rows.1.1.0 in
      record {
        total = t;
        limits = l.0;
        zero_word = same_numbers (word 4 s 44) 0 l.1;
        constants_at_lem = same_numbers (word 4 s 12) (constants_at s) p2.0;
        functions_at_lem = same_numbers (word 4 s 20) (functions_at s) p2.1;
        labels_at_lem = same_numbers (word 4 s 28) (labels_at s) p3.1;
        code_at_lem = same_numbers (word 4 s 36) (code_at s) p4.1;
        structures_at_lem = λ y. same_numbers (word 4 s 52) (structures_at s) (and_not (eqb (edition s) 4) (differs (word 4 s 52) (structures_at s)) p5.1 y);
        whole = same_numbers (structures_at s + 12 * structures s) (word 4 s 4) p6.1 ∙ t;
        inside = ltb_isnt (code_length s) (entry_length s) p7.1;
      }

  -- ---- the tables are as long as the header counts

  pub constants_length : length (constants_in s) ≡ 12 * constants s
  constants_length = let w : structures_at s + 12 * structures s ≡ length s = packed.whole in length_cut s (constants_at s) (12 * constants s) (omega arith)

  pub functions_length : length (functions_in s) ≡ function_size (edition s) * functions s
  functions_length = let w : structures_at s + 12 * structures s ≡ length s = packed.whole in length_cut s (functions_at s) (function_size (edition s) * functions s) (omega arith)

  pub labels_length : length (labels_in s) ≡ 8 * labels s
  labels_length = let w : structures_at s + 12 * structures s ≡ length s = packed.whole in length_cut s (labels_at s) (8 * labels s) (omega arith)

  pub code_length_lem : length (code_in s) ≡ code_length s
  code_length_lem = let w : structures_at s + 12 * structures s ≡ length s = packed.whole in length_cut s (code_at s) (code_length s) (omega arith)

  pub structures_length : length (structures_in s) ≡ 12 * structures s
  structures_length = let w : structures_at s + 12 * structures s ≡ length s = packed.whole in length_cut s (structures_at s) (12 * structures s) (omega arith)

  pub constant_count_lem : constant_count (constants_in s) ≡ constants s
  constant_count_lem = let h : length (constants_in s) ≡ 12 * constants s = constants_length in omega arith

  pub function_count_lem : function_count (edition s) (functions_in s) ≡ functions s
  function_count_lem = ap (λ n. n / function_size (edition s)) functions_length ∙ count_records (edition s) (functions s)

  pub label_count_lem : label_count (labels_in s) ≡ labels s
  label_count_lem = let h : length (labels_in s) ≡ 8 * labels s = labels_length in omega arith

  pub structure_count_lem : structure_count (structures_in s) ≡ structures s
  structure_count_lem = let h : length (structures_in s) ≡ 12 * structures s = structures_length in omega arith

  -- rows 4 and 5 of the writer don't hold of the tables of a file that can be read
  not_many : too_many (tables_in s) ≡ false
  unfolding too_many
  not_many = rw (constant_count_lem, function_count_lem, label_count_lem, code_length_lem, structure_count_lem) packed.limits

  not_broken : broken (tables_in s) ≡ false
  unfolding broken
  not_broken =
      let c : length (constants_in s) % 12 ≡ 0 = let h : length (constants_in s) ≡ 12 * constants s = constants_length in omega arith in
      let f : length (functions_in s) % function_size (edition s) ≡ 0 = ap (λ n. n % function_size (edition s)) functions_length ∙ no_rest (edition s) (functions s) in
      let l : length (labels_in s) % 8 ≡ 0 = let h : length (labels_in s) ≡ 8 * labels s = labels_length in omega arith in
      let z : length (structures_in s) % 12 ≡ 0 = let h : length (structures_in s) ≡ 12 * structures s = structures_length in omega arith in
      rw (c, f, l, z, code_length_lem) (ltb_no (code_length s) (entry_length s) packed.inside)

  pub good_file : table_refusal (tables_in s) ≡ 0
  unfolding table_refusal first_of
  good_file = rw (rows.1.0, not_many, not_broken, rows.1.1.1.1.1.0, rows.1.1.1.1.1.1.0, rows.1.1.1.1.1.1.1.0, rows.1.1.1.1.1.1.1.1.0)

  -- what the rows leave of it

  pub constants_good : bad_constants (constants_in s) ≡ false
  constants_good = (good_tables (tables_in s) good_file).sixth

  pub structures_good : bad_structures (structures_in s) ≡ false
  structures_good = (good_tables (tables_in s) good_file).shapes

  pub functions_good : bad_functions (bodies_in s) ≡ false
  functions_good = (good_tables (tables_in s) good_file).good.seventh

  pub few_functions : function_count (edition s) (functions_in s) ≤ 128
  few_functions = (good_tables (tables_in s) good_file).good.few_functions

  pub little_code : length (code_in s) ≤ 16384
  little_code = (good_tables (tables_in s) good_file).good.little_code

  pub few_structures : structures s ≤ 16
  few_structures = subst (λ n. n ≤ 16) structure_count_lem (good_tables (tables_in s) good_file).good.few_structures
