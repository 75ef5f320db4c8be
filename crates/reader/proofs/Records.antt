-- Records by number: the sections of a file against the file, and a function's parameters.
use Prim.Native.Nat.{ℕ, zero, suc, ◌+◌, ◌-◌, ◌*◌, ◌/◌, ◌<◌, ◌≤◌}
use native.Mathlib.Nat.{eq-or-lt_of_le, le_of_suc-le-suc, mul-le-mul_left}
use native.Mathlib.Omega.{arith}
use mathlib.Core.Path.{◌≡◌, refl, sym, ap, ◌∙◌}
use mathlib.Core.Bool.{Bool, true, false, cond}
use mathlib.Core.List.{List, [], ◌∷◌}
use mathlib.Core.Logic.{⊎_elim}
use mathlib.Core.Option.{some}
use lib.Dec.{eqb}
use lib.ListN.{length, take, drop}
use lib.Seq.{take-take, drop-drop, get_or-take, get_or-drop}
use borrow.Author.Tests.{eq-eqb, ne_eqb, eqb-false}
use Rattle.rules.specs.Bytes.{byte, number, word, cut}
use Rattle.rules.specs.Instructions.{ty_of}
use Rattle.rules.specs.Stack.{at}
use Rattle.rules.specs.Tables.{tables, function_size, function_count, structure_count, structure_limit, body_of, function_at, profile_at, params_from, result_of, function_of, label_of}
use Rattle.rules.specs.ModuleFile.{edition, constants, functions, labels, code_length, entry_length, structures, tables_in, constants_at, functions_at, labels_at, code_at, structures_at, constants_in, functions_in, labels_in, code_in, structures_in}
use Rattle.format.specs.declared.Sections.{Sections}
use Rattle.format.specs.Layout.{Packed, Fits}
use Rattle.format.proofs.Strides.{stride_under}
use Rattle.soundness.specs.Functions.{size_least, size_most, count_records}
use Rattle.soundness.specs.Readable.{params_length}
use Rattle.soundness.specs.Cutting.{length_cut}

-- ---- a section of a file, cut out, against the file

part : (n j m : ℕ) (l : List ℕ) → j + n ≤ m → take n (drop j (take m l)) ≡ take n (drop j l)
part n zero m l h = take-take n m l (omega arith)
part n (suc j) zero l h = absurd (omega arith)
part n (suc j) (suc m) [] h = refl
part n (suc j) (suc m) (x ∷ l) h = part n j m l (omega arith)

pub word_cut : (n : ℕ) (s : List ℕ) (a m j : ℕ) → j + n ≤ m → word n (cut s a m) j ≡ word n s (a + j)
unfolding word
word_cut n s a m j h = ap number (part n j m (drop a s) h ∙ ap (take n) (drop-drop j a s))

pub byte_cut : (s : List ℕ) (a m j : ℕ) → j < m → byte (cut s a m) j ≡ byte s (a + j)
byte_cut s a m j h = get_or-take m (drop a s) j 0 h ∙ get_or-drop a s j 0

-- the sections of an opened file
module _ (s : List ℕ) (c : Sections) (k : Packed s c) where
  pub constants_length : length (constants_in s) ≡ 12 * c.constants
  constants_length = length_cut s (constants_at s) (12 * constants s) (omega arith) ∙ omega arith

  records_size : function_size (edition s) * functions s ≡ c.stride * c.functions
  records_size = sym (rw (k.stride_is, k.functions_is) refl)

  pub functions_length : length (functions_in s) ≡ c.stride * c.functions
  functions_length = length_cut s (functions_at s) (function_size (edition s) * functions s) (omega arith) ∙ records_size

  -- a record lies in the section, and in the file
  function_inside : (i : ℕ) → i < c.functions → c.stride * i + 20 ≤ function_size (edition s) * functions s
  function_inside i h =
      let a : c.stride * suc i ≤ c.stride * c.functions = mul-le-mul_left c.stride h in
      let b : 20 ≤ c.stride = rw k.stride_is (size_least (edition s)) in
      let d : function_size (edition s) * functions s ≡ c.stride * c.functions = records_size in omega arith

  pub function_in_file : (i : ℕ) → i < c.functions → c.records + c.stride * i + 20 ≤ length s
  function_in_file i h = let a : c.stride * i + 20 ≤ function_size (edition s) * functions s = function_inside i h in omega arith

  -- a product that the code computes
  pub stride_small : (i : ℕ) → i < c.functions → c.stride * i ≤ 24 * i
  stride_small i h = stride_under c.stride i (rw k.stride_is (size_most (edition s)))

  pub function_count_lem : function_count (edition s) (functions_in s) ≡ c.functions
  function_count_lem = ap (λ n. n / function_size (edition s)) (functions_length ∙ ap (λ n. n * c.functions) k.stride_is) ∙ count_records (edition s) c.functions

  pub labels_length : length (labels_in s) ≡ 8 * c.labels
  labels_length = length_cut s (labels_at s) (8 * labels s) (omega arith) ∙ omega arith

  pub code_length_lem : length (code_in s) ≡ c.extent
  code_length_lem = length_cut s (code_at s) (code_length s) (omega arith) ∙ omega arith

  pub structures_length : length (structures_in s) ≡ 12 * c.structures
  structures_length = length_cut s (structures_at s) (12 * structures s) (omega arith) ∙ omega arith

  -- only edition 4 has structures
  pub none_declared : (edition s ≡ 4 → ⊥) → structure_count (structures_in s) ≡ 0
  none_declared other =
      let q : structures s ≡ 0 = simp (ne_eqb (edition s) 4 other) in
      let l = structures_length in omega arith

  few_declared : structure_count (structures_in s) ≤ structure_limit (edition s)
  few_declared = go (eqb (edition s) 4) refl
    where
      go : (b : Bool) → eqb (edition s) 4 ≡ b → structure_count (structures_in s) ≤ cond b 16 0
      go true y = let l = structures_length in omega arith
      go false y = let none = none_declared (eqb-false (edition s) 4 y) in omega arith

  pub old_pool : (edition s ≡ 4 → ⊥) → 48 ≡ c.pool
  old_pool other = sym (k.pool_is ∙ simp (ne_eqb (edition s) 4 other))

  -- the file ends with the structures
  pub structures_rest : take (length s - (c.code + c.extent)) (drop (c.code + c.extent) s) ≡ structures_in s
  structures_rest =
      let n : length s - (c.code + c.extent) ≡ 12 * structures s = omega arith in
      let q : c.code + c.extent ≡ structures_at s = omega arith in
      ap (λ (m : ℕ). take m (drop (c.code + c.extent) s)) n ∙ ap (λ (a : ℕ). take (12 * structures s) (drop a s)) q

  pub few_rest : (e : ℕ) → e ≡ edition s → structure_count (take (length s - (c.code + c.extent)) (drop (c.code + c.extent) s)) ≤ structure_limit e
  few_rest e q = rw (structures_rest, q) few_declared

  pub constant_word : (n i j : ℕ) → i < c.constants → j + n ≤ 12 → word n (constants_in s) (12 * i + j) ≡ word n s (c.pool + 12 * i + j)
  constant_word n i j h l = let q : constants_at s + (12 * i + j) ≡ c.pool + 12 * i + j = omega arith in
      word_cut n s (constants_at s) (12 * constants s) (12 * i + j) (omega arith) ∙ ap (word n s) q

  pub constant_byte : (i : ℕ) → i < c.constants → byte (constants_in s) (12 * i) ≡ byte s (c.pool + 12 * i)
  constant_byte i h = let q : constants_at s + 12 * i ≡ c.pool + 12 * i = omega arith in
      byte_cut s (constants_at s) (12 * constants s) (12 * i) (omega arith) ∙ ap (byte s) q

  pub function_first : (i : ℕ) → i < c.functions → word 4 (functions_in s) (c.stride * i) ≡ word 4 s (c.records + c.stride * i)
  function_first i h = let q : functions_at s + c.stride * i ≡ c.records + c.stride * i = omega arith in
      word_cut 4 s (functions_at s) (function_size (edition s) * functions s) (c.stride * i) (omega (arith, function_inside i h)) ∙ ap (word 4 s) q

  pub function_word : (i j : ℕ) → i < c.functions → j + 4 ≤ 20 → word 4 (functions_in s) (c.stride * i + j) ≡ word 4 s (c.records + c.stride * i + j)
  function_word i j h l = let q : functions_at s + (c.stride * i + j) ≡ c.records + c.stride * i + j = omega arith in
      word_cut 4 s (functions_at s) (function_size (edition s) * functions s) (c.stride * i + j) (omega (arith, function_inside i h)) ∙ ap (word 4 s) q

  pub function_byte : (i j : ℕ) → i < c.functions → j < 20 → byte (functions_in s) (c.stride * i + j) ≡ byte s (c.records + c.stride * i + j)
  function_byte i j h l = let q : functions_at s + (c.stride * i + j) ≡ c.records + c.stride * i + j = omega arith in
      byte_cut s (functions_at s) (function_size (edition s) * functions s) (c.stride * i + j) (omega (arith, function_inside i h)) ∙ ap (byte s) q

  pub label_word : (i j : ℕ) → i < c.labels → j + 4 ≤ 8 → word 4 (labels_in s) (8 * i + j) ≡ word 4 s (c.targets + 8 * i + j)
  label_word i j h l = let q : labels_at s + (8 * i + j) ≡ c.targets + 8 * i + j = omega arith in
      word_cut 4 s (labels_at s) (8 * labels s) (8 * i + j) (omega arith) ∙ ap (word 4 s) q

  -- the parts of the file that are lent are its tables, with the constants from byte p on
  pub lent_tables : (e p : ℕ) (zs : List ℕ) → e ≡ edition s → p ≡ c.pool → zs ≡ structures_in s
      → tables e (take (c.records - p) (drop p s)) (take (c.targets - c.records) (drop c.records s)) (take (c.code - c.targets) (drop c.targets s)) zs
      (take (c.code + c.extent - c.code) (drop c.code s)) c.entry ≡ tables_in s
  lent_tables e p zs q at tail =
      let i : p ≡ constants_at s = at ∙ k.pool_is in
      let a : c.records - p ≡ 12 * constants s = omega arith in
      let b : c.targets - c.records ≡ function_size (edition s) * functions s = omega arith in
      let d : c.code - c.targets ≡ 8 * labels s = omega arith in
      let f : c.code + c.extent - c.code ≡ code_length s = omega arith in
      rw (a, b, d, f, i, tail, k.records_is, k.targets_is, k.code_is, k.entry_is) (ap (λ (n : ℕ). tables n (constants_in s) (functions_in s) (labels_in s) (structures_in s) (code_in s) (entry_length s)) q)

  pub lent_fits : (e : ℕ) → e ≡ edition s → Fits e (take (c.targets - c.records) (drop c.records s)) (take (c.code + c.extent - c.code) (drop c.code s)) c.entry
  lent_fits e q =
      let b : c.targets - c.records ≡ function_size (edition s) * functions s = omega arith in
      let f : c.code + c.extent - c.code ≡ code_length s = omega arith in
      let n = code_length_lem in
      rw (q, b, f, k.records_is, k.code_is) (record { few_functions = rw function_count_lem k.few_functions; little_code = omega arith; entry_inside = omega arith })

  pub lent_count : (e : ℕ) → e ≡ edition s → c.functions ≡ function_count e (take (c.targets - c.records) (drop c.records s))
  lent_count e q =
      let b : c.targets - c.records ≡ function_size (edition s) * functions s = omega arith in
      rw (q, b, k.records_is) (sym function_count_lem)

  -- ---- the records by number

  pub function_found_lem : (i start len n r : ℕ) → i < c.functions → start ≡ word 4 s (c.records + c.stride * i) → len ≡ word 4 s (c.records + c.stride * i + 4)
      → n ≡ byte s (c.records + c.stride * i + 8) → r ≡ byte s (c.records + c.stride * i + 9)
      → some (record { start = start; end = start + len; params = params_from (functions_in s) (function_at (edition s) i + 10) n; result = result_of r; profile = profile_at (edition s) (functions_in s) (function_at (edition s) i) }) ≡ some (function_of (edition s) (functions_in s) (function_at (edition s) i))
  unfolding function_of
  function_found_lem i start len n r h ws wl bn br =
      let a : start ≡ word 4 (functions_in s) (c.stride * i) = ws ∙ sym (function_first i h) in
      let b : len ≡ word 4 (functions_in s) (c.stride * i + 4) = wl ∙ sym (function_word i 4 h (omega arith)) in
      let d : n ≡ byte (functions_in s) (c.stride * i + 8) = bn ∙ sym (function_byte i 8 h (omega arith)) in
      let e : r ≡ byte (functions_in s) (c.stride * i + 9) = br ∙ sym (function_byte i 9 h (omega arith)) in
      rw (a, b, d, e, k.stride_is)

  pub label_found : (i owner place : ℕ) → i < c.labels → owner ≡ word 4 s (c.targets + 8 * i) → place ≡ word 4 s (c.targets + 8 * i + 4)
      → some (body_of owner, place) ≡ some (label_of (labels_in s) i)
  unfolding label_of
  label_found i owner place h wo wp =
      let q : labels_at s + 8 * i ≡ c.targets + 8 * i = omega arith in
      let a : owner ≡ word 4 (labels_in s) (8 * i) = wo ∙ sym (word_cut 4 s (labels_at s) (8 * labels s) (8 * i) (omega arith) ∙ ap (word 4 s) q) in
      let b : place ≡ word 4 (labels_in s) (8 * i + 4) = wp ∙ sym (label_word i 4 h (omega arith)) in
      rw (a, b)

-- ---- parameters

-- parameter j is the type of byte j
pub param_at : (s : List ℕ) (a n j : ℕ) → j < n → at (params_from s a n) j ≡ some (ty_of (byte s (a + j)))
param_at s a zero j l = absurd (omega arith)
param_at s a (suc n) j l =
    ⊎_elim
    (λ e.
    let g : j ≡ n = e in
    let t : eqb j (length (params_from s a n)) ≡ true = eq-eqb _ _ (g ∙ sym (params_length s a n)) in
    simp t (ap (λ (k : ℕ). some (ty_of (byte s (a + k)))) (sym g)))
    (λ h.
    let g : j < n = h in
    let t : eqb j (length (params_from s a n)) ≡ false = ne_eqb _ _ (λ e. let d : j ≡ n = e ∙ params_length s a n in omega arith) in
    simp t (param_at s a n j g))
    (eq-or-lt_of_le (le_of_suc-le-suc l))
