-- 02, A7: as a module, what went up is the old one, but for the edition and the code, and the code is the same at every place.
use Rattle.std.specs.Prelude.{◌≡◌, refl, Bool, true, false, List, ◌∷◌, ltb}
use Rattle.std.proofs.Common.{sym, ap, ◌∙◌, arith}
use Rattle.std.proofs.Math.Path.{ap₂, fun_ext}
use Prim.Native.Nat.{ℕ, zero, suc, ◌+◌, ◌≤◌, ◌<◌}
use Rattle.std.proofs.Math.Option.{Option}
use Rattle.rules.specs.Bytes.{byte, word, within}
use Rattle.rules.specs.Instructions.{Ty, ty_of, Opcode, instruction_of}
use Rattle.rules.specs.Tables.{Tables, function_at, function_count, bad_functions, due, Body, entry, fn, Function, Module, params_from, function_of, code_of, place_in, module_of}
use Rattle.rules.specs.ModuleFile.{edition, refusal, tables_in, read, code_in, functions_in}
use Rattle.rules.specs.Writing.{table_refusal}
use Rattle.rules.specs.Converting.{fourth, refusal_in}
use Rattle.soundness.specs.Names.{Instruction}
use Rattle.soundness.specs.Tests.{decide, ltb_is}
use Rattle.soundness.specs.Readable.{GoodTables, good_tables, place_is, few_parameters}
use Rattle.soundness.specs.Cutting.{good_file}
use Rattle.editions.specs.Paired.{Paired, pair_byte, pair_byte_at, pair_start, pair_length, pair_profile, pair_counts}
use Rattle.editions.specs.Alike.{Known, same_due, same_opcode, third_of, fourth_of}
use Rattle.editions.specs.Conversions.{edition_is, is_third, up_count, up_records, third_good, up_pair, up_known, up_read}

-- the module with another edition and other code
abbrev pub recoded : Module → ℕ → (ℕ → Option Instruction) → Module
recoded m e c =
    record {
      edition = e;
      structure = m.structure;
      constant = m.constant;
      function = m.function;
      label = m.label;
      code = c;
      entry_end = m.entry_end;
      is_place = m.is_place;
      extent = m.extent;
    }

-- ---- of tables with paired function records

module _ (n : ℕ) (fs gs : List ℕ) (p : Paired n fs gs) (t : Tables) (known : Known t.bodies.code) (seventh : bad_functions (third_of t fs).bodies ≡ false) where
  -- the parameters of function k
  same_types : (k : ℕ) → k < n → (c : ℕ) → c ≤ 8 → params_from gs (function_at 4 k + 10) c ≡ params_from fs (function_at 3 k + 10) c
  same_types k l zero h = refl
  same_types k l (suc c) h =
      ap₂ (λ (x : ℕ) (ts : List Ty). ty_of x ∷ ts) (pair_byte_at n fs gs p k 10 c l (omega arith)) (same_types k l c (omega arith))

  -- its record
  same_function : (k : ℕ) → k < n → function_of 4 gs (function_at 4 k) ≡ function_of 3 fs (function_at 3 k)
  unfolding function_of
  same_function k l =
      let c : function_count 3 fs ≡ n = (pair_counts n fs gs p).0 in
      let few : byte fs (function_at 3 k + 8) ≤ 8 = few_parameters (third_of t fs).bodies seventh k (rw c l) in
      rw (
        pair_start n fs gs p k,
        pair_length n fs gs p k,
        pair_byte n fs gs p k 8 l (omega arith),
        pair_byte n fs gs p k 9 l (omega arith),
        pair_profile n fs gs p k l,
        same_types k l (byte fs (function_at 3 k + 8)) few,
      )

  -- the function of a number, if there is one
  same_functions : (k : ℕ)
      → within (ltb k (function_count 4 gs)) (function_of 4 gs (function_at 4 k)) ≡ within (ltb k (function_count 3 fs)) (function_of 3 fs (function_at 3 k))
  same_functions k =
      rw ((pair_counts n fs gs p).0, (pair_counts n fs gs p).1) (decide (ltb k n) (λ y. rw (same_function k (ltb_is k n y))) (λ y. rw y))

  -- the places of a body
  same_place : (b : Body) (q : ℕ) → place_in (fourth_of t gs).bodies b q ≡ place_in (third_of t fs).bodies b q
  unfolding place_in
  same_place entry q = rw (same_due t.bodies.code known q)
  same_place (fn k) q = rw (pair_start n fs gs p k, pair_length n fs gs p k, same_due t.bodies.code known q)

  -- all but the code is the same
  same_module : module_of (fourth_of t gs) ≡ recoded (module_of (third_of t fs)) 4 (code_of 4 t.bodies.code)
  unfolding module_of
  same_module =
      let x : Module = module_of (fourth_of t gs) in
      ap₂ (λ (f : ℕ → Option Function) (i : Body → ℕ → Bool). record {
        edition = 4;
        structure = x.structure;
        constant = x.constant;
        function = f;
        label = x.label;
        code = x.code;
        entry_end = x.entry_end;
        is_place = i;
        extent = x.extent;
      }) (fun_ext same_functions) (fun_ext (λ b. fun_ext (same_place b)))

-- the instruction that begins at a place
code_alike : (e : ℕ) (code : List ℕ) → Known code → (p : ℕ) → e ≡ 3 → due e code p ≡ 0 → code_of 4 code p ≡ code_of e code p
unfolding code_of
code_alike e code known p q d = rw q (ap (λ (o : Opcode). instruction_of o (word 4 code (p + 1))) (same_opcode code known p (rw q at d)))

-- ---- of a file of edition 3 that can be read

-- the code of the new module
abbrev pub new_code : List ℕ → ℕ → Option Instruction
new_code s = code_of 4 (code_in s)

module _ (s : List ℕ) (h : refusal_in 3 s ≡ 0) where
  -- it can be read, its tables are good, and it is of edition 3
  pub old_readable : refusal s ≡ 0
  old_readable = (edition_is 3 s refl h).1

  pub old_good : table_refusal (tables_in s) ≡ 0
  old_good = good_file s old_readable

  pub old_edition : edition s ≡ 3
  old_edition = (edition_is 3 s refl h).0

  -- the new module
  pub recoded_is : read (fourth s) ≡ recoded (read s) 4 (new_code s)
  recoded_is =
      let t : Tables = tables_in s in
      let e : table_refusal t ≡ 0 = old_good in
      let q : edition s ≡ 3 = old_edition in
      let g : GoodTables (third_of t (functions_in s)) = good_tables (third_of t (functions_in s)) (third_good t e q) in
      ap module_of (up_read s h).1
      ∙ same_module (up_count t e q) (functions_in s) (up_records t e q) (up_pair t e q) t (up_known t e q) g.good.seventh
      ∙ ap (λ (x : Tables). recoded (module_of x) 4 (new_code s)) (sym (is_third t e q))

  -- its code is the old one at every place
  pub same_instruction : (b : Body) (p : ℕ) → (read s).is_place b p ≡ true → new_code s p ≡ (read s).code p
  unfolding module_of
  same_instruction b p i =
      code_alike (edition s) (code_in s) (up_known (tables_in s) old_good old_edition) p old_edition (place_is (tables_in s) old_good b p i).2
