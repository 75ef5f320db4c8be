-- A function and a label of a module that can be read: what the code finds of them is in range.
use Prim.Native.Nat.{ℕ, suc, ◌+◌, ◌-◌, ◌≤◌, ◌<◌}
use native.Mathlib.Omega.{arith}
use mathlib.Core.Path.{◌≡◌, refl, sym, ap, ◌∙◌}
use mathlib.Core.Bool.{Bool, true, false, cond}
use mathlib.Core.Logic.{◌⊎◌, inl, inr}
use mathlib.Core.Option.{Option, none, some}
use mathlib.Core.List.{List}
use lib.ListN.{length}
use lib.Dec.{ltb, eqb}
use borrow.Author.Tests.{lt-ltb, ltb-true, ltb-false, ne_eqb, eqb-true}
use Rattle.rules.specs.Bytes.{byte, word, maybe}
use Rattle.rules.specs.Instructions.{type_byte, ty_of}
use Rattle.rules.specs.Tables.{function_count, structure_count, bad_functions, end_before, function_at, function_of, result_of, Function, body_of, entry, fn, params_from, module_of}
use Rattle.rules.specs.ModuleFile.{edition, refusal, read, bodies_in, tables_in, functions_in, code_in}
use Rattle.soundness.specs.Tests.{decide, none_some, some_inj}
use Rattle.soundness.specs.Readable.{Has, ResultByte, pointer_back, byte_back, result_type, few_parameters, label_is, params_length, ends_rise, fills, starts_after}
use Rattle.soundness.specs.Cutting.{few_functions, little_code, good_file, functions_good}
use Rattle.reader.specs.declared.entries.FunctionRecord.{FunctionRecord}
use Rattle.std.specs.Prelude.{Some}
use Rattle.reader.specs.declared.entries.LabelRecord.{LabelRecord}
use Rattle.reader.specs.Answers.{function_found}

-- a number whose type is not `null`'s is the byte of that type
type_back : (x : ℕ) → (type_byte (ty_of x) ≡ 128 → ⊥) → type_byte (ty_of x) ≡ x
type_back x ne =
    decide (eqb x 3) (λ a. rw a (sym (eqb-true x 3 a)))
    (λ a. decide (eqb x 4) (λ b. rw (a, b) (sym (eqb-true x 4 b)))
    (λ b. decide (eqb x 6) (λ c. rw (a, b, c) (sym (eqb-true x 6 c)))
    (λ c. decide (ltb x 128)
    (λ d. let l = ltb-true x 128 d in
    let z : x - 128 ≡ 0 = omega arith in
    absurd (ne (rw (a, b, c, lt-ltb x 192 (omega arith), z) refl)))
    (λ d. pointer_back x (ltb-false x 128 d)))))

not_null : (z t : ℕ) → ResultByte z t → t ≡ 128 → ⊥
not_null z t (inl (inl e)) q = omega arith
not_null z t (inl (inr (inl e))) q = omega arith
not_null z t (inl (inr (inr e))) q = omega arith
not_null z t (inr (inl h)) q = let l : 138 ≤ t = h.0 in omega arith
not_null z t (inr (inr (inl (inl e)))) q = omega arith
not_null z t (inr (inr (inl (inr (inl e))))) q = omega arith
not_null z t (inr (inr (inl (inr (inr e))))) q = omega arith
not_null z t (inr (inr (inr h))) q = let l : 202 ≤ t = h.0 in omega arith

module _ (s : List ℕ) (readable : refusal s ≡ 0) where
  -- its number, its count of parameters and its end
  module _ (k : ℕ) (g : FunctionRecord) where
    pub callee : function_found s k (Some g) ≡ (read s).function k
        → (k < function_count (edition s) (functions_in s)) × (g.params ≤ 8) × (g.end ≤ 16384) × (g.params ≡ byte (functions_in s) (function_at (edition s) k + 8))
    unfolding module_of function_of end_before
    callee e = go (ltb k (function_count (edition s) (functions_in s))) refl
      where
        go : (b : Bool) → ltb k (function_count (edition s) (functions_in s)) ≡ b → (k < function_count (edition s) (functions_in s)) × (g.params ≤ 8) × (g.end ≤ 16384) × (g.params ≡ byte (functions_in s) (function_at (edition s) k + 8))
        go false y = let z : ◌≡◌ {A = ℕ} 1 0 = ap (λ (o : Option Function). maybe o 0 (λ F. 1)) (rw y at e) in absurd (omega arith)
        go true y =
            let h : k < function_count (edition s) (functions_in s) = ltb-true k (function_count (edition s) (functions_in s)) y in
            let a : ℕ = function_at (edition s) k in
            let fs : List ℕ = functions_in s in
            let q : function_found s k (Some g) ≡ some (function_of (edition s) fs a) = rw y at e in
            let ends : g.end ≡ word 4 fs a + word 4 fs (a + 4) = ap (λ (o : Option Function). maybe o 0 (λ F. F.end)) q in
            let counts : length (params_from fs (a + 10) g.params) ≡ length (params_from fs (a + 10) (byte fs (a + 8))) =
            ap (λ (o : Option Function). maybe o 0 (λ F. length F.params)) q in
            let same : g.params ≡ byte fs (a + 8) = sym (params_length fs (a + 10) g.params) ∙ counts ∙ params_length fs (a + 10) (byte fs (a + 8)) in
            let good : bad_functions (bodies_in s) ≡ false = functions_good s readable in
            let few : byte fs (a + 8) ≤ 8 = few_parameters (bodies_in s) good k h in
            let start : word 4 fs a ≡ end_before (bodies_in s) k = starts_after (bodies_in s) good k h in
            let rises : end_before (bodies_in s) (suc k) ≤ end_before (bodies_in s) (function_count (edition s) fs) = ends_rise (bodies_in s) (suc k) (function_count (edition s) fs) h in
            let full : end_before (bodies_in s) (function_count (edition s) fs) ≡ length (code_in s) = fills (bodies_in s) good in
            let next : end_before (bodies_in s) (suc k) ≡ end_before (bodies_in s) k + word 4 fs (a + 4) = refl in (
              h,
              omega (arith, same),
              omega (arith, little_code s readable),
              same,
            )

    -- its return type is that of its byte
    pub returned : function_found s k (Some g) ≡ (read s).function k → (g.result ≡ 0 → ⊥) → type_byte (ty_of g.result) ≡ g.result
    unfolding module_of function_of
    returned e ne = type_back g.result (λ q. go (result_type (bodies_in s) (functions_good s readable) k (callee e).0) q)
      where
        fs : List ℕ
        fs = functions_in s

        y : ℕ
        y = byte fs (function_at (edition s) k + 9)

        same : some (ty_of g.result) ≡ result_of y
        same =
            let q : function_found s k (Some g) ≡ some (function_of (edition s) fs (function_at (edition s) k)) = rw (lt-ltb k (function_count (edition s) fs) (callee e).0) at e in
            rw (ne_eqb g.result 0 ne) at (ap (λ (o : Option Function). maybe o none (λ F. F.result)) q)

        go : (y ≡ 0) ⊎ ResultByte (structure_count (bodies_in s).structures) y → type_byte (ty_of g.result) ≡ 128 → ⊥
        go (inl z) q = none_some (sym (same ∙ rw z refl))
        go (inr z) q =
            decide (eqb y 0) (λ n. none_some (sym (same ∙ rw n refl)))
            (λ n. let t : ty_of g.result ≡ ty_of y = some_inj (ty_of g.result) (ty_of y) (same ∙ rw n refl) in
            not_null (structure_count (bodies_in s).structures) y z (sym (byte_back (structure_count (bodies_in s).structures) y (inl z)) ∙ ap type_byte (sym t) ∙ q))

  -- a label's owner: the entry, or a function
  pub owner_good : (k : ℕ) (l : LabelRecord) → some (body_of l.owner, l.place) ≡ (read s).label k → (l.owner ≡ 0xffffffff) ⊎ (l.owner < 65535)
  owner_good k l e = go (eqb l.owner 0xffffffff) refl (label_is (tables_in s) (good_file s readable) k (body_of l.owner) l.place (sym e)).1.0
    where
      go : (b : Bool) → eqb l.owner 0xffffffff ≡ b → Has (bodies_in s) (cond b entry (fn l.owner)) → (l.owner ≡ 0xffffffff) ⊎ (l.owner < 65535)
      go true y h = inl (eqb-true l.owner 0xffffffff y)
      go false y h = inr (omega (arith, few_functions s readable))
