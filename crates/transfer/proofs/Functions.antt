-- What `call` and `ret` do, way by way, and the function that a module has by number.
use mathlib.Core.Path.{◌≡◌, refl, sym, ap, ◌∙◌, subst}
use mathlib.Core.Logic.{◌⊎◌, inl, inr}
use Prim.Native.Nat.{ℕ, ◌+◌, ◌≤◌, ◌<◌}
use native.Mathlib.Omega.{arith}
use mathlib.Core.Bool.{Bool, true, false, cond}
use mathlib.Core.Option.{Option, none, some}
use mathlib.Core.List.{List}
use lib.ListN.{length}
use lib.Dec.{ltb, eqb}
use borrow.Author.Tests.{lt-ltb, le-ltb, ltb-true, eq-eqb, ne_eqb, eqb-true}
use Rattle.rules.specs.Bytes.{byte, maybe}
use Rattle.rules.specs.declared.Instruction.TheVariants.{Call, Ret}
use Rattle.rules.specs.Instructions.{void, Ty, ptr, ty_of, type_byte, eq_ty}
use Rattle.rules.specs.Tables.{function_count, structure_count, Body, entry, fn, body_of, Function, function_at, function_of, params_from, result_of, module_of}
use Rattle.rules.specs.ModuleFile.{edition, read, refusal, bodies_in, tables_in, functions_in, structures_in}
use Rattle.rules.specs.Machine.{own}
use Rattle.rules.specs.Typing.{Flow, judge, to, with_result}
use Rattle.format.specs.declared.Sections.{Sections}
use Rattle.format.specs.Layout.{Packed}
use Rattle.reader.specs.declared.entries.FunctionRecord.{FunctionRecord}
use Rattle.std.specs.Prelude.{Some}
use Rattle.reader.specs.Answers.{function_found}
use Rattle.reader.proofs.Records.{function_count_lem}
use Rattle.soundness.specs.Readable.{orderly, params_length, parameter_type, StructureByte, ManagedByte, ResultByte, result_type, byte_back}
use Rattle.soundness.specs.Cutting.{good_file, functions_good}
use Rattle.soundness.specs.Tests.{decide, none_some, some_inj}
use Rattle.records.specs.Record.{lists_of, IsType, Holds, Judged}
use Rattle.records.specs.Laws.{kind_low, type_back, same_type, breaks, falls}
use Rattle.records.specs.declared.Transfer.{Transfer}
use Rattle.records.specs.declared.Transfer.TheVariants.{Breaks, Stops, Falls}
use Rattle.transfer.specs.Transfers.{Judges, Pushes, Stripped}
use Rattle.transfer.proofs.Flows.{stops}
use Rattle.transfer.proofs.Constants.{number_byte, number_kind}
use Rattle.transfer.proofs.Operands.{no_operand, top_type, top_operand}

-- ---- the function of a record

-- the byte of a pointer that a function returns is not that of `null`
not_null : (z b : ℕ) → StructureByte z b ⊎ ManagedByte z b → b ≡ 128 → ⊥
not_null z b (inl y) e = let l = y.0 in omega arith
not_null z b (inr (inl (inl y))) e = omega arith
not_null z b (inr (inl (inr (inl y)))) e = omega arith
not_null z b (inr (inl (inr (inr y)))) e = omega arith
not_null z b (inr (inr y)) e = let l = y.0 in omega arith

module _ (s : List ℕ) (e : refusal s ≡ 0) (k : ℕ) (g : FunctionRecord) (is : function_found s k (Some g) ≡ (read s).function k) where
  pub function_few : g.params ≤ 8
  function_few =
      let f : length (params_from (functions_in s) (function_at (edition s) k + 10) g.params) ≤ 8 = (orderly (tables_in s) (good_file s e)).few_params k _ (sym is) in
      omega (arith, params_length (functions_in s) (function_at (edition s) k + 10) g.params)

  function_there : k < function_count (edition s) (functions_in s)
  unfolding module_of
  function_there = decide (ltb k (function_count (edition s) (functions_in s))) (λ y. ltb-true k (function_count (edition s) (functions_in s)) y) (λ y. none_some (sym (rw y at is)))

  pub function_number : (c : Sections) → Packed s c → k < c.functions
  function_number c packed = omega (arith, function_there, function_count_lem s c packed)

  function_same : function_found s k (Some g) ≡ some (function_of (edition s) (functions_in s) (function_at (edition s) k))
  unfolding module_of
  function_same = rw (lt-ltb k (function_count (edition s) (functions_in s)) function_there) at is

  count : g.params ≡ byte (functions_in s) (function_at (edition s) k + 8)
  unfolding function_of
  count =
      let a : ℕ = function_at (edition s) k in
      let fs : List ℕ = functions_in s in
      let u : length (params_from fs (a + 10) g.params) ≡ length (params_from fs (a + 10) (byte fs (a + 8))) =
      ap (λ (o : Option Function). maybe o 0 (λ F. length F.params)) function_same in
      omega (arith, params_length fs (a + 10) g.params, params_length fs (a + 10) (byte fs (a + 8)))

  pub param_type : (j : ℕ) → j < g.params → IsType (byte (functions_in s) (function_at (edition s) k + 10 + j))
  param_type j l = parameter_type (bodies_in s) (functions_good s e) k j function_there (omega (arith, count))

  -- the result's type, where there is one: no function returns `null`'s
  pub return_type : (g.result ≡ 0 → ⊥) → IsType g.result
  unfolding function_of
  return_type valued = type_back g.result (λ v. go v (result_type (bodies_in s) (functions_good s e) k function_there))
    where
      b : ℕ
      b = byte (functions_in s) (function_at (edition s) k + 9)

      same : some (ty_of g.result) ≡ result_of b
      same =
          ap (λ (x : Bool). cond x none (some (ty_of g.result))) (sym (ne_eqb g.result 0 valued))
          ∙ ap (λ (o : Option Function). maybe o none (λ F. F.result)) function_same

      back : ty_of g.result ≡ ptr false void → (b ≡ 0 → ⊥) → IsType b → b ≡ 128
      back v ne is =
          let x : ty_of g.result ≡ ty_of b = some_inj (ty_of g.result) (ty_of b) (same ∙ ap (λ (y : Bool). cond y none (some (ty_of b))) (ne_eqb b 0 ne)) in
          sym is ∙ ap type_byte (sym x ∙ v)

      go : ty_of g.result ≡ ptr false void → (b ≡ 0) ⊎ ResultByte (structure_count (structures_in s)) b → ⊥
      go v (inl z) = none_some (sym (same ∙ ap result_of z))
      go v (inr (inl y)) = let x = number_kind b y in let l = kind_low x.0 in let q = x.1 in
          let h = back v (λ z. omega arith) (number_byte b x.0 q) in omega arith
      go v (inr (inr y)) =
          let Z : ℕ = structure_count (structures_in s) in
          let is : IsType b = byte_back Z b (inl (inr y)) in
          not_null Z b y (back v (λ z. none_some (sym (same ∙ ap result_of z))) is)

-- ---- call

module _ (s : List ℕ) (b : Body) (k q : ℕ) (r : List ℕ) where
  pub call_nowhere : Holds r → (read s).function k ≡ none → Judges (read s) b (Call k) q r Breaks r
  call_nowhere h e = breaks (read s) b q _ r h (rw e refl)

  module _ (g : FunctionRecord) (is : function_found s k (Some g) ≡ (read s).function k) (r' : List ℕ) where
    abbrev params : List Ty
    params = params_from (functions_in s) (function_at (edition s) k + 10) g.params

    pub call_other : (ok : Bool) → Stripped params r ok r' → ok ≡ false → Judges (read s) b (Call k) q r Breaks r'
    call_other ok t e = breaks (read s) b q _ r' t.holds (rw (← is) (t.strips _ ∙ rw e refl))

    module _ (ok : Bool) (t : Stripped params r ok r') (alike : ok ≡ true) where
      flow : (o : Option Ty) → result_of g.result ≡ o
          → judge (read s) b (Call k) q (lists_of r).locals (lists_of r).operands ≡ to q (lists_of r').locals (with_result o (lists_of r').operands)
      flow o e =
          rw (← is) (t.strips _ ∙ rw (alike, e) refl ∙ ap (λ (L : List Ty). to q L (with_result o (lists_of r').operands)) (sym t.locals_kept))

      pub call_bare : g.result ≡ 0 → Judges (read s) b (Call k) q r (Falls q) r'
      call_bare z = falls (read s) b q _ r' t.holds (flow none (ap result_of z))

      pub call_valued : (g.result ≡ 0 → ⊥) → (a : Transfer) (r'' : List ℕ) → Pushes g.result q r' a r''
          → Judges (read s) b (Call k) q r a r''
      call_valued ne a r'' p =
          subst (λ (x : Flow). Judged (read s) b q x a r'') (sym (flow (some (ty_of g.result)) (rw (ne_eqb g.result 0 ne) refl))) (p (read s) b)

-- ---- ret

-- the entry's number is over every function's
own_is : (s : List ℕ) (c : Sections) → Packed s c → (o : ℕ) → own (read s) (body_of o) ≡ (read s).function o
unfolding module_of
own_is s c packed o = go (eqb o 0xffffffff) refl
  where
    go : (x : Bool) → eqb o 0xffffffff ≡ x → own (read s) (cond x entry (fn o)) ≡ (read s).function o
    go true e = let q : o ≡ 0xffffffff = eqb-true o 0xffffffff e in rw (le-ltb o (function_count (edition s) (functions_in s)) (omega (arith, function_count_lem s c packed, packed.few_functions))) refl
    go false e = refl

module _ (s : List ℕ) (c : Sections) (packed : Packed s c) (o q : ℕ) (r : List ℕ) (h : Holds r) where
  pub ret_nowhere : (read s).function o ≡ none → Judges (read s) (body_of o) Ret q r Breaks r
  ret_nowhere e = breaks (read s) (body_of o) q _ r h (rw (own_is s c packed o, e) refl)

  module _ (g : FunctionRecord) (is : function_found s o (Some g) ≡ (read s).function o) where
    pub ret_bare : g.result ≡ 0 → Judges (read s) (body_of o) Ret q r Stops r
    ret_bare z = stops (read s) (body_of o) q _ r h (rw (own_is s c packed o, ← is, z) refl)

    -- a result, and n operands
    module _ (valued : g.result ≡ 0 → ⊥) (type : IsType g.result) (n : ℕ) (many : n ≡ byte r 2) where
      some_result : eqb g.result 0 ≡ false
      some_result = ne_eqb g.result 0 valued

      pub ret_empty : n ≡ 0 → Judges (read s) (body_of o) Ret q r Breaks r
      ret_empty z = breaks (read s) (body_of o) q _ r h (rw (own_is s c packed o, ← is, some_result, no_operand r n many z) refl)

      module _ (has : n ≡ 0 → ⊥) where
        same : eq_ty (ty_of (byte r (31 + n))) (ty_of g.result) ≡ eqb (byte r (31 + n)) g.result
        same = same_type (byte r (31 + n)) g.result (top_type r n many has h) type

        pub ret_other : (byte r (31 + n) ≡ g.result → ⊥) → Judges (read s) (body_of o) Ret q r Breaks r
        ret_other ne =
            breaks (read s) (body_of o) q _ r h
            (rw (own_is s c packed o, ← is, some_result, (top_operand r n many has).1, same, ne_eqb (byte r (31 + n)) g.result ne) refl)

        pub ret_stops : byte r (31 + n) ≡ g.result → Judges (read s) (body_of o) Ret q r Stops r
        ret_stops e =
            stops (read s) (body_of o) q _ r h
            (rw (own_is s c packed o, ← is, some_result, (top_operand r n many has).1, same, eq-eqb (byte r (31 + n)) g.result e) refl)
