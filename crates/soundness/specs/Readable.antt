-- What a module that can be read keeps: each row of the table read as facts, and the flow of places in its bodies.
use Rattle.std.specs.Prelude.{◌≡◌, ◌≢◌, ◌⊎◌, ◌&&◌, ◌||◌, take, drop}
use Rattle.std.proofs.Math.Path.{refl, sym, ap, subst}
use Rattle.std.proofs.Common.{◌∙◌, inl, inr}
use Prim.Native.Nat.{ℕ, zero, suc, ◌+◌, ◌-◌, ◌/◌, ◌%◌, ◌≤◌, ◌<◌}
use native.Mathlib.Omega.{arith}
use Rattle.std.proofs.Math.Bool.{Bool, true, false}
use Rattle.std.proofs.Math.Option.{some}
use mathlib.Core.List.{List, [], ◌∷◌}
use Rattle.std.proofs.Math.ListN.{length, get_or}
use Rattle.std.proofs.Math.Seq.{get_or-drop}
use Rattle.std.proofs.Math.Dec.{ltb, leb, eqb}
use Rattle.soundness.specs.Names.{Num, Instruction, push, load, store, lea, one, two, tload, tstore, bump, jmp, branch, call, ret, null, new, delete, flea, count, copy, pop, neg, complement, convert, swap, int, long, double, Unary}
use Rattle.rules.specs.Bytes.{byte, word, number, some_below}
use Rattle.rules.specs.Instructions.{struct, Ty, ptr, pointee_number, pointee_of, type_byte, ty_of, Opcode, absent, bare, wide, from_zero, from_add, edition1, edition3, opcodes, opcode_of, is_absent, operand_bytes, instruction_of, size}
use Rattle.rules.specs.Tables.{Bodies, Tables, function_size, constant_count, function_count, label_count, structure_count, constant_at, function_at, label_at, structure_at, differs, unknown_edition, structure_limit, odd_constant, bad_constant, bad_constants, number_type, bad_field, bad_structure_record, bad_structure, bad_structures, structure_type, managed_type, odd_return, pointer_type, odd_param, bad_param, bad_record, bad_function, bad_functions, end_before, opcode_at, due_after, due, due_in, unknown_at, crossed, bad_code, owns, bad_label, bad_labels, first_of, content_tests, Body, entry, fn, body_of, Function, Module, params_from, result_of, function_of, fields_from, structure_of, label_of, code_of, body_start, body_end, place_in, module_of}
use Rattle.rules.specs.Writing.{too_many, broken, table_refusal}
use Rattle.rules.specs.Typing.{start_of, end_of}
use Rattle.rules.specs.Claims.{due_from}
use Rattle.soundness.specs.Tests.{decide, none_some, some_inj, eqb_is, eqb_isnt, eqb_other, leb_is, leb_isnt, leb_yes, ltb_is, ltb_isnt, ltb_yes, ltb_no, false_true, and_both, and_intro, or_neither, not_false}
use Rattle.soundness.specs.Invariant.{Free}
use Rattle.soundness.specs.Numbering.{key_table, key_of, keyed}

-- ---- rows

abbrev pub AllFalse : List Bool → Type 0
AllFalse [] = Unit {0}
AllFalse (t ∷ ts) = (t ≡ false) × AllFalse ts

pub none_first : (n : ℕ) (ts : List Bool) → first_of (suc n) ts ≡ 0 → AllFalse ts
unfolding first_of
none_first n [] e = tt
none_first n (true ∷ ts) e = absurd (omega arith)
none_first n (false ∷ ts) e = (refl, none_first (suc n) ts e)

pub none_below : (n : ℕ) (f : ℕ → Bool) → some_below n f ≡ false → (i : ℕ) → i < n → f i ≡ false
unfolding some_below
none_below zero f e i h = absurd (omega arith)
none_below (suc n) f e i h =
    let x : (some_below n f ≡ false) × (f n ≡ false) = or_neither (some_below n f) (f n) e in
    decide (ltb i n) (λ y. none_below n f x.0 i (ltb_is i n y)) (λ y. let w : n ≤ i = ltb_isnt i n y in let q : i ≡ n = omega arith in ap f q ∙ x.1)

pub same_numbers : (a b : ℕ) → differs a b ≡ false → a ≡ b
same_numbers a b e = eqb_is a b (not_false (eqb a b) e)

-- ---- type bytes

-- the byte of a number type
abbrev pub NumberByte : ℕ → Type 0
NumberByte t = (t ≡ 3) ⊎ ((t ≡ 4) ⊎ (t ≡ 6))

number_byte_small : (t : ℕ) → NumberByte t → t < 256
number_byte_small t (inl q) = omega arith
number_byte_small t (inr (inl q)) = omega arith
number_byte_small t (inr (inr q)) = omega arith

-- the first byte of a word below 256 is the word
first_byte : (l : List ℕ) → number (take 4 l) < 256 → get_or l 0 0 ≡ number (take 4 l)
first_byte [] h = refl
first_byte (a ∷ l) h = omega arith

constant_type_word : (t u : ℕ) → odd_constant t u ≡ false → NumberByte t
constant_type_word t u e =
    let x : (differs t 3 && differs t 4 && differs t 6) ≡ false = (or_neither (eqb t 3 && differs u 0) (differs t 3 && differs t 4 && differs t 6) e).1 in
    decide (eqb t 3) (λ a. inl (eqb_is t 3 a))
    (λ a. decide (eqb t 4) (λ b. inr (inl (eqb_is t 4 b)))
    (λ b. decide (eqb t 6) (λ c. inr (inr (eqb_is t 6 c))) (λ c. false_true (sym (rw (a, b, c) at x)))))

-- the bytes of pointers to numbers, and to one of z structures
abbrev pub PointerByte : ℕ → Type 0
PointerByte t = (t ≡ 131) ⊎ ((t ≡ 132) ⊎ (t ≡ 134))

abbrev pub StructureByte : ℕ → ℕ → Type 0
StructureByte z t = (138 ≤ t) × (t < 138 + z)

-- the bytes of managed pointers, to numbers and to one of z structures
abbrev pub ManagedByte : ℕ → ℕ → Type 0
ManagedByte z t = ((t ≡ 195) ⊎ ((t ≡ 196) ⊎ (t ≡ 198))) ⊎ ((202 ≤ t) × (t < 202 + z))

-- the bytes of what functions may return and take, where there are z structures
abbrev pub ResultByte : ℕ → ℕ → Type 0
ResultByte z t = NumberByte t ⊎ (StructureByte z t ⊎ ManagedByte z t)

abbrev pub ParameterByte : ℕ → ℕ → Type 0
ParameterByte z t = ResultByte z t ⊎ PointerByte t

one_of : (t i j k : ℕ) → (eqb t i || eqb t j || eqb t k) ≡ true → (t ≡ i) ⊎ ((t ≡ j) ⊎ (t ≡ k))
one_of t i j k e =
    decide (eqb t i) (λ a. inl (eqb_is t i a))
    (λ a. decide (eqb t j) (λ b. inr (inl (eqb_is t j b)))
    (λ b. decide (eqb t k) (λ c. inr (inr (eqb_is t k c))) (λ c. false_true (rw (a, b, c) at e))))

number_type_lem : (t : ℕ) → number_type t ≡ true → NumberByte t
number_type_lem t e = one_of t 3 4 6 e

pointer_type_lem : (e t : ℕ) → pointer_type e t ≡ true → PointerByte t
pointer_type_lem e t h = one_of t 131 132 134 (and_both (differs e 1) (eqb t 131 || eqb t 132 || eqb t 134) h).1

structure_type_lem : (z t : ℕ) → structure_type z t ≡ true → StructureByte z t
structure_type_lem z t e =
    let x : (leb 138 t ≡ true) × (ltb t (138 + z) ≡ true) = and_both (leb 138 t) (ltb t (138 + z)) e in (leb_is 138 t x.0, ltb_is t (138 + z) x.1)

managed_type_lem : (ed z t : ℕ) → managed_type ed z t ≡ true → ManagedByte z t
managed_type_lem ed z t e =
    let x : ((eqb t 195 || eqb t 196 || eqb t 198) || (leb 202 t && ltb t (202 + z))) ≡ true = (and_both (eqb ed 4) ((eqb t 195 || eqb t 196 || eqb t 198) || (leb 202 t && ltb t (202 + z))) e).1 in
    decide (eqb t 195 || eqb t 196 || eqb t 198) (λ a. inl (one_of t 195 196 198 a))
    (λ a. let y : (leb 202 t ≡ true) × (ltb t (202 + z) ≡ true) = and_both (leb 202 t) (ltb t (202 + z)) (rw a at x) in inr (leb_is 202 t y.0, ltb_is t (202 + z) y.1))

return_type : (ed z t : ℕ) → odd_return ed z t ≡ false → (t ≡ 0) ⊎ ResultByte z t
return_type ed z t e =
    decide (eqb t 0) (λ a. inl (eqb_is t 0 a))
    (λ a. decide (number_type t) (λ b. inr (inl (number_type_lem t b)))
    (λ b. decide (structure_type z t) (λ c. inr (inr (inl (structure_type_lem z t c))))
    (λ c. inr (inr (inr (managed_type_lem ed z t (not_false (managed_type ed z t) (rw (a, b, c) at e))))))))

param_type : (ed z : ℕ) (used : Bool) (t : ℕ) → used ≡ true → odd_param ed z used t ≡ false → ParameterByte z t
param_type ed z used t u e =
    let o : odd_param ed z true t ≡ false = rw u at e in
    decide (number_type t) (λ a. inl (inl (number_type_lem t a)))
    (λ a. decide (pointer_type ed t) (λ b. inr (pointer_type_lem ed t b))
    (λ b. decide (structure_type z t) (λ c. inl (inr (inl (structure_type_lem z t c))))
    (λ c. decide (managed_type ed z t) (λ d. inl (inr (inr (managed_type_lem ed z t d)))) (λ d. false_true (sym (rw (a, b, c, d) at o))))))

-- from 128 on bytes are those of pointers, from 192 on of managed ones
pub pointer_ty : (t : ℕ) → 128 ≤ t → t < 192 → ty_of t ≡ ptr false (pointee_of (t - 128))
pointer_ty t l u = rw (eqb_other t 3 (omega arith), eqb_other t 4 (omega arith), eqb_other t 6 (omega arith), ltb_yes t 192 u) refl

pub managed_ty : (t : ℕ) → 192 ≤ t → ty_of t ≡ ptr true (pointee_of (t - 192))
managed_ty t l = rw (eqb_other t 3 (omega arith), eqb_other t 4 (omega arith), eqb_other t 6 (omega arith), ltb_no t 192 l) refl

pointee_back : (n : ℕ) → pointee_number (pointee_of n) ≡ n
pointee_back n =
    decide (eqb n 0) (λ a. rw a (sym (eqb_is n 0 a)))
    (λ a. decide (eqb n 3) (λ b. rw (a, b) (sym (eqb_is n 3 b)))
    (λ b. decide (eqb n 4) (λ c. rw (a, b, c) (sym (eqb_is n 4 c)))
    (λ c. decide (eqb n 6) (λ d. rw (a, b, c, d) (sym (eqb_is n 6 d))) (λ d. rw (a, b, c, d) refl))))

-- the byte of the type that was read from it, of every byte of a pointer
pub pointer_back : (t : ℕ) → 128 ≤ t → type_byte (ty_of t) ≡ t
pointer_back t l =
    decide (ltb t 192)
    (λ y. let q : pointee_number (pointee_of (t - 128)) ≡ t - 128 = pointee_back (t - 128) in ap type_byte (pointer_ty t l (ltb_is t 192 y)) ∙ omega arith)
    (λ y. let u : 192 ≤ t = ltb_isnt t 192 y in let q : pointee_number (pointee_of (t - 192)) ≡ t - 192 = pointee_back (t - 192) in ap type_byte (managed_ty t u) ∙ omega arith)

pub structure_ty : (t : ℕ) → 138 ≤ t → t < 192 → ty_of t ≡ ptr false (struct (t - 128))
structure_ty t l u =
    rw (
      eqb_other t 3 (omega arith),
      eqb_other t 4 (omega arith),
      eqb_other t 6 (omega arith),
      ltb_yes t 192 u,
      eqb_other (t - 128) 0 (omega arith),
      eqb_other (t - 128) 3 (omega arith),
      eqb_other (t - 128) 4 (omega arith),
      eqb_other (t - 128) 6 (omega arith),
    ) refl

managed_high : (z t : ℕ) → ManagedByte z t → 192 ≤ t
managed_high z t (inl (inl q)) = omega arith
managed_high z t (inl (inr (inl q))) = omega arith
managed_high z t (inl (inr (inr q))) = omega arith
managed_high z t (inr h) = let l : 202 ≤ t = h.0 in omega arith

-- the byte of the type that was read from it
pub byte_back : (z t : ℕ) → ParameterByte z t → type_byte (ty_of t) ≡ t
byte_back z t (inl (inl (inl q))) = rw q refl
byte_back z t (inl (inl (inr (inl q)))) = rw q refl
byte_back z t (inl (inl (inr (inr q)))) = rw q refl
byte_back z t (inl (inr (inl h))) = let l : 138 ≤ t = h.0 in pointer_back t (omega arith)
byte_back z t (inl (inr (inr h))) = let l : 192 ≤ t = managed_high z t h in pointer_back t (omega arith)
byte_back z t (inr (inl q)) = rw q refl
byte_back z t (inr (inr (inl q))) = rw q refl
byte_back z t (inr (inr (inr q))) = rw q refl

-- values of these types name no slot
pub result_free : (z t : ℕ) → ResultByte z t → Free (ty_of t)
result_free z t (inl (inl q)) = rw q tt
result_free z t (inl (inr (inl q))) = rw q tt
result_free z t (inl (inr (inr q))) = rw q tt
result_free z t (inr (inl h)) =
    let l : 138 ≤ t = h.0 in
    decide (ltb t 192) (λ y. subst Free (sym (structure_ty t l (ltb_is t 192 y))) tt) (λ y. subst Free (sym (managed_ty t (ltb_isnt t 192 y))) tt)
result_free z t (inr (inr h)) = subst Free (sym (managed_ty t (managed_high z t h))) tt

-- the editions that there are
abbrev pub KnownEdition : ℕ → Type 0
KnownEdition e = (e ≡ 1) ⊎ ((e ≡ 3) ⊎ (e ≡ 4))

pub known_edition : (e : ℕ) → unknown_edition e ≡ false → KnownEdition e
known_edition e h =
    decide (eqb e 1) (λ y. inl (eqb_is e 1 y))
    (λ y. decide (eqb e 3) (λ z. inr (inl (eqb_is e 3 z))) (λ z. inr (inr (same_numbers e 4 (rw (y, z) at h)))))

structure_limit_lem : (e : ℕ) → structure_limit e ≤ 16
structure_limit_lem e = decide (eqb e 4) (λ y. rw y (omega arith)) (λ y. rw y (omega arith))

-- a body that exists
abbrev pub Has : Bodies → Body → Type 0
Has B entry = Unit {0}
Has B (fn k) = k < function_count B.edition B.functions

-- what rows 4, 5, 7 and 8 leave of the bodies
pub record Good (B : Bodies) : Type 0 where
  pub few_functions : function_count B.edition B.functions ≤ 128
  pub few_structures : structure_count B.structures ≤ 16
  pub little_code : length B.code ≤ 16384
  pub inside : B.entry ≤ length B.code
  pub seventh : bad_functions B ≡ false
  pub eighth : bad_code B ≡ false

-- what rows 2 and 4 to 9 leave of tables
pub record GoodTables (t : Tables) : Type 0 where
  pub known : KnownEdition t.bodies.edition
  pub few_constants : constant_count t.constants ≤ 1024
  pub few_labels : label_count t.labels ≤ 256
  pub whole_constants : length t.constants % 12 ≡ 0
  pub whole_functions : length t.bodies.functions % function_size t.bodies.edition ≡ 0
  pub whole_labels : length t.labels % 8 ≡ 0
  pub whole_structures : length t.bodies.structures % 12 ≡ 0
  pub few_allowed : structure_count t.bodies.structures ≤ structure_limit t.bodies.edition
  pub sixth : bad_constants t.constants ≡ false
  pub shapes : bad_structures t.bodies.structures ≡ false
  pub ninth : bad_labels t.bodies t.labels ≡ false
  pub good : Good t.bodies

pub good_tables : (t : Tables) → table_refusal t ≡ 0 → GoodTables t
unfolding table_refusal too_many broken
good_tables t e =
    let C : ℕ = length t.constants in
    let F : ℕ = length t.bodies.functions in
    let L : ℕ = length t.labels in
    let N : ℕ = length t.bodies.code in
    let Z : ℕ = length t.bodies.structures in
    let most : ℕ = structure_limit t.bodies.edition in
    let each : ℕ = function_size t.bodies.edition in
    let tests : List Bool = unknown_edition t.bodies.edition ∷ false ∷ too_many t ∷ broken t ∷ content_tests t in
    let f : AllFalse tests = none_first 1 tests e in
    let r : AllFalse (too_many t ∷ broken t ∷ content_tests t) = f.1.1 in
    let o : _ × (ltb most (Z / 12) ≡ false) = or_neither _ (ltb most (Z / 12)) r.0 in
    let x : _ × (ltb 16384 N ≡ false) = or_neither _ (ltb 16384 N) o.0 in
    let y : _ × (ltb 256 (L / 8) ≡ false) = or_neither _ (ltb 256 (L / 8)) x.0 in
    let z : (ltb 1024 (C / 12) ≡ false) × (ltb 128 (F / each) ≡ false) = or_neither (ltb 1024 (C / 12)) (ltb 128 (F / each)) y.0 in
    let u : _ × (ltb N t.bodies.entry ≡ false) = or_neither _ (ltb N t.bodies.entry) r.1.0 in
    let q : _ × (differs (Z % 12) 0 ≡ false) = or_neither _ (differs (Z % 12) 0) u.0 in
    let v : _ × (differs (L % 8) 0 ≡ false) = or_neither _ (differs (L % 8) 0) q.0 in
    let w : (differs (C % 12) 0 ≡ false) × (differs (F % each) 0 ≡ false) = or_neither (differs (C % 12) 0) (differs (F % each) 0) v.0 in
    let k : (bad_constants t.constants ≡ false) × (bad_structures t.bodies.structures ≡ false) = or_neither (bad_constants t.constants) (bad_structures t.bodies.structures) r.1.1.0 in
    record {
      known = known_edition t.bodies.edition f.0;
      few_constants = ltb_isnt 1024 (C / 12) z.0;
      few_labels = ltb_isnt 256 (L / 8) y.1;
      whole_constants = same_numbers (C % 12) 0 w.0;
      whole_functions = same_numbers (F % each) 0 w.1;
      whole_labels = same_numbers (L % 8) 0 v.1;
      whole_structures = same_numbers (Z % 12) 0 q.1;
      few_allowed = ltb_isnt most (Z / 12) o.1;
      sixth = k.0;
      shapes = k.1;
      ninth = r.1.1.1.1.1.0;
      good =
          record {
            few_functions = ltb_isnt 128 (F / each) z.1;
            few_structures = let a : Z / 12 ≤ most = ltb_isnt most (Z / 12) o.1 in let b : most ≤ 16 = structure_limit_lem t.bodies.edition in omega arith;
            little_code = ltb_isnt 16384 N x.1;
            inside = ltb_isnt N t.bodies.entry u.1;
            seventh = r.1.1.1.0;
            eighth = r.1.1.1.1.0;
          };
    }

-- ---- constants

module _ (s : List ℕ) (sixth : bad_constants s ≡ false) where
  pub good_constant : (i : ℕ) → i < constant_count s → bad_constant s i ≡ false
  unfolding bad_constants
  good_constant = none_below (constant_count s) (bad_constant s) sixth

  constant_word_type : (i : ℕ) → i < constant_count s → NumberByte (word 4 s (constant_at i))
  unfolding bad_constant
  constant_word_type i h = constant_type_word (word 4 s (constant_at i)) (word 4 s (constant_at i + 8)) (good_constant i h)

  -- row 6 speaks of the type word, `constant_of` of its first byte
  pub constant_word : (i : ℕ) → i < constant_count s → word 4 s (constant_at i) ≡ byte s (constant_at i)
  unfolding word
  constant_word i h =
      let a : ℕ = constant_at i in
      let z : a + 0 ≡ a = omega arith in
      sym (first_byte (drop a s) (number_byte_small (number (take 4 (drop a s))) (constant_word_type i h))) ∙ get_or-drop a s 0 0 ∙ ap (λ j. get_or s j 0) z

  pub constant_type : (i : ℕ) → i < constant_count s → NumberByte (byte s (constant_at i))
  constant_type i h = subst NumberByte (constant_word i h) (constant_word_type i h)

-- ---- functions

pub ends_rise : (B : Bodies) (i j : ℕ) → i ≤ j → end_before B i ≤ end_before B j
unfolding end_before
ends_rise B i zero h = let q : i ≡ 0 = omega arith in rw q (omega arith)
ends_rise B i (suc j) h =
    decide (ltb j i) (λ y. let l : j < i = ltb_is j i y in let q : i ≡ suc j = omega arith in rw (q, end_before) (omega arith))
    (λ y. let r : end_before B i ≤ end_before B j = ends_rise B i j (ltb_isnt j i y) in omega arith)

module _ (B : Bodies) (g : bad_functions B ≡ false) where
  abbrev Z : ℕ
  Z = structure_count B.structures

  good_functions : (some_below (function_count B.edition B.functions) (bad_function B) ≡ false) × (differs (end_before B (function_count B.edition B.functions)) (length B.code) ≡ false)
  unfolding bad_functions
  good_functions = or_neither (some_below (function_count B.edition B.functions) (bad_function B)) (differs (end_before B (function_count B.edition B.functions)) (length B.code)) g

  pub fills : end_before B (function_count B.edition B.functions) ≡ length B.code
  fills = same_numbers (end_before B (function_count B.edition B.functions)) (length B.code) good_functions.1

  record_parts : (k : ℕ) → k < function_count B.edition B.functions
      → (differs (word 4 B.functions (function_at B.edition k)) (end_before B k) ≡ false) × (ltb 8 (byte B.functions (function_at B.edition k + 8)) ≡ false) × (odd_return B.edition Z (byte B.functions (function_at B.edition k + 9)) ≡ false)
      × (some_below 8 (bad_param B.edition Z B.functions (function_at B.edition k)) ≡ false)
  unfolding bad_function bad_record
  record_parts k h =
      let a : ℕ = function_at B.edition k in
      let f : bad_function B k ≡ false = none_below (function_count B.edition B.functions) (bad_function B) good_functions.0 k h in
      let x : _ × (some_below 8 (bad_param B.edition Z B.functions a) ≡ false) =
      or_neither _ (some_below 8 (bad_param B.edition Z B.functions a)) (or_neither _ (differs (byte B.functions (a + 18)) 0) (or_neither _ (differs (byte B.functions (a + 19)) 0) f).0).0 in
      let y : _ × (odd_return B.edition Z (byte B.functions (a + 9)) ≡ false) = or_neither _ (odd_return B.edition Z (byte B.functions (a + 9))) x.0 in
      let z : _ × (ltb 8 (byte B.functions (a + 8)) ≡ false) = or_neither _ (ltb 8 (byte B.functions (a + 8))) y.0 in
      ((or_neither (differs (word 4 B.functions a) (end_before B k)) (eqb (word 4 B.functions (a + 4)) 0) z.0).0, z.1, y.1, x.1)

  -- a function starts where the body before it ends
  pub starts_after : (k : ℕ) → k < function_count B.edition B.functions → word 4 B.functions (function_at B.edition k) ≡ end_before B k
  starts_after k h = same_numbers (word 4 B.functions (function_at B.edition k)) (end_before B k) (record_parts k h).0

  pub few_parameters : (k : ℕ) → k < function_count B.edition B.functions → byte B.functions (function_at B.edition k + 8) ≤ 8
  few_parameters k h = ltb_isnt 8 (byte B.functions (function_at B.edition k + 8)) (record_parts k h).1

  pub result_type : (k : ℕ) → k < function_count B.edition B.functions → (byte B.functions (function_at B.edition k + 9) ≡ 0) ⊎ ResultByte (structure_count B.structures) (byte B.functions (function_at B.edition k + 9))
  result_type k h = return_type B.edition Z (byte B.functions (function_at B.edition k + 9)) (record_parts k h).2

  pub parameter_byte : (k j : ℕ) → k < function_count B.edition B.functions → j < byte B.functions (function_at B.edition k + 8) → ParameterByte (structure_count B.structures) (byte B.functions (function_at B.edition k + 10 + j))
  unfolding bad_param
  parameter_byte k j h l =
      let few : byte B.functions (function_at B.edition k + 8) ≤ 8 = few_parameters k h in
      param_type B.edition Z (ltb j (byte B.functions (function_at B.edition k + 8))) (byte B.functions (function_at B.edition k + 10 + j)) (ltb_yes j (byte B.functions (function_at B.edition k + 8)) l)
      (none_below 8 (bad_param B.edition Z B.functions (function_at B.edition k)) (record_parts k h).3 j (omega arith))

  pub parameter_type : (k j : ℕ) → k < function_count B.edition B.functions → j < byte B.functions (function_at B.edition k + 8) → type_byte (ty_of (byte B.functions (function_at B.edition k + 10 + j))) ≡ byte B.functions (function_at B.edition k + 10 + j)
  parameter_type k j h l = byte_back Z (byte B.functions (function_at B.edition k + 10 + j)) (parameter_byte k j h l)

  pub unused_parameter : (k j : ℕ) → k < function_count B.edition B.functions → byte B.functions (function_at B.edition k + 8) ≤ j → j < 8 → byte B.functions (function_at B.edition k + 10 + j) ≡ 0
  unfolding bad_param
  unused_parameter k j h l m =
      let x : odd_param B.edition Z (ltb j (byte B.functions (function_at B.edition k + 8))) (byte B.functions (function_at B.edition k + 10 + j)) ≡ false = none_below 8 (bad_param B.edition Z B.functions (function_at B.edition k)) (record_parts k h).3 j m in
      same_numbers (byte B.functions (function_at B.edition k + 10 + j)) 0 (rw (ltb_no j (byte B.functions (function_at B.edition k + 8)) l) at x)

-- ---- structures

-- a record of 1 to 8 fields, each a number
pub record GoodShape (zs : List ℕ) (i : ℕ) : Type 0 where
  pub some_field : 1 ≤ byte zs (structure_at i)
  pub few_fields : byte zs (structure_at i) ≤ 8
  pub field_type_lem : (j : ℕ) → j < byte zs (structure_at i) → NumberByte (byte zs (structure_at i + 1 + j))

pub good_shape : (zs : List ℕ) → bad_structures zs ≡ false → (i : ℕ) → i < structure_count zs → GoodShape zs i
unfolding bad_structures bad_structure bad_structure_record bad_field
good_shape zs g i h =
    let a : ℕ = structure_at i in
    let n : ℕ = byte zs a in
    let f : bad_structure zs i ≡ false = none_below (structure_count zs) (bad_structure zs) g i h in
    let x : _ × (some_below 8 (bad_field zs a) ≡ false) =
    or_neither _ (some_below 8 (bad_field zs a)) (or_neither _ (differs (byte zs (a + 9)) 0) (or_neither _ (differs (byte zs (a + 10)) 0) (or_neither _ (differs (byte zs (a + 11)) 0) f).0).0).0 in
    let y : (eqb n 0 ≡ false) × (ltb 8 n ≡ false) = or_neither (eqb n 0) (ltb 8 n) x.0 in
    let few : n ≤ 8 = ltb_isnt 8 n y.1 in
    record {
      some_field = let o : n ≢ 0 = eqb_isnt n 0 y.0 in omega arith;
      few_fields = few;
      field_type_lem = λ j l.
          let t : ℕ = byte zs (a + 1 + j) in
          let b : bad_field zs a j ≡ false = none_below 8 (bad_field zs a) x.1 j (omega arith) in
          decide (number_type t) (λ c. number_type_lem t c) (λ c. false_true (sym (rw (ltb_yes j n l, c) at b)));
    }

-- ---- code

module _ (B : Bodies) (g : Good B) where
  good_code : (some_below (length B.code) (unknown_at B.edition B.code) ≡ false) × (some_below (suc (function_count B.edition B.functions)) (crossed B) ≡ false)
  unfolding bad_code
  good_code = or_neither (some_below (length B.code) (unknown_at B.edition B.code)) (some_below (suc (function_count B.edition B.functions)) (crossed B)) g.eighth

  -- an instruction begins at a known opcode
  known_opcode : (p : ℕ) → p < length B.code → due_in B p ≡ 0 → is_absent (opcode_at B.edition B.code p) ≡ false
  unfolding unknown_at
  known_opcode p h d =
      let x : (eqb (due_in B p) 0 && is_absent (opcode_at B.edition B.code p)) ≡ false = none_below (length B.code) (unknown_at B.edition B.code) good_code.0 p h in
      decide (is_absent (opcode_at B.edition B.code p)) (λ y. let z : true ≡ false = rw (d, y) at x in false_true (sym z)) (λ y. y)

  -- no instruction crosses a body's end
  cut_at_end : (i : ℕ) → i ≤ function_count B.edition B.functions → due_in B (end_before B i) ≡ 0
  unfolding crossed
  cut_at_end i h = same_numbers (due_in B (end_before B i)) 0 (none_below (suc (function_count B.edition B.functions)) (crossed B) good_code.1 i (omega arith))

  -- ---- bodies

  -- its end is the end of a body in the order of the code: cut there, inside the code, not before its start
  record EndsWell (b : Body) : Type 0 where
    cut : due_in B (body_end B b) ≡ 0
    inside : body_end B b ≤ length B.code
    starts_cut : due_in B (body_start B b) ≡ 0
    ordered : body_start B b ≤ body_end B b

  due_zero : due_in B 0 ≡ 0
  unfolding due
  due_zero = refl

  end_zero : end_before B 0 ≡ B.entry
  unfolding end_before
  end_zero = refl

  end_of_lem : (k : ℕ) → k < function_count B.edition B.functions → word 4 B.functions (function_at B.edition k) + word 4 B.functions (function_at B.edition k + 4) ≡ end_before B (suc k)
  unfolding end_before
  end_of_lem k h = ap (λ z. z + word 4 B.functions (function_at B.edition k + 4)) (starts_after B g.seventh k h)

  ends_well : (b : Body) → Has B b → EndsWell b
  ends_well entry h = record { cut = subst (λ w. due_in B w ≡ 0) end_zero (cut_at_end 0 (omega arith)); inside = g.inside; starts_cut = due_zero; ordered = omega arith }
  ends_well (fn k) h =
      let q : word 4 B.functions (function_at B.edition k) + word 4 B.functions (function_at B.edition k + 4) ≡ end_before B (suc k) = end_of_lem k h in
      let r : end_before B (suc k) ≤ end_before B (function_count B.edition B.functions) = ends_rise B (suc k) (function_count B.edition B.functions) h in
      let f : end_before B (function_count B.edition B.functions) ≡ length B.code = fills B g.seventh in
      record { cut = rw q (cut_at_end (suc k) h); inside = omega arith; starts_cut = rw (starts_after B g.seventh k h) (cut_at_end k (omega arith)); ordered = omega arith }

  -- what lies before the end of an earlier body does not lie in function k
  before : (i k q : ℕ) → k < function_count B.edition B.functions → i ≤ k → q < end_before B i → word 4 B.functions (function_at B.edition k) ≤ q → ⊥
  before i k q h l v u =
      let r : end_before B i ≤ end_before B k = ends_rise B i k l in
      let w : word 4 B.functions (function_at B.edition k) ≡ end_before B k = starts_after B g.seventh k h in omega arith

  -- bodies are packed, so a place that is no end lies in one body only
  same_body : (b c : Body) → Has B b → Has B c → (q : ℕ) → body_start B b ≤ q → q < body_end B b → body_start B c ≤ q → q < body_end B c → b ≡ c
  same_body entry entry h k q i j i' j' = refl
  same_body entry (fn k) h l q i j i' j' = absurd (before 0 k q l (omega arith) (rw end_zero j) i')
  same_body (fn k) entry h l q i j i' j' = absurd (before 0 k q h (omega arith) (rw end_zero j') i)
  same_body (fn j) (fn k) h l q u v u' v' =
      decide (eqb j k) (λ y. ap fn (eqb_is j k y))
      (λ y. absurd (decide (ltb j k) (λ z. later j k q h l (ltb_is j k z) v u')
      (λ z. later k j q l h (let n : j ≢ k = eqb_isnt j k y in let o : k ≤ j = ltb_isnt j k z in omega arith) v' u)))
    where
      later : (j k q : ℕ) → j < function_count B.edition B.functions → k < function_count B.edition B.functions → j < k → q < body_end B (fn j) → body_start B (fn k) ≤ q → ⊥
      later j k q h l o v u = before (suc j) k q l o (subst (λ x. q < x) (end_of_lem j h) v) u

-- ---- instructions

-- the bytes of what a table row makes
abbrev pub Sized : Opcode → Type 0
Sized absent = Unit {0}
Sized (bare i) = size i ≡ 1
Sized (wide i) = (w : ℕ) → size (i w) ≡ 5

-- what holds of every row of a table
abbrev Rows : (Opcode → Type 0) → List Opcode → Type 0
Rows P [] = Unit {0}
Rows P (h ∷ hs) = P h × Rows P hs

rows_at : (P : Opcode → Type 0) → P absent → (t : List Opcode) → Rows P t → (b : ℕ) → P (opcode_of t b)
rows_at P n [] a b = n
rows_at P n (h ∷ t) a zero = a.0
rows_at P n (h ∷ t) a (suc b) = rows_at P n t a.1 b

all_sized : Rows Sized key_table
all_sized =
    (tt, ((λ w. refl), (refl, ((λ w. refl), ((λ w. refl), ((λ w. refl), ((λ w. refl), (refl, (refl, (refl, (refl, (refl, (refl, (refl, (refl, (refl, (refl, (refl, (refl, (refl, (refl, (refl, (refl, (refl, (refl, (refl, (refl, (refl, (refl, (refl, (refl, (refl, ((λ w. refl), ((λ w. refl), ((λ w. refl), ((λ w. refl), ((λ w. refl), ((λ w. refl), ((λ w. refl), ((λ w. refl), (refl, (refl, (refl, (refl, (refl, (refl, (refl, (refl, (refl, ((λ w. refl), (refl, (refl, ((λ w. refl), tt)))))))))))))))))))))))))))))))))))))))))))))))))))))

pub sized : (e b : ℕ) → Sized (opcode_of (opcodes e) b)
sized e b = go (opcode_of (opcodes e) b) (λ h. keyed e b h)
  where
    go : (o : Opcode) → (is_absent o ≡ false → opcode_of key_table (key_of e b) ≡ o) → Sized o
    go absent k = tt
    go (bare i) k = subst Sized (k refl) (rows_at Sized tt key_table all_sized (key_of e b))
    go (wide i) k = subst Sized (k refl) (rows_at Sized tt key_table all_sized (key_of e b))

-- ---- what only edition 4 has

-- an instruction that needs the heap
abbrev pub uses_heap : Instruction → Bool
uses_heap (push k) = false
uses_heap (load n) = false
uses_heap (store n) = false
uses_heap (lea n) = false
uses_heap (one o) = false
uses_heap (two o) = false
uses_heap tload = false
uses_heap tstore = false
uses_heap (bump u) = false
uses_heap (jmp l) = false
uses_heap (branch c l) = false
uses_heap (call k) = false
uses_heap ret = false
uses_heap (null g) = true
uses_heap (new g n) = true
uses_heap delete = true
uses_heap (flea n) = true

-- an operation that raises where a double does not fit
abbrev pub asks_fit1 : Unary → Bool
asks_fit1 pop = false
asks_fit1 copy = false
asks_fit1 neg = false
asks_fit1 complement = false
asks_fit1 (convert r τ) = r
asks_fit1 (count u) = false

abbrev pub asks_fit : Instruction → Bool
asks_fit (push k) = false
asks_fit (load n) = false
asks_fit (store n) = false
asks_fit (lea n) = false
asks_fit (one o) = asks_fit1 o
asks_fit (two o) = false
asks_fit tload = false
asks_fit tstore = false
asks_fit (bump u) = false
asks_fit (jmp l) = false
asks_fit (branch c l) = false
asks_fit (call k) = false
asks_fit ret = false
asks_fit (null g) = false
asks_fit (new g n) = false
asks_fit delete = false
asks_fit (flea n) = false

-- code of edition e may have the instruction
abbrev pub Native : ℕ → Instruction → Type 0
Native e i = (uses_heap i ≡ true → e ≡ 4) × (asks_fit i ≡ true → e ≡ 1 → ⊥)

-- a row that needs no heap
abbrev NoHeap : Opcode → Type 0
NoHeap absent = Unit {0}
NoHeap (bare i) = uses_heap i ≡ false
NoHeap (wide i) = (w : ℕ) → uses_heap (i w) ≡ false

no_heap_zero : (r : List Opcode) → Rows NoHeap r → Rows NoHeap (from_zero r)
no_heap_zero r h = (tt, ((λ w. refl), (refl, ((λ w. refl), ((λ w. refl), h)))))

no_heap_add : (i : Bool → Instruction) → ((u : Bool) → uses_heap (i u) ≡ false) → (r : List Opcode) → Rows NoHeap r → Rows NoHeap (from_add i r)
no_heap_add i q r h =
    (refl, (refl, (refl, (refl, (refl, (refl, (refl, (refl, (refl, (q true, (q false, (refl, (refl, (refl, (refl, (refl, (refl, (refl, (refl, (refl, (refl, ((λ w. refl), ((λ w. refl), ((λ w. refl), ((λ w. refl), ((λ w. refl), ((λ w. refl), ((λ w. refl), ((λ w. refl), (refl, h))))))))))))))))))))))))))))))

no_heap_first : Rows NoHeap edition1
no_heap_first =
    let i : Bool → Instruction = λ u. one (count u) in
    let r : List Opcode = bare (one (convert false int)) ∷ bare (one (convert false long)) ∷ bare (one (convert false double)) ∷ [] in
    no_heap_zero (from_add i r) (no_heap_add i (λ u. refl) r (refl, (refl, (refl, tt))))

no_heap_third : Rows NoHeap edition3
no_heap_third =
    let r : List Opcode = absent ∷ absent ∷ bare (one (convert true int)) ∷ bare (one (convert true long)) ∷ absent ∷ bare (one (convert false double)) ∷ [] in
    no_heap_zero (wide lea ∷ absent ∷ bare tload ∷ bare tstore ∷ bare (one copy) ∷ bare (two swap) ∷ from_add bump r)
    ((λ w. refl), (tt, (refl, (refl, (refl, (refl, no_heap_add bump (λ u. refl) r (tt, (tt, (refl, (refl, (tt, (refl, tt))))))))))))

-- a row that raises nothing of the kind: edition 1's
abbrev NoFit : Opcode → Type 0
NoFit absent = Unit {0}
NoFit (bare i) = asks_fit i ≡ false
NoFit (wide i) = (w : ℕ) → asks_fit (i w) ≡ false

no_fit_first : Rows NoFit edition1
no_fit_first =
    (tt, ((λ w. refl), (refl, ((λ w. refl), ((λ w. refl), (refl, (refl, (refl, (refl, (refl, (refl, (refl, (refl, (refl, (refl, (refl, (refl, (refl, (refl, (refl, (refl, (refl, (refl, (refl, (refl, (refl, ((λ w. refl), ((λ w. refl), ((λ w. refl), ((λ w. refl), ((λ w. refl), ((λ w. refl), ((λ w. refl), ((λ w. refl), (refl, (refl, (refl, (refl, tt))))))))))))))))))))))))))))))))))))))

no_fit_row : (o : Opcode) → NoFit o → (w : ℕ) (i : Instruction) → instruction_of o w ≡ some i → asks_fit i ≡ false
no_fit_row absent h w i q = none_some q
no_fit_row (bare j) h w i q = sym (ap asks_fit (some_inj j i q)) ∙ h
no_fit_row (wide f) h w i q = sym (ap asks_fit (some_inj (f w) i q)) ∙ h w

-- so may it have the row's
abbrev NativeRow : ℕ → Opcode → Type 0
NativeRow e o = (w : ℕ) (i : Instruction) → instruction_of o w ≡ some i → Native e i

no_heap_row : (o : Opcode) → NoHeap o → (w : ℕ) (i : Instruction) → instruction_of o w ≡ some i → uses_heap i ≡ false
no_heap_row absent h w i q = none_some q
no_heap_row (bare j) h w i q = sym (ap uses_heap (some_inj j i q)) ∙ h
no_heap_row (wide f) h w i q = sym (ap uses_heap (some_inj (f w) i q)) ∙ h w

native_row : (e b : ℕ) → NativeRow e (opcode_of (opcodes e) b)
native_row e b w i h =
    decide (eqb e 3)
    (λ y. let q : e ≡ 3 = eqb_is e 3 y in
    let bare_of_heap : uses_heap i ≡ false = no_heap_row (opcode_of edition3 b) (rows_at NoHeap tt edition3 no_heap_third b) w i (rw q at h) in
    ((λ u. false_true (sym bare_of_heap ∙ u)), λ u o. absurd (omega arith)))
    (λ y. decide (eqb e 1)
    (λ z. let q : e ≡ 1 = eqb_is e 1 z in
    let bare_of_heap : uses_heap i ≡ false = no_heap_row (opcode_of edition1 b) (rows_at NoHeap tt edition1 no_heap_first b) w i (rw q at h) in
    let raises_none : asks_fit i ≡ false = no_fit_row (opcode_of edition1 b) (rows_at NoFit tt edition1 no_fit_first b) w i (rw q at h) in
    ((λ u. false_true (sym bare_of_heap ∙ u)), λ u o. false_true (sym raises_none ∙ u)))
    (λ z. decide (eqb e 4) (λ v. let q : e ≡ 4 = eqb_is e 4 v in ((λ u. q), λ u o. absurd (omega arith))) (λ v. none_some (rw (y, z, v) at h))))

module _ (ed : ℕ) (s : List ℕ) where
  pub due_suc : (p : ℕ) → due ed s (suc p) ≡ due_after (due ed s p) (opcode_at ed s p)
  unfolding due
  due_suc p = refl

  due_less : (p d : ℕ) → due ed s p ≡ suc d → due ed s (suc p) ≡ d
  due_less p d e = due_suc p ∙ ap (λ z. due_after z (opcode_at ed s p)) e

  -- the bytes behind an opcode that a word follows
  pub due_inside : (p : ℕ) → due ed s (suc p) ≡ 4 → (j : ℕ) → j ≤ 4 → due ed s (suc p + j) ≡ 4 - j
  due_inside p e zero h = let q : suc p + 0 ≡ suc p = omega arith in rw q e
  due_inside p e (suc j) h =
      let q : suc p + suc j ≡ suc (suc p + j) = omega arith in
      let r : due ed s (suc p + j) ≡ suc (3 - j) = due_inside p e j (omega arith) ∙ omega arith in
      let z : 3 - j ≡ 4 - suc j = omega arith in rw q (due_less (suc p + j) (3 - j) r ∙ z)

  -- no instruction begins among them
  crossing : (p q : ℕ) → p < q → q < suc p + 4 → due ed s q ≡ 0 → due ed s (suc p) ≡ 4 → ⊥
  crossing p q l₁ l₂ c d =
      let j : ℕ = q - suc p in
      let r : q ≡ suc p + j = omega arith in
      let z : due ed s (suc p + j) ≡ 4 - j = due_inside p d j (omega arith) in
      let y : due ed s (suc p + j) ≡ 0 = subst (λ k. due ed s k ≡ 0) r c in omega arith

  -- from one instruction start to a later one is at least the first one's size
  apart : (p q : ℕ) (i : Instruction) → due ed s p ≡ 0 → due ed s q ≡ 0 → p < q → code_of ed s p ≡ some i → p + size i ≤ q
  unfolding code_of
  apart p q i d c l h = go (opcode_at ed s p) refl (sized ed (byte s p))
    where
      v : ℕ
      v = word 4 s (p + 1)

      go : (o : Opcode) → opcode_at ed s p ≡ o → Sized (opcode_at ed s p) → p + size i ≤ q
      go absent z w = none_some (sym (ap (λ o. instruction_of o v) z) ∙ h)
      go (bare j) z w =
          let y : j ≡ i = some_inj j i (sym (ap (λ o. instruction_of o v) z) ∙ h) in
          let si : size i ≡ 1 = subst (λ k. size k ≡ 1) y (subst Sized z w) in omega arith
      go (wide f) z w =
          let y : f v ≡ i = some_inj (f v) i (sym (ap (λ o. instruction_of o v) z) ∙ h) in
          let si : size i ≡ 5 = subst (λ k. size k ≡ 5) y (subst Sized z w v) in
          let n : due ed s (suc p) ≡ 4 = due_suc p ∙ ap (λ k. due_after k (opcode_at ed s p)) d ∙ ap operand_bytes z in
          decide (leb (p + size i) q) (λ x. leb_is (p + size i) q x)
          (λ x. let u : q < p + size i = leb_isnt (p + size i) q x in absurd (crossing p q l (omega arith) c n))

  pub cut_from : (a : ℕ) → due ed s a ≡ 0 → (k : ℕ) → due ed s (a + k) ≡ due_from ed s a k
  unfolding due_from
  cut_from a e zero = let q : a + 0 ≡ a = omega arith in rw q e
  cut_from a e (suc k) =
      let q : a + suc k ≡ suc (a + k) = omega arith in
      rw q (due_suc (a + k) ∙ ap (λ d. due_after d (opcode_at ed s (a + k))) (cut_from a e k))

  native_code : (p : ℕ) (i : Instruction) → code_of ed s p ≡ some i → Native ed i
  unfolding code_of
  native_code p i h = native_row ed (byte s p) (word 4 s (p + 1)) i h

-- ---- a module whose places lead to places

pub record Orderly (m : Module) : Type 0 where
  pub enters : (b : Body) (x : ℕ × List Ty) → start_of m b ≡ some x → m.is_place b x.0 ≡ true
  pub goes_on : (b : Body) (e p : ℕ) → end_of m b ≡ some e → m.is_place b p ≡ true → p < e
      → (i : Instruction) × (m.code p ≡ some i) × (m.is_place b (p + size i) ≡ true)
  pub lands : (l : ℕ) (b : Body) (q : ℕ) → m.label l ≡ some (b, q) → m.is_place b q ≡ true
  pub few_params : (k : ℕ) (F : Function) → m.function k ≡ some F → length F.params ≤ 8
  pub few_fields : (k : ℕ) (fs : List Num) → m.structure k ≡ some fs → length fs ≤ 8
  pub returns : (k : ℕ) (F : Function) (t : Ty) → m.function k ≡ some F → F.result ≡ some t → Free t
  pub native : (p : ℕ) (i : Instruction) → m.code p ≡ some i → Native m.edition i

pub params_length : (s : List ℕ) (a n : ℕ) → length (params_from s a n) ≡ n
params_length s a zero = refl
params_length s a (suc n) = ap suc (params_length s a n)

pub fields_length : (zs : List ℕ) (a n : ℕ) → length (fields_from zs a n) ≡ n
fields_length zs a zero = refl
fields_length zs a (suc n) = ap suc (fields_length zs a n)

module _ (t : Tables) (e : table_refusal t ≡ 0) where
  good : Good t.bodies
  good = (good_tables t e).good

  -- a place of an existing body, by its parts
  is_place_lem : (b : Body) (p : ℕ) → body_start t.bodies b ≤ p → p ≤ body_end t.bodies b → due_in t.bodies p ≡ 0 → place_in t.bodies b p ≡ true
  unfolding place_in
  is_place_lem b p h k d =
      and_intro (leb (body_start t.bodies b) p && leb p (body_end t.bodies b)) (eqb (due_in t.bodies p) 0)
      (and_intro (leb (body_start t.bodies b) p) (leb p (body_end t.bodies b)) (leb_yes (body_start t.bodies b) p h) (leb_yes p (body_end t.bodies b) k)) (rw d refl)

  pub place_is : (b : Body) (p : ℕ) → place_in t.bodies b p ≡ true → (body_start t.bodies b ≤ p) × (p ≤ body_end t.bodies b) × (due_in t.bodies p ≡ 0)
  unfolding place_in
  place_is b p h =
      let x : ((leb (body_start t.bodies b) p && leb p (body_end t.bodies b)) ≡ true) × (eqb (due_in t.bodies p) 0 ≡ true) = and_both (leb (body_start t.bodies b) p && leb p (body_end t.bodies b)) (eqb (due_in t.bodies p) 0) h in
      let y : (leb (body_start t.bodies b) p ≡ true) × (leb p (body_end t.bodies b) ≡ true) = and_both (leb (body_start t.bodies b) p) (leb p (body_end t.bodies b)) x.0 in
      (leb_is (body_start t.bodies b) p y.0, leb_is p (body_end t.bodies b) y.1, eqb_is (due_in t.bodies p) 0 x.1)

  function_is : (k : ℕ) (F : Function) → (module_of t).function k ≡ some F → (k < function_count t.bodies.edition t.bodies.functions) × (function_of t.bodies.edition t.bodies.functions (function_at t.bodies.edition k) ≡ F)
  unfolding module_of
  function_is k F q =
      decide (ltb k (function_count t.bodies.edition t.bodies.functions)) (λ y. (ltb_is k (function_count t.bodies.edition t.bodies.functions) y, some_inj (function_of t.bodies.edition t.bodies.functions (function_at t.bodies.edition k)) F (rw y at q))) (λ y. none_some (rw y at q))

  -- the body exists where it has an end, and this is the end
  pub end_is : (b : Body) (q : ℕ) → end_of (module_of t) b ≡ some q → Has t.bodies b × (body_end t.bodies b ≡ q)
  unfolding module_of function_of
  end_is entry q h = (tt, some_inj t.bodies.entry q h)
  end_is (fn k) q h =
      decide (ltb k (function_count t.bodies.edition t.bodies.functions)) (λ y. (ltb_is k (function_count t.bodies.edition t.bodies.functions) y, some_inj (body_end t.bodies (fn k)) q (rw y at h))) (λ y. none_some (rw y at h))

  pub has_end : (b : Body) → Has t.bodies b → end_of (module_of t) b ≡ some (body_end t.bodies b)
  unfolding module_of function_of
  has_end entry h = refl
  has_end (fn k) h = rw (ltb_yes k (function_count t.bodies.edition t.bodies.functions) h)

  pub start_is : (b : Body) (x : ℕ × List Ty) → start_of (module_of t) b ≡ some x → Has t.bodies b × (body_start t.bodies b ≡ x.0)
  unfolding module_of function_of
  start_is entry x h = (tt, ap (λ (z : ℕ × List Ty). z.0) (some_inj (0, []) x h))
  start_is (fn k) x h =
      decide (ltb k (function_count t.bodies.edition t.bodies.functions)) (λ y. (ltb_is k (function_count t.bodies.edition t.bodies.functions) y, ap (λ (z : ℕ × List Ty). z.0) (some_inj (body_start t.bodies (fn k), params_from t.bodies.functions (function_at t.bodies.edition k + 10) (byte t.bodies.functions (function_at t.bodies.edition k + 8))) x (rw y at h))))
      (λ y. none_some (rw y at h))

  next_place : (b : Body) (p : ℕ) → Has t.bodies b → place_in t.bodies b p ≡ true → p < body_end t.bodies b → (i : Instruction) × (code_of t.bodies.edition t.bodies.code p ≡ some i) × (place_in t.bodies b (p + size i) ≡ true)
  unfolding code_of
  next_place b p hb h l =
      let w : EndsWell t.bodies good b = ends_well t.bodies good b hb in
      let x : (body_start t.bodies b ≤ p) × (p ≤ body_end t.bodies b) × (due_in t.bodies p ≡ 0) = place_is b p h in
      let ln : body_end t.bodies b ≤ length t.bodies.code = w.inside in
      go (opcode_at t.bodies.edition t.bodies.code p) refl (known_opcode t.bodies good p (omega arith) x.2) (sized t.bodies.edition (byte t.bodies.code p)) w x
    where
      go : (o : Opcode) → opcode_at t.bodies.edition t.bodies.code p ≡ o → is_absent (opcode_at t.bodies.edition t.bodies.code p) ≡ false → Sized (opcode_at t.bodies.edition t.bodies.code p) → EndsWell t.bodies good b → (body_start t.bodies b ≤ p) × (p ≤ body_end t.bodies b) × (due_in t.bodies p ≡ 0)
          → (i : Instruction) × (instruction_of (opcode_at t.bodies.edition t.bodies.code p) (word 4 t.bodies.code (p + 1)) ≡ some i) × (place_in t.bodies b (p + size i) ≡ true)
      go absent q a z w x = let f : true ≡ false = sym (ap is_absent q) ∙ a in false_true (sym f)
      go (bare i) q a z w x =
          let si : size i ≡ 1 = subst Sized q z in
          let d : due_in t.bodies (suc p) ≡ 0 = due_suc t.bodies.edition t.bodies.code p ∙ ap (λ k. due_after k (opcode_at t.bodies.edition t.bodies.code p)) x.2 ∙ ap operand_bytes q in
          let st : body_start t.bodies b ≤ p = x.0 in
          let at_next : p + size i ≡ suc p = omega arith in
          (i, ap (λ o. instruction_of o (word 4 t.bodies.code (p + 1))) q, rw at_next (is_place_lem b (suc p) (omega arith) (omega arith) d))
      go (wide f) q a z w x =
          let v : ℕ = word 4 t.bodies.code (p + 1) in
          let si : size (f v) ≡ 5 = subst Sized q z v in
          let d : due_in t.bodies (suc p) ≡ 4 = due_suc t.bodies.edition t.bodies.code p ∙ ap (λ k. due_after k (opcode_at t.bodies.edition t.bodies.code p)) x.2 ∙ ap operand_bytes q in
          let st : body_start t.bodies b ≤ p = x.0 in
          let at_next : p + size (f v) ≡ suc p + 4 = omega arith in (
            f v,
            ap (λ o. instruction_of o v) q,
            rw at_next (is_place_lem b (suc p + 4) (omega arith)
                (decide (leb (suc p + 4) (body_end t.bodies b)) (λ y. leb_is (suc p + 4) (body_end t.bodies b) y)
                (λ y. absurd (crossing t.bodies.edition t.bodies.code p (body_end t.bodies b) l (leb_isnt (suc p + 4) (body_end t.bodies b) y) w.cut d)))
                (due_inside t.bodies.edition t.bodies.code p d 4 (omega arith))),
          )

  good_label : (i : ℕ) → i < label_count t.labels → (owns t.bodies.edition t.bodies.functions t.bodies.entry (word 4 t.labels (label_at i)) (word 4 t.labels (label_at i + 4)) ≡ true) × (due_in t.bodies (word 4 t.labels (label_at i + 4)) ≡ 0)
  unfolding bad_labels bad_label
  good_label i h =
      let o : Bool = owns t.bodies.edition t.bodies.functions t.bodies.entry (word 4 t.labels (label_at i)) (word 4 t.labels (label_at i + 4)) in
      let d : Bool = eqb (due_in t.bodies (word 4 t.labels (label_at i + 4))) 0 in
      let x : (o ≡ true) × (d ≡ true) = and_both o d (not_false (o && d) (none_below (label_count t.labels) (bad_label t.bodies t.labels) (good_tables t e).ninth i h)) in
      (x.0, eqb_is (due_in t.bodies (word 4 t.labels (label_at i + 4))) 0 x.1)

  -- a label lies in its body, and not at the end
  pub label_is : (k : ℕ) (b : Body) (q : ℕ) → (module_of t).label k ≡ some (b, q) → (k < label_count t.labels) × (Has t.bodies b × (body_start t.bodies b ≤ q) × (q < body_end t.bodies b) × (due_in t.bodies q ≡ 0))
  unfolding module_of label_of owns
  label_is k b q h = decide (ltb k (label_count t.labels)) (λ y. (ltb_is k (label_count t.labels) y, inside (ltb_is k (label_count t.labels) y) (some_inj (body_of o, p) (b, q) (rw y at h)))) (λ y. none_some (rw y at h))
    where
      o : ℕ
      o = word 4 t.labels (label_at k)

      p : ℕ
      p = word 4 t.labels (label_at k + 4)

      of_entry : Bool
      of_entry = eqb o 0xffffffff && ltb p t.bodies.entry

      of_function : Bool
      of_function = ltb o (function_count t.bodies.edition t.bodies.functions) && leb (word 4 t.bodies.functions (function_at t.bodies.edition o)) p && ltb p (word 4 t.bodies.functions (function_at t.bodies.edition o) + word 4 t.bodies.functions (function_at t.bodies.edition o + 4))

      in_body : (a c : Bool) → of_entry ≡ a → of_function ≡ c → (a || c) ≡ true → Has t.bodies (body_of o) × (body_start t.bodies (body_of o) ≤ p) × (p < body_end t.bodies (body_of o))
      in_body true c u v w =
          let x : (eqb o 0xffffffff ≡ true) × (ltb p t.bodies.entry ≡ true) = and_both (eqb o 0xffffffff) (ltb p t.bodies.entry) u in
          rw x.0 (tt, omega arith, ltb_is p t.bodies.entry x.1)
      in_body false true u v w =
          let x : ((ltb o (function_count t.bodies.edition t.bodies.functions) && leb (word 4 t.bodies.functions (function_at t.bodies.edition o)) p) ≡ true) × (ltb p (word 4 t.bodies.functions (function_at t.bodies.edition o) + word 4 t.bodies.functions (function_at t.bodies.edition o + 4)) ≡ true) =
          and_both (ltb o (function_count t.bodies.edition t.bodies.functions) && leb (word 4 t.bodies.functions (function_at t.bodies.edition o)) p) (ltb p (word 4 t.bodies.functions (function_at t.bodies.edition o) + word 4 t.bodies.functions (function_at t.bodies.edition o + 4))) v in
          let z : (ltb o (function_count t.bodies.edition t.bodies.functions) ≡ true) × (leb (word 4 t.bodies.functions (function_at t.bodies.edition o)) p ≡ true) = and_both (ltb o (function_count t.bodies.edition t.bodies.functions)) (leb (word 4 t.bodies.functions (function_at t.bodies.edition o)) p) x.0 in
          let k : o < function_count t.bodies.edition t.bodies.functions = ltb_is o (function_count t.bodies.edition t.bodies.functions) z.0 in
          let few : function_count t.bodies.edition t.bodies.functions ≤ 128 = good.few_functions in
          rw (eqb_other o 0xffffffff (omega arith))
          (k, leb_is (word 4 t.bodies.functions (function_at t.bodies.edition o)) p z.1, ltb_is p (word 4 t.bodies.functions (function_at t.bodies.edition o) + word 4 t.bodies.functions (function_at t.bodies.edition o + 4)) x.1)
      in_body false false u v w = false_true w

      inside : k < label_count t.labels → ◌≡◌ {A = Body × ℕ} (body_of o, p) (b, q) → Has t.bodies b × (body_start t.bodies b ≤ q) × (q < body_end t.bodies b) × (due_in t.bodies q ≡ 0)
      inside l z =
          let g : (owns t.bodies.edition t.bodies.functions t.bodies.entry o p ≡ true) × (due_in t.bodies p ≡ 0) = good_label k l in
          let x : Has t.bodies (body_of o) × (body_start t.bodies (body_of o) ≤ p) × (p < body_end t.bodies (body_of o)) = in_body of_entry of_function refl refl g.0 in
          subst (λ (y : Body × ℕ). Has t.bodies y.0 × (body_start t.bodies y.0 ≤ y.1) × (y.1 < body_end t.bodies y.0) × (due_in t.bodies y.1 ≡ 0)) z (x.0, x.1, x.2, g.1)

  label_place : (k : ℕ) (b : Body) (q : ℕ) → (module_of t).label k ≡ some (b, q) → place_in t.bodies b q ≡ true
  label_place k b q h =
      let x : (k < label_count t.labels) × (Has t.bodies b × (body_start t.bodies b ≤ q) × (q < body_end t.bodies b) × (due_in t.bodies q ≡ 0)) = label_is k b q h in
      let l : q < body_end t.bodies b = x.1.2 in is_place_lem b q x.1.1 (omega arith) x.1.3

  pub label_inside : (k : ℕ) (b : Body) (q end : ℕ) → (module_of t).label k ≡ some (b, q) → end_of (module_of t) b ≡ some end → q < end
  label_inside k b q end h n = subst (λ x. q < x) (end_is b end n).1 (label_is k b q h).1.2

  -- bodies are packed, so a label at a place of a body, short of its end, is that body's
  pub label_own : (k : ℕ) (b' b : Body) (q end : ℕ) → (module_of t).label k ≡ some (b', q) → (module_of t).is_place b q ≡ true → end_of (module_of t) b ≡ some end → q < end → b' ≡ b
  unfolding module_of
  label_own k b' b q end h i n l =
      let x : (k < label_count t.labels) × (Has t.bodies b' × (body_start t.bodies b' ≤ q) × (q < body_end t.bodies b') × (due_in t.bodies q ≡ 0)) = label_is k b' q h in
      let y : Has t.bodies b × (body_end t.bodies b ≡ end) = end_is b end n in
      same_body t.bodies good b' b x.1.0 y.0 q x.1.1 x.1.2 (place_is b q i).0 (subst (λ z. q < z) (sym y.1) l)

  -- the places of a body lie between its ends, and these in the code
  pub place_inside : (b : Body) (p : ℕ) → Has t.bodies b → (module_of t).is_place b p ≡ true → (body_start t.bodies b ≤ p) × (p ≤ body_end t.bodies b) × (body_end t.bodies b ≤ length t.bodies.code)
  unfolding module_of
  place_inside b p h i = let x : (body_start t.bodies b ≤ p) × (p ≤ body_end t.bodies b) × (due_in t.bodies p ≡ 0) = place_is b p i in (x.0, x.1, (ends_well t.bodies good b h).inside)

  pub place_extent : (b : Body) → Has t.bodies b → (p : ℕ) → (module_of t).is_place b p ≡ true → p ≤ (module_of t).extent
  unfolding module_of
  place_extent b h p i =
      let x : (body_start t.bodies b ≤ p) × (p ≤ body_end t.bodies b) × (body_end t.bodies b ≤ length t.bodies.code) = place_inside b p h i in
      let y : p ≤ body_end t.bodies b = x.1 in let z : body_end t.bodies b ≤ length t.bodies.code = x.2 in omega arith

  pub place_onward : (b : Body) (p : ℕ) (ts : List Ty) (q : ℕ) → start_of (module_of t) b ≡ some (p, ts) → (module_of t).is_place b q ≡ true → p ≤ q
  place_onward b p ts q h i =
      let x : Has t.bodies b × (body_start t.bodies b ≡ p) = start_is b (p, ts) h in subst (λ z. z ≤ q) x.1 (place_inside b q x.0 i).0

  -- no instruction of a body reaches over the next one
  pub cut_apart : (b : Body) (p q : ℕ) (i : Instruction) → (module_of t).is_place b p ≡ true → (module_of t).is_place b q ≡ true → p < q → (module_of t).code p ≡ some i → p + size i ≤ q
  unfolding module_of
  cut_apart b p q i h k l c = apart t.bodies.edition t.bodies.code p q i (place_is b p h).2 (place_is b q k).2 l c

  params_few : (k : ℕ) → k < function_count t.bodies.edition t.bodies.functions → length (function_of t.bodies.edition t.bodies.functions (function_at t.bodies.edition k)).params ≤ 8
  unfolding function_of
  params_few k h = rw (params_length t.bodies.functions (function_at t.bodies.edition k + 10) (byte t.bodies.functions (function_at t.bodies.edition k + 8))) (few_parameters t.bodies good.seventh k h)

  -- a structure that is declared, by its type number
  pub structure_is : (k : ℕ) (fs : List Num) → (module_of t).structure k ≡ some fs → (10 ≤ k) × (k - 10 < structure_count t.bodies.structures) × (structure_of t.bodies.structures (k - 10) ≡ fs)
  unfolding module_of
  structure_is k fs q =
      let z : ℕ = structure_count t.bodies.structures in
      decide (leb 10 k && ltb k (10 + z))
      (λ y. let x : (leb 10 k ≡ true) × (ltb k (10 + z) ≡ true) = and_both (leb 10 k) (ltb k (10 + z)) y in
      let l : 10 ≤ k = leb_is 10 k x.0 in
      let u : k < 10 + z = ltb_is k (10 + z) x.1 in
      (l, omega arith, some_inj (structure_of t.bodies.structures (k - 10)) fs (rw y at q)))
      (λ y. none_some (rw y at q))

  fields_few : (k : ℕ) (fs : List Num) → (module_of t).structure k ≡ some fs → length fs ≤ 8
  unfolding structure_of
  fields_few k fs q =
      let zs : List ℕ = t.bodies.structures in
      let a : ℕ = structure_at (k - 10) in
      let x : (10 ≤ k) × (k - 10 < structure_count zs) × (structure_of zs (k - 10) ≡ fs) = structure_is k fs q in
      subst (λ (z : List Num). length z ≤ 8) x.2 (rw (fields_length zs (a + 1) (byte zs a)) (good_shape zs (good_tables t e).shapes (k - 10) x.1).few_fields)

  returns_free : (k : ℕ) → k < function_count t.bodies.edition t.bodies.functions → (u : Ty) → (function_of t.bodies.edition t.bodies.functions (function_at t.bodies.edition k)).result ≡ some u → Free u
  unfolding function_of
  returns_free k h u q = go (result_type t.bodies good.seventh k h) q
    where
      z : ℕ
      z = structure_count t.bodies.structures

      x : ℕ
      x = byte t.bodies.functions (function_at t.bodies.edition k + 9)

      go : (x ≡ 0) ⊎ ResultByte z x → result_of x ≡ some u → Free u
      go (inl y) r = none_some (rw y at r)
      go (inr y) r = decide (eqb x 0) (λ n. none_some (rw n at r)) (λ n. subst Free (some_inj (ty_of x) u (rw n at r)) (result_free z x y))

  pub orderly : Orderly (module_of t)
  unfolding module_of
  orderly =
      record {
        enters = λ b x h.
            let y : Has t.bodies b × (body_start t.bodies b ≡ x.0) = start_is b x h in
            let w : EndsWell t.bodies good b = ends_well t.bodies good b y.0 in
            subst (λ z. place_in t.bodies b z ≡ true) y.1 (is_place_lem b (body_start t.bodies b) (omega arith) w.ordered w.starts_cut);
        goes_on = λ b q p h k l.
            let y : Has t.bodies b × (body_end t.bodies b ≡ q) = end_is b q h in
            let z : body_end t.bodies b ≡ q = y.1 in next_place b p y.0 k (omega arith);
        lands = label_place;
        few_params = λ k F h.
            let y : (k < function_count t.bodies.edition t.bodies.functions) × (function_of t.bodies.edition t.bodies.functions (function_at t.bodies.edition k) ≡ F) = function_is k F h in
            subst (λ (G : Function). length G.params ≤ 8) y.1 (params_few k y.0);
        few_fields = fields_few;
        returns = λ k F u h q.
            let y : (k < function_count t.bodies.edition t.bodies.functions) × (function_of t.bodies.edition t.bodies.functions (function_at t.bodies.edition k) ≡ F) = function_is k F h in
            returns_free k y.0 u (ap (λ (G : Function). G.result) y.1 ∙ q);
        native = λ p i h. native_code t.bodies.edition t.bodies.code p i h;
      }
