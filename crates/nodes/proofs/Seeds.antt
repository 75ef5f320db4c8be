-- The record of a body's start.
use Prim.Native.Nat.{ℕ, zero, suc, ◌+◌, ◌*◌, ◌-◌, ◌≤◌, ◌<◌}
use mathlib.Core.Path.{◌≡◌, refl, ap, ◌∙◌, sym, subst}
use mathlib.Core.Logic.{◌≢◌}
use native.Mathlib.Omega.{arith}
use mathlib.Core.Option.{some}
use mathlib.Core.List.{List, ◌++◌, append-nil}
use lib.ListN.{length, get_or, set, take, drop, replicate, length-set, length-append, length-drop, get_or-append}
use lib.Seq.{paste, get_or-set_same, get_or-set_other, drop-length, length-take-le, get_or-take, get_or-drop}
use Rattle.std.proofs.Common.{get_or-append-add}
use lib.Dec.{ltb}
use Rattle.rules.specs.Bytes.{byte}
use Rattle.rules.specs.Instructions.{Ty, ty_of}
use Rattle.rules.specs.Tables.{function_count, function_at, function_of, Body, fn, body_of, body_start, params_from, module_of}
use Rattle.rules.specs.ModuleFile.{edition, refusal, read, bodies_in, functions_in}
use Rattle.rules.specs.Typing.{start_of}
use Rattle.format.specs.declared.Sections.{Sections}
use Rattle.format.specs.Layout.{Packed}
use Rattle.soundness.specs.Tests.{decide, ltb_is, ltb_isnt, ltb_yes}
use Rattle.soundness.specs.Readable.{Has, few_parameters, parameter_type, unused_parameter}
use Rattle.soundness.specs.Cutting.{functions_good}
use Rattle.reader.proofs.Records.{function_byte}
use Rattle.records.specs.Record.{lists_of, IsType, Holds}
use Rattle.nodes.specs.Nodes.{Copied, Seeded}
use Rattle.nodes.proofs.Copies.{zeros_at, cleared}
use Rattle.nodes.proofs.Bounds.{is_entry, is_function, function_there, function_number}

-- ---- the parameters copied

pub copied_all : (s : List ℕ) (at : ℕ) (st : List ℕ) → at + 8 ≤ length s → length st ≡ 64 → Copied s at 8 st (take 16 st ++ (take 8 (drop at s) ++ drop 8 (drop 16 st)))
copied_all s at st h l =
    let a : List ℕ = take 16 st in
    let w : List ℕ = take 8 (drop at s) in
    let d : List ℕ = drop 8 (drop 16 st) in
    let la : length a ≡ 16 = length-take-le 16 st (omega arith) in
    let ls : length (drop at s) ≡ length s - at = length-drop at s in
    let lw : length w ≡ 8 = length-take-le 8 (drop at s) (omega arith) in
    let lc : length (drop 16 st) ≡ length st - 16 = length-drop 16 st in
    let ld : length d ≡ length (drop 16 st) - 8 = length-drop 8 (drop 16 st) in
    let x : length (a ++ (w ++ d)) ≡ length a + length (w ++ d) = length-append a (w ++ d) in
    let y : length (w ++ d) ≡ length w + length d = length-append w d in
    record {
      long = omega arith;
      copied = λ j m. (let q : 16 + j ≡ length a + j = omega arith in ap (λ (k : ℕ). get_or (a ++ (w ++ d)) k 0) q) ∙ get_or-append-add a (w ++ d) j 0
          ∙ get_or-append w d 0 j (omega arith) ∙ get_or-take 8 (drop at s) j 0 m ∙ get_or-drop at s j 0;
      before = λ j m. get_or-append a (w ++ d) 0 j (omega arith) ∙ get_or-take 16 st j 0 m;
      behind = λ j m.
          let i : ℕ = j - 24 in
          let p : j ≡ length a + (8 + i) = omega arith in
          let r : 8 + i ≡ length w + i = omega arith in
          let t : 16 + (8 + i) ≡ j = omega arith in
          ap (λ (k : ℕ). get_or (a ++ (w ++ d)) k 0) p ∙ get_or-append-add a (w ++ d) (8 + i) 0
          ∙ ap (λ (k : ℕ). get_or (w ++ d) k 0) r ∙ get_or-append-add w d i 0 ∙ get_or-drop 8 (drop 16 st) i 0 ∙ get_or-drop 16 st (8 + i) 0 ∙ ap (λ (k : ℕ). get_or st k 0) t;
    }

-- ---- bytes

-- lists that are read from the same bytes
types_from : (r s : List ℕ) (a b n : ℕ) → ((i : ℕ) → i < n → byte r (a + i) ≡ byte s (b + i)) → params_from r a n ≡ params_from s b n
types_from r s a b zero h = refl
types_from r s a b (suc n) h =
    let e : ty_of (byte r (a + n)) ≡ ty_of (byte s (b + n)) = ap ty_of (h n (omega arith)) in
    let t : params_from r a n ≡ params_from s b n = types_from r s a b n (λ i l. h i (omega arith)) in cc

module _ (st : List ℕ) (l : length st ≡ 64) where
  abbrev blank : List ℕ
  blank = paste st 0 (replicate 64 0) 64

  blank_is : blank ≡ replicate 64 0
  blank_is = cleared st 64 ∙ ap (λ (x : List ℕ). replicate 64 0 ++ x) (ap (λ (n : ℕ). drop n st) (sym l) ∙ drop-length st) ∙ append-nil (replicate 64 0)

  blank_at : (j : ℕ) → byte blank j ≡ 0
  blank_at j = ap (λ (x : List ℕ). byte x j) blank_is ∙ zeros_at 64 j

  blank_long : length blank ≡ 64
  blank_long = ap length blank_is

  given_at_lem : byte (set blank 0 1) 0 ≡ 1
  given_at_lem = let z : length blank ≡ 64 = blank_long in get_or-set_same blank 0 1 0 (omega arith)

  else_at : (j : ℕ) → 0 < j → byte (set blank 0 1) j ≡ 0
  else_at j h = get_or-set_other blank 0 j 1 0 (λ z. omega arith) ∙ blank_at j

  given_long : length (set blank 0 1) ≡ 64
  given_long = length-set blank 0 1 ∙ blank_long

  -- ---- the entry's start

  abbrev first : List ℕ
  first = set blank 0 1

  first_holds : Holds first
  first_holds =
      let u : byte first 1 ≡ 0 = else_at 1 (omega arith) in
      let v : byte first 2 ≡ 0 = else_at 2 (omega arith) in
      record {
        long = given_long;
        given = given_at_lem;
        few_locals = omega arith;
        few_operands = omega arith;
        gap = λ i h k. else_at i (omega arith);
        local_types = λ i h. absurd (omega arith);
        local_rest = λ i h k. else_at (16 + i) (omega arith);
        operand_types = λ i h. absurd (omega arith);
        operand_rest = λ i h k. else_at (32 + i) (omega arith);
      }

  pub seeded_entry : (s : List ℕ) (owner : ℕ) → owner ≡ 0xffffffff → Seeded s (body_of owner) first
  seeded_entry s owner e =
      subst (λ (b : Body). Seeded s b first) (sym (is_entry owner e))
      (record {
        holds = first_holds;
        starts = ap (λ (n : ℕ). some (0, params_from first 16 n)) (sym (else_at 1 (omega arith)));
        bare = ap (λ (n : ℕ). params_from first 32 n) (else_at 2 (omega arith));
      })

  -- ---- a function's start

  module _ (s : List ℕ) (c : Sections) (p : Packed s c) (r : refusal s ≡ 0) (owner : ℕ) (has : Has (bodies_in s) (body_of owner)) (other : owner ≡ 0xffffffff → ⊥) where
    abbrev at : ℕ
    at = c.records + c.stride * owner

    abbrev counted : List ℕ
    counted = set first 1 (get_or s (at + 8) 0)

    abbrev fs : List ℕ
    fs = functions_in s

    numbered : owner < function_count (edition s) fs
    numbered = function_there s c p owner has other

    named : owner < c.functions
    named = function_number s c p owner has other

    abbrev count : ℕ
    count = byte s (at + 8)

    param_count : byte fs (function_at (edition s) owner + 8) ≡ count
    param_count = sym (ap (λ (n : ℕ). byte fs (n * owner + 8)) p.stride_is) ∙ function_byte s c p owner 8 named (omega arith)

    few : count ≤ 8
    few = subst (λ (n : ℕ). n ≤ 8) param_count (few_parameters (bodies_in s) (functions_good s r) owner numbered)

    count_at : byte counted 1 ≡ count
    count_at = let z : length first ≡ 64 = given_long in get_or-set_same first 1 count 0 (omega arith)

    counted_else : (j : ℕ) → j ≢ 1 → byte counted j ≡ byte first j
    counted_else j n = get_or-set_other first 1 j count 0 n

    module _ (st' : List ℕ) (d : Copied s (at + 10) 8 counted st') where
      locals_at : (j : ℕ) → j < 8 → byte st' (16 + j) ≡ byte fs (function_at (edition s) owner + 10 + j)
      locals_at j h =
          let a : function_at (edition s) owner ≡ c.stride * owner = ap (λ (n : ℕ). n * owner) (sym p.stride_is) in
          let q : function_at (edition s) owner + 10 + j ≡ c.stride * owner + (10 + j) = omega arith in
          let z : at + (10 + j) ≡ at + 10 + j = omega arith in
          d.copied j h ∙ sym (ap (byte fs) q ∙ function_byte s c p owner (10 + j) named (omega arith) ∙ ap (byte s) z)

      kept : (j : ℕ) → (j < 16) → j ≢ 1 → byte st' j ≡ byte first j
      kept j h n = d.before j h ∙ counted_else j n

      behind : (j : ℕ) → 24 ≤ j → byte st' j ≡ 0
      behind j h = d.behind j (omega arith) ∙ counted_else j (λ z. omega arith) ∙ else_at j (omega arith)

      locals_count : byte st' 1 ≡ count
      locals_count = d.before 1 (omega arith) ∙ count_at

      operands_count : byte st' 2 ≡ 0
      operands_count = kept 2 (omega arith) (λ z. omega arith) ∙ else_at 2 (omega arith)

      seed_holds : Holds st'
      seed_holds =
          let u : byte st' 1 ≡ count = locals_count in
          let v : byte st' 2 ≡ 0 = operands_count in
          let w : count ≤ 8 = few in
          let x : byte fs (function_at (edition s) owner + 8) ≡ count = param_count in
          record {
            long = d.long ∙ length-set first 1 count ∙ given_long;
            given = kept 0 (omega arith) (λ z. omega arith) ∙ given_at_lem;
            few_locals = omega arith;
            few_operands = omega arith;
            gap = λ i h k. kept i k (λ z. omega arith) ∙ else_at i (omega arith);
            local_types = λ i h. subst IsType (sym (locals_at i (omega arith))) (parameter_type (bodies_in s) (functions_good s r) owner i numbered (omega arith));
            local_rest = λ i h k. decide (ltb i 8)
                (λ y. let z : i < 8 = ltb_is i 8 y in locals_at i z ∙ unused_parameter (bodies_in s) (functions_good s r) owner i numbered (omega arith) z)
                (λ y. let z : 8 ≤ i = ltb_isnt i 8 y in behind (16 + i) (omega arith));
            operand_types = λ i h. absurd (omega arith);
            operand_rest = λ i h k. behind (32 + i) (omega arith);
          }

      function_starts : start_of (read s) (fn owner) ≡ some (body_start (bodies_in s) (fn owner), params_from fs (function_at (edition s) owner + 10) (byte fs (function_at (edition s) owner + 8)))
      unfolding module_of function_of
      function_starts = rw (ltb_yes owner (function_count (edition s) fs) numbered) refl

      locals_are : params_from fs (function_at (edition s) owner + 10) (byte fs (function_at (edition s) owner + 8)) ≡ (lists_of st').locals
      locals_are =
          let u : byte fs (function_at (edition s) owner + 8) ≡ byte st' 1 = param_count ∙ sym locals_count in
          let w : count ≤ 8 = few in
          let x : byte fs (function_at (edition s) owner + 8) ≡ count = param_count in
          types_from fs st' (function_at (edition s) owner + 10) 16 (byte fs (function_at (edition s) owner + 8)) (λ i h. sym (locals_at i (omega arith)))
          ∙ ap (λ (n : ℕ). params_from st' 16 n) u

      pub seeded_function : Seeded s (body_of owner) st'
      seeded_function =
          subst (λ (b : Body). Seeded s b st') (sym (is_function owner other))
          (record {
            holds = seed_holds;
            starts = function_starts ∙ ap (λ (ts : List Ty). some (body_start (bodies_in s) (fn owner), ts)) locals_are;
            bare = ap (λ (n : ℕ). params_from st' 32 n) operands_count;
          })

-- ---- as the code leaves them: z is st zeroed

module _ (st z : List ℕ) (l : length st ≡ 64) (zeroed : z ≡ paste st 0 (replicate 64 0) 64) where
  zeroed_long : length z ≡ 64
  zeroed_long = ap length zeroed ∙ blank_long st l

  pub started_long : length (set z 0 1) ≡ 64
  started_long = length-set z 0 1 ∙ zeroed_long

  pub counted_long : (n : ℕ) → length (set (set z 0 1) 1 n) ≡ 64
  counted_long n = length-set (set z 0 1) 1 n ∙ started_long

  pub seed_entry : (s : List ℕ) (owner : ℕ) → owner ≡ 0xffffffff → Seeded s (body_of owner) (set z 0 1)
  seed_entry s owner e = subst (λ (x : List ℕ). Seeded s (body_of owner) (set x 0 1)) (sym zeroed) (seeded_entry st l s owner e)

  pub seed_function : (s : List ℕ) (c : Sections) → Packed s c → refusal s ≡ 0 → (owner : ℕ) → Has (bodies_in s) (body_of owner) → (owner ≡ 0xffffffff → ⊥) → (st' : List ℕ)
      → Copied s (c.records + c.stride * owner + 10) 8 (set (set z 0 1) 1 (get_or s (c.records + c.stride * owner + 8) 0)) st' → Seeded s (body_of owner) st'
  seed_function s c p r owner has other st' d =
      seeded_function st l s c p r owner has other st'
      (subst (λ (x : List ℕ). Copied s (c.records + c.stride * owner + 10) 8 (set (set x 0 1) 1 (get_or s (c.records + c.stride * owner + 8) 0)) st') zeroed d)
