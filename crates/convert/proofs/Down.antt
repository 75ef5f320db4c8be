-- What may go down: a file of edition 4 that, without structures and profiles, can be read by the rules of edition 3.
use Prim.Native.Nat.{ℕ, zero, suc, ◌+◌, ◌*◌, ◌/◌, ◌%◌, ◌<◌}
use native.Mathlib.Omega.{arith}
use mathlib.Core.Path.{◌≡◌, refl, sym, ap, ap₂, ◌∙◌}
use Rattle.std.specs.Prelude.{Ok, Err}
use Rattle.std.specs.declared.result.Result.{Result}
use Rattle.std.specs.Result.{is_ok}
use Rattle.rules.specs.declared.Refusal.{Refusal}
use Rattle.rules.specs.Results.{refusal_number, refused}
use Rattle.reader.proofs.Opening.{refusal_some}
use mathlib.Core.Bool.{true≢false, Bool, true, false, ◌||◌}
use mathlib.Core.List.{List, [], ◌∷◌}
use lib.Dec.{eqb, ltb}
use lib.ListN.{length}
use Rattle.rules.specs.Bytes.{word, some_below}
use Rattle.rules.specs.Tables.{Tables, tables, constant_count, function_count, function_at, label_count, structure_count, bad_constants, bad_structures, due, first_of, content_tests}
use Rattle.rules.specs.ModuleFile.{edition, constants_in, functions_in, labels_in, code_in, structures_in, entry_length, short, other_edition, other_total, over_limit, not_packed, refusal, tables_in}
use Rattle.rules.specs.Writing.{too_many, broken, table_refusal}
use Rattle.rules.specs.Converting.{to_third, third, lowered, refusal_in, profiled, new_type, new_opcode, not_in_third, down_refusal}
use Rattle.format.specs.declared.Sections.{Sections}
use Rattle.format.specs.Layout.{header_tests, Packed}
use Rattle.soundness.specs.Tests.{decide, false_true, eqb_is, ltb_yes, ltb_no}
use Rattle.soundness.specs.Readable.{AllFalse, none_first, none_below, same_numbers, GoodTables, good_tables}
use Rattle.editions.specs.Paired.{Paired, lowered_pair, pair_counts}
use Rattle.editions.specs.Alike.{Known, same_due, fourth_of, Signed}
use Rattle.editions.specs.Alike as Alike
use Rattle.editions.specs.Conversions.{up_known, down_read, old_types}
use Rattle.reader.proofs.Records.{constants_length, functions_length, labels_length, code_length_lem, structures_length}
use Rattle.format.proofs.Tests.{or_left, or_right}
use Rattle.convert.specs.Rows.{Headed, GoesDown}
use Rattle.convert.proofs.Refusals.{same_refusal, down_allowed}

-- ---- rows and tests

first_none : (n : ℕ) (ts : List Bool) → AllFalse ts → first_of n ts ≡ 0
unfolding first_of
first_none n [] h = refl
first_none n (t ∷ ts) h = rw h.0 (first_none (suc n) ts h.1)

none_found : (n : ℕ) (f : ℕ → Bool) → ((i : ℕ) → i < n → f i ≡ false) → some_below n f ≡ false
unfolding some_below
none_found zero f h = refl
none_found (suc n) f h = rw (none_found n f (λ i l. h i (omega arith)), h n (omega arith))

-- ---- what a packed file of edition 4 has

module _ (s : List ℕ) (c : Sections) (k : Packed s c) (four : edition s ≡ 4) where
  stride_is : c.stride ≡ 24
  stride_is = k.stride_is ∙ rw four refl

  pub records_length : length (functions_in s) ≡ 24 * c.functions
  records_length = functions_length s c k ∙ ap (λ (n : ℕ). n * c.functions) stride_is

  pub records_count : function_count 4 (functions_in s) ≡ c.functions
  records_count = let l : length (functions_in s) ≡ 24 * c.functions = records_length in omega arith

-- ---- what edition 3 lacks

pub has_profile : (t : Tables) → some_below (function_count 4 t.bodies.functions) (profiled t.bodies.functions) ≡ true → not_in_third t ≡ true
unfolding not_in_third
has_profile t h = rw h refl

has_structure : (t : Tables) → 0 < structure_count t.bodies.structures → not_in_third t ≡ true
unfolding not_in_third
has_structure t h =
    let n : ℕ = function_count 4 t.bodies.functions in
    let p : Bool = some_below n (profiled t.bodies.functions) in
    let z : ltb 0 (structure_count t.bodies.structures) ≡ true = ltb_yes 0 (structure_count t.bodies.structures) h in
    or_left _ _ (or_left _ _ (or_right p _ z))

pub structures_newer : (s : List ℕ) (c : Sections) → Packed s c → (c.structures ≡ 0 → ⊥) → not_in_third (tables_in s) ≡ true
structures_newer s c k h =
    let l : length (structures_in s) ≡ 12 * c.structures = structures_length s c k in
    has_structure (tables_in s) (positive c.structures (length (structures_in s)) l h)
  where
    positive : (z l : ℕ) → l ≡ 12 * z → (z ≡ 0 → ⊥) → 0 < l / 12
    positive zero l e h = absurd (h refl)
    positive (suc z) l e h = omega arith

-- where edition 3's rules refuse it, it has something that edition 3 lacks
refused_newer : (s : List ℕ) (n : ℕ) → n ≡ first_of 6 (content_tests (to_third (tables_in s))) → (n ≡ 0 → ⊥) → refusal_in 4 s ≡ 0 → not_in_third (tables_in s) ≡ true
unfolding refusal
refused_newer s n e h r =
    decide (not_in_third (tables_in s)) (λ y. y)
    (λ y.
    let d : (refusal (third s) ≡ 0) × (tables_in (third s) ≡ to_third (tables_in s)) = down_read s (down_allowed s r y) in
    let x : List ℕ = third s in
    let rows : AllFalse (short x ∷ other_edition x ∷ other_total x ∷ over_limit x ∷ not_packed x ∷ content_tests (tables_in x)) =
    none_first 0 (short x ∷ other_edition x ∷ other_total x ∷ over_limit x ∷ not_packed x ∷ content_tests (tables_in x)) d.0 in
    let none : first_of 6 (content_tests (tables_in x)) ≡ 0 = first_none 6 (content_tests (tables_in x)) rows.1.1.1.1.1 in
    absurd (h (e ∙ sym (ap (λ (t : Tables). first_of 6 (content_tests t)) d.1) ∙ none)))

-- ---- signatures and code of tables that both editions take

old_opcodes : (code : List ℕ) → Known code → (i : ℕ) → i < length code → new_opcode code i ≡ false
old_opcodes code known i l =
    decide (eqb (due 4 code i) 0)
    (λ y. let d : due 4 code i ≡ 0 = eqb_is (due 4 code i) 0 y in rw (y, known i l (sym (same_due code known i) ∙ d) d)) (λ y. rw y)

-- ---- where edition 3's rules take it

none : (l : List ℕ) → length l ≡ 0 → l ≡ []
none [] h = refl
none (x ∷ l) h = absurd (omega arith)

abbrev with : Tables → ℕ → List ℕ → Tables
with t e zs = tables e t.constants t.bodies.functions t.labels zs t.bodies.code t.bodies.entry

module _ (s : List ℕ) (c : Sections) (headed : Headed s c) (bare : c.structures ≡ 0)
    (plain : some_below (function_count 4 (functions_in s)) (profiled (functions_in s)) ≡ false)
    (rows : first_of 6 (content_tests (to_third (tables_in s))) ≡ 0) where
  abbrev k : Packed s c
  k = headed.packed

  abbrev n : ℕ
  n = function_count 4 (functions_in s)

  abbrev low : List ℕ
  low = lowered n (functions_in s)

  pair : Paired n low (functions_in s)
  pair =
      let l : length (functions_in s) ≡ 24 * c.functions = records_length s c k headed.fourth in
      lowered_pair n (functions_in s) (omega arith)
      (λ i l. same_numbers (word 4 (functions_in s) (function_at 4 i + 20)) 0 (none_below n (profiled (functions_in s)) plain i l))

  -- rows 4 and 5 of the tables of edition 3
  not_many : too_many (to_third (tables_in s)) ≡ false
  unfolding too_many
  not_many =
      let a : length (constants_in s) ≡ 12 * c.constants = constants_length s c k in
      let b : length (labels_in s) ≡ 8 * c.labels = labels_length s c k in
      let d : length (code_in s) ≡ c.extent = code_length_lem s c k in
      let f : function_count 3 low ≡ n = (pair_counts n low (functions_in s) pair).0 in
      let g : n ≡ c.functions = records_count s c k headed.fourth in
      rw (
        ltb_no 1024 (constant_count (constants_in s)) (omega arith),
        ltb_no 128 (function_count 3 low) (omega arith),
        ltb_no 256 (label_count (labels_in s)) (omega arith),
        ltb_no 16384 (length (code_in s)) (omega arith),
      )

  not_broken : broken (to_third (tables_in s)) ≡ false
  unfolding broken
  not_broken =
      let a : length (constants_in s) ≡ 12 * c.constants = constants_length s c k in
      let b : length (labels_in s) ≡ 8 * c.labels = labels_length s c k in
      let d : length (code_in s) ≡ c.extent = code_length_lem s c k in
      let f : length low ≡ 20 * n = pair.short in
      let x : length (constants_in s) % 12 ≡ 0 = omega arith in
      let y : length low % 20 ≡ 0 = omega arith in
      let z : length (labels_in s) % 8 ≡ 0 = omega arith in
      rw (x, y, z, ltb_no (length (code_in s)) (entry_length s) (omega arith))

  third_good : table_refusal (to_third (tables_in s)) ≡ 0
  unfolding table_refusal
  third_good =
      first_none 2 (false ∷ false ∷ too_many (to_third (tables_in s)) ∷ broken (to_third (tables_in s)) ∷ content_tests (to_third (tables_in s)))
      (refl, (refl, (not_many, (not_broken, none_first 5 (content_tests (to_third (tables_in s))) rows))))

  known : Known (code_in s)
  known = up_known (to_third (tables_in s)) third_good refl

  is_fourth : tables_in s ≡ fourth_of (tables_in s) (functions_in s)
  is_fourth =
      let l : length (structures_in s) ≡ 12 * c.structures = structures_length s c k in
      ap₂ (with (tables_in s)) headed.fourth (none (structures_in s) (omega arith))

  signed : Signed n (functions_in s)
  signed = old_types n low (functions_in s) pair (tables_in s) (good_tables (to_third (tables_in s)) third_good).good.seventh

  fourth_good : table_refusal (fourth_of (tables_in s) (functions_in s)) ≡ 0
  fourth_good = Alike.same_refusal n low (functions_in s) pair (tables_in s) known signed ∙ third_good

  -- so it can be read
  readable : refusal_in 4 s ≡ 0
  unfolding refusal
  readable =
      let g : GoodTables (tables_in s) = good_tables (tables_in s) (ap table_refusal is_fourth ∙ fourth_good) in
      let h : AllFalse (header_tests s) = none_first 0 (header_tests s) headed.rows in
      let six : (bad_constants (constants_in s) || bad_structures (structures_in s)) ≡ false = rw (g.sixth, g.shapes) refl in
      same_refusal 4 s refl headed.fourth
      ∙ first_none 1 (short s ∷ other_edition s ∷ other_total s ∷ over_limit s ∷ not_packed s ∷ content_tests (tables_in s))
      (h.0, (h.1.0, (h.1.1.0, (h.1.1.1.0, (h.1.1.1.1.0, (six, (g.good.seventh, (g.good.eighth, (g.ninth, tt)))))))))

  nothing_new : not_in_third (tables_in s) ≡ false
  unfolding not_in_third
  nothing_new =
      let l : length (structures_in s) ≡ 12 * c.structures = structures_length s c k in
      rw (
        plain,
        ltb_no 0 (structure_count (structures_in s)) (omega arith),
        none_found n (new_type (functions_in s)) signed,
        none_found (length (code_in s)) (new_opcode (code_in s)) (old_opcodes (code_in s) known),
      )

  may_go_down : down_refusal s ≡ 0
  may_go_down = down_allowed s readable nothing_new

-- ---- what the test tells

pub not_down : (s : List ℕ) (c : Sections) → not_in_third (tables_in s) ≡ true → GoesDown s c false
not_down s c h = record { allowed = λ y. false_true y; bare = λ y. false_true y; newer = λ y r. h }

pub goes_down : (s : List ℕ) (c : Sections) → Headed s c → c.structures ≡ 0 → (p : Bool)
    → p ≡ some_below (function_count 4 (functions_in s)) (profiled (functions_in s)) → p ≡ false
    → {T : Type 0} (r : Result T Refusal) → refused r ≡ first_of 6 (content_tests (to_third (tables_in s))) → (b : Bool) → b ≡ is_ok r → GoesDown s c b
goes_down s c headed bare p is plain (Ok x) e b q =
    record { allowed = λ y. may_go_down s c headed bare (sym is ∙ plain) (sym e); bare = λ y. bare; newer = λ y r. absurd (true≢false (sym q ∙ y)) }
goes_down s c headed bare p is plain (Err f) e b q =
    record {
      allowed = λ y. absurd (true≢false (sym y ∙ q));
      bare = λ y. bare;
      newer = λ y r. refused_newer s (refusal_number f) e (refusal_some f) r;
    }
