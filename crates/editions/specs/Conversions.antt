-- 02, A7: what the conversions write can be read, and each undoes the other.
use Rattle.std.specs.Prelude.{◌≡◌, refl, Bool, false, ◌||◌, length, ltb, eqb}
use Rattle.std.proofs.Common.{sym, ap, ap₂, ◌∙◌, arith}
use Prim.Native.Nat.{ℕ, zero, suc, ◌+◌, ◌%◌, ◌≤◌, ◌<◌}
use mathlib.Core.List.{List, [], ◌∷◌}
use Rattle.rules.specs.Bytes.{byte, word, some_below}
use Rattle.rules.specs.Instructions.{is_absent}
use Rattle.rules.specs.Tables.{Bodies, Tables, tables, differs, function_at, function_count, structure_count, unknown_edition, odd_return, bad_param, bad_record, bad_function, bad_functions, end_before, opcode_at, due, unknown_at, bad_code, first_of, content_tests}
use Rattle.rules.specs.ModuleFile.{edition, tables_in, short, other_edition, other_total, over_limit, not_packed, refusal}
use Rattle.rules.specs.Writing.{file_of, table_refusal}
use Rattle.rules.specs.Claims.{AreBytes}
use Rattle.rules.specs.Numbers.{not_in_edition_3}
use Rattle.rules.specs.Converting.{to_fourth, to_third, fourth, third, refusal_in, profiled, new_type, new_opcode, not_in_third, down_refusal_with, down_refusal, raised, lowered}
use Rattle.soundness.specs.Tests.{decide, eqb_is, eqb_same, ltb_isnt, and_not, or_neither}
use Rattle.soundness.specs.Readable.{AllFalse, none_first, none_below, same_numbers, GoodTables, good_tables}
use Rattle.soundness.specs.Cutting.{good_file}
use Rattle.soundness.specs.Saves.{file_readable, file_back}
use Rattle.editions.specs.Paired.{Paired, raised_pair, lowered_pair, pair_profile, pair_counts, raises, lowers}
use Rattle.editions.specs.Alike.{none_found, Known, Signed, same_types, same_due, third_of, fourth_of, same_refusal}

-- ---- rows

-- where no row holds, the answer is 0
first_none : (n : ℕ) (ts : List Bool) → AllFalse ts → first_of n ts ≡ 0
unfolding first_of
first_none n [] h = refl
first_none n (t ∷ ts) h = rw h.0 (first_none (suc n) ts h.1)

-- a file that must be of edition e is of edition e, and can be read
pub edition_is : (e : ℕ) (s : List ℕ) → unknown_edition e ≡ false → refusal_in e s ≡ 0 → (edition s ≡ e) × (refusal s ≡ 0)
unfolding refusal_in refusal
edition_is e s k h =
    let tests : List Bool = short s ∷ differs (edition s) e ∷ other_total s ∷ over_limit s ∷ not_packed s ∷ content_tests (tables_in s) in
    let r : AllFalse tests = none_first 0 tests h in
    let q : edition s ≡ e = same_numbers (edition s) e r.1.0 in
    let t : other_edition s ≡ false = ap unknown_edition q ∙ k in
    (q, first_none 1 (short s ∷ other_edition s ∷ other_total s ∷ over_limit s ∷ not_packed s ∷ content_tests (tables_in s)) (r.0, (t, r.1.1)))

-- and the other way
is_edition : (e : ℕ) (s : List ℕ) → edition s ≡ e → refusal s ≡ 0 → refusal_in e s ≡ 0
unfolding refusal_in refusal
is_edition e s q h =
    let tests : List Bool = short s ∷ other_edition s ∷ other_total s ∷ over_limit s ∷ not_packed s ∷ content_tests (tables_in s) in
    let r : AllFalse tests = none_first 0 tests h in
    let d : differs (edition s) e ≡ false = rw (q, eqb_same e) in
    first_none 1 (short s ∷ differs (edition s) e ∷ other_total s ∷ over_limit s ∷ not_packed s ∷ content_tests (tables_in s)) (r.0, (d, r.1.1))

-- what may go down is of edition 4, can be read, and has nothing that edition 3 lacks
may_go_down : (s : List ℕ) → down_refusal s ≡ 0 → (refusal_in 4 s ≡ 0) × (not_in_third (tables_in s) ≡ false)
unfolding down_refusal
may_go_down s h = go (refusal_in 4 s) h
  where
    go : (r : ℕ) → down_refusal_with s r ≡ 0 → (r ≡ 0) × (not_in_third (tables_in s) ≡ false)
    go (suc r) h = absurd (omega arith)
    go zero h = decide (not_in_third (tables_in s)) (λ y. let z : not_in_edition_3 ≡ 0 = rw y at h in absurd (omega arith)) (λ y. (refl, y))

-- and the other way
goes_down : (s : List ℕ) → refusal_in 4 s ≡ 0 → not_in_third (tables_in s) ≡ false → down_refusal s ≡ 0
unfolding down_refusal
goes_down s q r = rw (q, r)

-- ---- tables that are not refused, without structures

-- whole records of which there are none
no_records : (l : List ℕ) → length l % 12 ≡ 0 → structure_count l ≤ 0 → l ≡ []
no_records [] h k = refl
no_records (x ∷ l) h k = absurd (omega arith)

-- tables by their edition and structures, the rest being t's
abbrev with : Tables → ℕ → List ℕ → Tables
with t e zs = tables e t.constants t.bodies.functions t.labels zs t.bodies.code t.bodies.entry

module _ (t : Tables) (e : table_refusal t ≡ 0) where
  -- edition 3 has no structure
  pub is_third : t.bodies.edition ≡ 3 → t ≡ third_of t t.bodies.functions
  is_third q =
      let g : GoodTables t = good_tables t e in
      ap₂ (with t) q (no_records t.bodies.structures g.whole_structures (rw q at g.few_allowed))

  -- edition 4 without structures
  is_fourth : t.bodies.edition ≡ 4 → structure_count t.bodies.structures ≤ 0 → t ≡ fourth_of t t.bodies.functions
  is_fourth q k = ap₂ (with t) q (no_records t.bodies.structures (good_tables t e).whole_structures k)

-- ---- up

-- of code that is not refused edition 3 knows every instruction
third_knows : (b : Bodies) → b.edition ≡ 3 → bad_code b ≡ false → Known b.code
unfolding bad_code unknown_at
third_knows b q h p l d d' =
    let code : List ℕ = b.code in
    let x : some_below (length code) (unknown_at b.edition code) ≡ false = (or_neither (some_below (length code) (unknown_at b.edition code)) _ h).0 in
    let y : unknown_at 3 code p ≡ false = none_below (length code) (unknown_at 3 code) (rw q at x) p l in
    and_not (eqb (due 3 code p) 0) (is_absent (opcode_at 3 code p)) y (rw d refl)

-- what row 7 leaves of the types in a record
record_types : (e z : ℕ) (s : List ℕ) (a from : ℕ) → bad_record e z s a from ≡ false
    → (odd_return e z (byte s (a + 9)) ≡ false) × (some_below 8 (bad_param e z s a) ≡ false)
unfolding bad_record
record_types e z s a from f =
    let y : _ × (some_below 8 (bad_param e z s a) ≡ false) =
    or_neither _ (some_below 8 (bad_param e z s a)) (or_neither _ (differs (byte s (a + 18)) 0) (or_neither _ (differs (byte s (a + 19)) 0) f).0).0 in
    let first : Bool = differs (word 4 s a) from || eqb (word 4 s (a + 4)) 0 || ltb 8 (byte s (a + 8)) in
    ((or_neither first (odd_return e z (byte s (a + 9))) y.0).1, y.1)

-- in the signatures of records that edition 3 does not refuse it knows every type
pub old_types : (n : ℕ) (fs gs : List ℕ) → Paired n fs gs → (t : Tables) → bad_functions (third_of t fs).bodies ≡ false → Signed n gs
unfolding bad_functions bad_function
old_types n fs gs p t h i l =
    let b : Bodies = (third_of t fs).bodies in
    let a : ℕ = function_at 3 i in
    let k : ℕ = function_count 3 fs in
    let c : k ≡ n = (pair_counts n fs gs p).0 in
    let all : some_below k (bad_function b) ≡ false = (or_neither (some_below k (bad_function b)) (differs (end_before b k) (length b.code)) h).0 in
    let x : (odd_return 3 0 (byte fs (a + 9)) ≡ false) × (some_below 8 (bad_param 3 0 fs a) ≡ false) =
    record_types 3 0 fs a (end_before b i) (none_below k (bad_function b) all i (omega arith)) in
    same_types n fs gs p i l ∙ rw (x.0, x.1)

module _ (t : Tables) (e : table_refusal t ≡ 0) (q : t.bodies.edition ≡ 3) where
  -- how many functions there are, and their new records
  abbrev pub up_count : ℕ
  up_count = function_count 3 t.bodies.functions

  abbrev pub up_records : List ℕ
  up_records = raised up_count t.bodies.functions

  pub third_good : table_refusal (third_of t t.bodies.functions) ≡ 0
  third_good = sym (ap table_refusal (is_third t e q)) ∙ e

  pub up_pair : Paired up_count t.bodies.functions up_records
  up_pair =
      let w : length t.bodies.functions % 20 ≡ 0 = rw q at (good_tables t e).whole_functions in
      raised_pair up_count t.bodies.functions (omega arith)

  pub up_known : Known t.bodies.code
  up_known = third_knows t.bodies q (good_tables t e).good.eighth

  up_signed : Signed up_count up_records
  up_signed = old_types up_count t.bodies.functions up_records up_pair t (good_tables (third_of t t.bodies.functions) third_good).good.seventh

  -- the new tables are not refused
  up_good : table_refusal (to_fourth t) ≡ 0
  up_good = same_refusal up_count t.bodies.functions up_records up_pair t up_known up_signed ∙ third_good

-- what comes out can be read, and its tables are those of edition 4
pub up_read : (s : List ℕ) → refusal_in 3 s ≡ 0 → (refusal (fourth s) ≡ 0) × (tables_in (fourth s) ≡ to_fourth (tables_in s))
unfolding fourth
up_read s h =
    let x : (edition s ≡ 3) × (refusal s ≡ 0) = edition_is 3 s refl h in
    file_readable (to_fourth (tables_in s)) (up_good (tables_in s) (good_file s x.1) x.0)

-- ---- down

-- what is asked of tables that go down
record InThird (t : Tables) : Type 0 where
  no_profile : some_below (function_count 4 t.bodies.functions) (profiled t.bodies.functions) ≡ false
  no_structure : ltb 0 (structure_count t.bodies.structures) ≡ false
  no_type : some_below (function_count 4 t.bodies.functions) (new_type t.bodies.functions) ≡ false
  no_opcode : some_below (length t.bodies.code) (new_opcode t.bodies.code) ≡ false

in_third : (t : Tables) → not_in_third t ≡ false → InThird t
unfolding not_in_third
in_third t h =
    let gs : List ℕ = t.bodies.functions in
    let n : ℕ = function_count 4 gs in
    let z : Bool = ltb 0 (structure_count t.bodies.structures) in
    let opcode : Bool = some_below (length t.bodies.code) (new_opcode t.bodies.code) in
    let a : _ × (opcode ≡ false) = or_neither _ opcode h in
    let b : _ × (some_below n (new_type gs) ≡ false) = or_neither _ (some_below n (new_type gs)) a.0 in
    let c : (some_below n (profiled gs) ≡ false) × (z ≡ false) = or_neither (some_below n (profiled gs)) z b.0 in
    record { no_profile = c.0; no_structure = c.1; no_type = b.1; no_opcode = a.1 }

module _ (t : Tables) (e : table_refusal t ≡ 0) (q : t.bodies.edition ≡ 4) (h : not_in_third t ≡ false) where
  -- how many functions there are, and their new records
  abbrev down_count : ℕ
  down_count = function_count 4 t.bodies.functions

  abbrev down_records : List ℕ
  down_records = lowered down_count t.bodies.functions

  no_structures : t ≡ fourth_of t t.bodies.functions
  no_structures = is_fourth t e q (ltb_isnt 0 (structure_count t.bodies.structures) (in_third t h).no_structure)

  down_pair : Paired down_count down_records t.bodies.functions
  down_pair =
      let gs : List ℕ = t.bodies.functions in
      let w : length gs % 24 ≡ 0 = rw q at (good_tables t e).whole_functions in
      lowered_pair down_count gs (omega arith)
      (λ i l. same_numbers (word 4 gs (function_at 4 i + 20)) 0 (none_below down_count (profiled gs) (in_third t h).no_profile i l))

  down_known : Known t.bodies.code
  down_known p l d d' =
      let code : List ℕ = t.bodies.code in
      and_not (eqb (due 4 code p) 0) (is_absent (opcode_at 3 code p)) (none_below (length code) (new_opcode code) (in_third t h).no_opcode p l) (rw d' refl)

  down_signed : Signed down_count t.bodies.functions
  down_signed i l = none_below down_count (new_type t.bodies.functions) (in_third t h).no_type i l

  -- the new tables are not refused
  down_good : table_refusal (to_third t) ≡ 0
  down_good =
      sym (same_refusal down_count down_records t.bodies.functions down_pair t down_known down_signed) ∙ sym (ap table_refusal no_structures) ∙ e

-- what comes out can be read, and its tables are those of edition 3
pub down_read : (s : List ℕ) → down_refusal s ≡ 0 → (refusal (third s) ≡ 0) × (tables_in (third s) ≡ to_third (tables_in s))
unfolding third
down_read s h =
    let d : (refusal_in 4 s ≡ 0) × (not_in_third (tables_in s) ≡ false) = may_go_down s h in
    let x : (edition s ≡ 4) × (refusal s ≡ 0) = edition_is 4 s refl d.0 in
    file_readable (to_third (tables_in s)) (down_good (tables_in s) (good_file s x.1) x.0 d.1)

-- ---- up then down

-- there is no opcode that it lacks
old_opcodes : (code : List ℕ) → Known code → (i : ℕ) → i < length code → new_opcode code i ≡ false
old_opcodes code known i l =
    decide (eqb (due 4 code i) 0)
    (λ y. let d : due 4 code i ≡ 0 = eqb_is (due 4 code i) 0 y in rw (y, known i l (sym (same_due code known i) ∙ d) d)) (λ y. rw y)

module _ (t : Tables) (e : table_refusal t ≡ 0) (q : t.bodies.edition ≡ 3) where
  -- what came up may go down
  nothing_new : not_in_third (to_fourth t) ≡ false
  unfolding not_in_third
  nothing_new =
      let n : ℕ = up_count t e q in
      let gs : List ℕ = up_records t e q in
      let p : Paired n t.bodies.functions gs = up_pair t e q in
      let c : function_count 4 gs ≡ n = (pair_counts n t.bodies.functions gs p).1 in
      rw (
        none_found (function_count 4 gs) (profiled gs) (λ i l. rw (pair_profile n t.bodies.functions gs p i (rw c at l)) refl),
        none_found (function_count 4 gs) (new_type gs) (λ i l. up_signed t e q i (rw c at l)),
        none_found (length t.bodies.code) (new_opcode t.bodies.code) (old_opcodes t.bodies.code (up_known t e q)),
      )

  -- and is what it was
  back_down : to_third (to_fourth t) ≡ t
  back_down =
      let n : ℕ = up_count t e q in
      let gs : List ℕ = up_records t e q in
      let p : Paired n t.bodies.functions gs = up_pair t e q in
      ap (third_of t) (ap (λ (k : ℕ). lowered k gs) (pair_counts n t.bodies.functions gs p).1 ∙ lowers n t.bodies.functions gs p) ∙ sym (is_third t e q)

-- "Up then down returns the same bytes"
pub up_down : (s : List ℕ) → AreBytes s → refusal_in 3 s ≡ 0 → (down_refusal (fourth s) ≡ 0) × (third (fourth s) ≡ s)
unfolding third
up_down s b h =
    let x : (edition s ≡ 3) × (refusal s ≡ 0) = edition_is 3 s refl h in
    let t : Tables = tables_in s in
    let e : table_refusal t ≡ 0 = good_file s x.1 in
    let u : (refusal (fourth s) ≡ 0) × (tables_in (fourth s) ≡ to_fourth t) = up_read s h in
    let four : edition (fourth s) ≡ 4 = ap (λ (y : Tables). y.bodies.edition) u.1 in (
      goes_down (fourth s) (is_edition 4 (fourth s) four u.0) (ap not_in_third u.1 ∙ nothing_new t e x.0),
      ap (λ (y : Tables). file_of (to_third y)) u.1 ∙ ap file_of (back_down t e x.0) ∙ file_back s b x.1,
    )

-- ---- down then up

-- what came down goes up to what it was
back_up : (t : Tables) → table_refusal t ≡ 0 → t.bodies.edition ≡ 4 → not_in_third t ≡ false → to_fourth (to_third t) ≡ t
back_up t e q h =
    let n : ℕ = down_count t e q h in
    let fs : List ℕ = down_records t e q h in
    let p : Paired n fs t.bodies.functions = down_pair t e q h in
    ap (fourth_of t) (ap (λ (k : ℕ). raised k fs) (pair_counts n fs t.bodies.functions p).0 ∙ raises n fs t.bodies.functions p) ∙ sym (no_structures t e q h)

-- "down then up too, wherever down is allowed"
pub down_up : (s : List ℕ) → AreBytes s → down_refusal s ≡ 0 → (refusal_in 3 (third s) ≡ 0) × (fourth (third s) ≡ s)
unfolding fourth
down_up s b h =
    let d : (refusal_in 4 s ≡ 0) × (not_in_third (tables_in s) ≡ false) = may_go_down s h in
    let x : (edition s ≡ 4) × (refusal s ≡ 0) = edition_is 4 s refl d.0 in
    let t : Tables = tables_in s in
    let u : (refusal (third s) ≡ 0) × (tables_in (third s) ≡ to_third t) = down_read s h in
    let three : edition (third s) ≡ 3 = ap (λ (y : Tables). y.bodies.edition) u.1 in (
      is_edition 3 (third s) three u.0,
      ap (λ (y : Tables). file_of (to_fourth y)) u.1 ∙ ap file_of (back_up t (good_file s x.1) x.0 d.1) ∙ file_back s b x.1,
    )
