-- "a module with the same edition, signatures, constant types, structures and other bodies, their labels the same by number and place within": of two
-- files that can be read, by their tables; and that this is what the update asks of the modules read from them.
use Rattle.std.specs.Prelude.{◌≡◌, ◌≢◌, true, ◌&&◌, List, [], ◌∷◌, ◌++◌, get_or, take, drop, leb, eqb}
use Rattle.std.proofs.Math.Path.{refl, sym, ap}
use Rattle.std.proofs.Common.{◌∙◌, subst, take_at}
use Prim.Native.Nat.{ℕ, zero, suc, ◌+◌, ◌-◌, ◌*◌, ◌≤◌, ◌<◌}
use native.Mathlib.Omega.{arith}
use Rattle.std.proofs.Math.Option.{Option, none, some}
use Rattle.std.proofs.Math.ListN.{length}
use Rattle.std.proofs.Math.Dec.{ltb}
use Rattle.soundness.specs.Names.{Slot, Instruction, CheckAnswer, Refused, Untyped, Accepted}
use Rattle.rules.specs.Bytes.{byte, number, word, within}
use Rattle.rules.specs.Instructions.{Ty, Opcode, absent, bare, wide, opcodes, opcode_of, instruction_of, size}
use Rattle.rules.specs.Tables.{Bodies, Tables, constant_count, function_count, structure_count, constant_of, function_of, structure_of, opcode_at, due_after, due_in, code_of, place_in, body_start, body_end, Body, entry, fn, eq_body, body_of, Function, module_of}
use Rattle.rules.specs.ModuleFile.{refusal, edition, functions, functions_in, labels, read, tables_in, bodies_in}
use Rattle.rules.specs.Writing.{table_refusal}
use Rattle.rules.specs.Machine.{owned}
use Rattle.rules.specs.Typing.{start_of}
use Rattle.rules.specs.Claims.{due_from}
use Rattle.soundness.specs.Tests.{decide, none_some, some_inj, eqb_same, leb_yes, ltb_is, ltb_yes, ltb_no, and_intro}
use Rattle.soundness.specs.Invariant.{owned_is}
use Rattle.soundness.specs.Readable.{Has, orderly, has_end, label_is, place_inside, cut_from, sized, Sized, place_is}
use Rattle.soundness.specs.Cutting.{good_file, function_count_lem, few_functions}
use Rattle.rules.specs.Check.{bodies, first_untyped}
use Rattle.rules.specs.Answers.{check_number, check_body_named, check}
use Rattle.rules.specs.Demand3.{Exists}
use Rattle.rules.specs.AnswerTypes.{RecordingAnswer}
use Rattle.rules.specs.AnswerTypes.{Unrecorded, RecordedUntyped, Recorded}
use Rattle.rules.specs.Recording.{index_of, record_of, record_length, recording_number, recording_body_named, Recording, recording, recording_with, check_recording, answer_from, recheck}
use Rattle.rules.specs.Rechecked.{SameCode, count_in, function_in, SameOutside, Faithful, Rechecks}
use Rattle.rechecks.specs.Same.{SameTables, SameBody}
use Rattle.rechecks.specs.Whole.{SameBut, Tells, record_faithful, full_answer, recheck_is}

-- the other way round
code_back : (t t' : Tables) (c : Body) → SameCode t t' c → SameCode t' t c
code_back t t' c S = record { long = S.long; ends = S.ends'; ends' = S.ends; bytes = λ j l. sym (S.bytes j l); labels = S.labels'; labels' = S.labels }

-- a body that there is, by its index
index_of_lem : (t : Tables) (c : Body) → Has t.bodies c → index_of c < suc (count_in t)
index_of_lem t entry h = omega arith
index_of_lem t (fn k) h = let l : k < count_in t = h in omega arith

-- ---- words by their bytes

number_next : (n : ℕ) (s : List ℕ) (i : ℕ) → number (take (suc n) (drop i s)) ≡ get_or s i 0 + 256 * number (take n (drop (suc i) s))
number_next zero [] zero = omega arith
number_next (suc n) [] zero = omega arith
number_next zero [] (suc i) = omega arith
number_next (suc n) [] (suc i) = omega arith
number_next n (x ∷ s) zero = refl
number_next n (x ∷ s) (suc i) = number_next n s i

same_word : (n : ℕ) (s s' : List ℕ) (i i' : ℕ) → ((j : ℕ) → j < n → byte s (i + j) ≡ byte s' (i' + j)) → word n s i ≡ word n s' i'
unfolding word
same_word zero s s' i i' h = refl
same_word (suc n) s s' i i' h =
    let a : get_or s i 0 ≡ get_or s' i' 0 = let z : i + 0 ≡ i = omega arith in let z' : i' + 0 ≡ i' = omega arith in ap (λ k. get_or s k 0) (sym z) ∙ h 0 (omega arith) ∙ ap (λ k. get_or s' k 0) z' in
    let b : number (take n (drop (suc i) s)) ≡ number (take n (drop (suc i') s')) =
    same_word n s s' (suc i) (suc i') (λ j l. let z : suc i + j ≡ i + suc j = omega arith in let z' : i' + suc j ≡ suc i' + j = omega arith in ap (λ k. get_or s k 0) z ∙ h (suc j) (omega arith) ∙ ap (λ k. get_or s' k 0) z') in
    number_next n s i ∙ (omega arith) ∙ sym (number_next n s' i')

-- ---- one body

is_place_lem : (B : Bodies) (b : Body) (p : ℕ) → body_start B b ≤ p → p ≤ body_end B b → due_in B p ≡ 0 → place_in B b p ≡ true
unfolding place_in
is_place_lem B b p h k d =
    and_intro (leb (body_start B b) p && leb p (body_end B b)) (eqb (due_in B p) 0)
    (and_intro (leb (body_start B b) p) (leb p (body_end B b)) (leb_yes (body_start B b) p h) (leb_yes p (body_end B b) k)) (rw d refl)

module _ (t t' : Tables) (e : table_refusal t ≡ 0) (e' : table_refusal t' ≡ 0) (c : Body) (has : Has t.bodies c) (has' : Has t'.bodies c) (same-edition : t.bodies.edition ≡ t'.bodies.edition)
    (ts : List Ty) (st : start_of (module_of t) c ≡ some (body_start t.bodies c, ts)) (st' : start_of (module_of t') c ≡ some (body_start t'.bodies c, ts)) (S : SameCode t t' c) where
  abbrev ed : ℕ
  ed = t.bodies.edition

  abbrev ed' : ℕ
  ed' = t'.bodies.edition

  same_opcode : (j : ℕ) → j < S.long → opcode_at ed t.bodies.code (body_start t.bodies c + j) ≡ opcode_at ed' t'.bodies.code (body_start t'.bodies c + j)
  same_opcode j l = ap (λ x. opcode_of (opcodes x) (byte t.bodies.code (body_start t.bodies c + j))) same-edition ∙ ap (opcode_of (opcodes ed')) (S.bytes j l)

  start_cut : due_in t.bodies (body_start t.bodies c) ≡ 0
  unfolding module_of
  start_cut = (place_is t e c (body_start t.bodies c) ((orderly t e).enters c (body_start t.bodies c, ts) st)).2

  start_cut' : due_in t'.bodies (body_start t'.bodies c) ≡ 0
  unfolding module_of
  start_cut' = (place_is t' e' c (body_start t'.bodies c) ((orderly t' e').enters c (body_start t'.bodies c, ts) st')).2

  same_from : (r : ℕ) → r ≤ S.long → due_from ed t.bodies.code (body_start t.bodies c) r ≡ due_from ed' t'.bodies.code (body_start t'.bodies c) r
  unfolding due_from
  same_from zero l = refl
  same_from (suc r) l =
      let z : due_from ed t.bodies.code (body_start t.bodies c) r ≡ due_from ed' t'.bodies.code (body_start t'.bodies c) r = same_from r (omega arith) in
      ap (λ d. due_after d (opcode_at ed t.bodies.code (body_start t.bodies c + r))) z ∙ ap (due_after (due_from ed' t'.bodies.code (body_start t'.bodies c) r)) (same_opcode r (omega arith))

  same_due : (r : ℕ) → r ≤ S.long → due_in t.bodies (body_start t.bodies c + r) ≡ due_in t'.bodies (body_start t'.bodies c + r)
  same_due r l = cut_from ed t.bodies.code (body_start t.bodies c) start_cut r ∙ same_from r l ∙ sym (cut_from ed' t'.bodies.code (body_start t'.bodies c) start_cut' r)

  place_within : (r : ℕ) → (module_of t).is_place c (body_start t.bodies c + r) ≡ true → r ≤ S.long
  place_within r i =
      let x = place_inside t e c (body_start t.bodies c + r) has i in
      let y : body_start t.bodies c + r ≤ body_end t.bodies c = x.1 in let z : body_end t.bodies c ≡ body_start t.bodies c + S.long = S.ends in omega arith

  same_places : (r : ℕ) → r ≤ S.long → (module_of t).is_place c (body_start t.bodies c + r) ≡ true → (module_of t').is_place c (body_start t'.bodies c + r) ≡ true
  unfolding module_of
  same_places r l i =
      let d : due_in t.bodies (body_start t.bodies c + r) ≡ 0 = (place_is t e c (body_start t.bodies c + r) i).2 in
      let z : body_end t'.bodies c ≡ body_start t'.bodies c + S.long = S.ends' in
      is_place_lem t'.bodies c (body_start t'.bodies c + r) (omega arith) (omega arith) (sym (same_due r l) ∙ d)

  -- an instruction lies in its body whole
  fits : (r : ℕ) → r < S.long → (module_of t).is_place c (body_start t.bodies c + r) ≡ true → (i : Instruction) → (module_of t).code (body_start t.bodies c + r) ≡ some i → r + size i ≤ S.long
  fits r l p i q =
      let x : (i : Instruction) × ((module_of t).code (body_start t.bodies c + r) ≡ some i) × ((module_of t).is_place c (body_start t.bodies c + r + size i) ≡ true) =
      (orderly t e).goes_on c (body_end t.bodies c) (body_start t.bodies c + r) (has_end t e c has) p (let z : body_end t.bodies c ≡ body_start t.bodies c + S.long = S.ends in omega arith) in
      let w : x.0 ≡ i = some_inj x.0 i (sym x.1 ∙ q) in
      let y : body_start t.bodies c + r + size x.0 ≡ body_start t.bodies c + (r + size x.0) = omega arith in
      subst (λ k. r + size k ≤ S.long) w (place_within (r + size x.0) (subst (λ k. (module_of t).is_place c k ≡ true) y x.2))

  same_code : (r : ℕ) → r < S.long → (module_of t).is_place c (body_start t.bodies c + r) ≡ true → (module_of t).code (body_start t.bodies c + r) ≡ (module_of t').code (body_start t'.bodies c + r)
  unfolding module_of code_of
  same_code r l p = go (opcode_at ed t.bodies.code (body_start t.bodies c + r)) refl
    where
      v : ℕ
      v = word 4 t.bodies.code (body_start t.bodies c + r + 1)

      v' : ℕ
      v' = word 4 t'.bodies.code (body_start t'.bodies c + r + 1)

      there : opcode_at ed' t'.bodies.code (body_start t'.bodies c + r) ≡ opcode_at ed t.bodies.code (body_start t.bodies c + r)
      there = sym (same_opcode r l)

      words : r + 5 ≤ S.long → word 4 t.bodies.code (body_start t.bodies c + r + 1) ≡ word 4 t'.bodies.code (body_start t'.bodies c + r + 1)
      words n = same_word 4 t.bodies.code t'.bodies.code (body_start t.bodies c + r + 1) (body_start t'.bodies c + r + 1)
          (λ j k. let z : body_start t.bodies c + r + 1 + j ≡ body_start t.bodies c + (r + 1 + j) = omega arith in
          let z' : body_start t'.bodies c + (r + 1 + j) ≡ body_start t'.bodies c + r + 1 + j = omega arith in
          ap (byte t.bodies.code) z ∙ S.bytes (r + 1 + j) (omega arith) ∙ ap (byte t'.bodies.code) z')

      go : (o : Opcode) → opcode_at ed t.bodies.code (body_start t.bodies c + r) ≡ o
          → instruction_of (opcode_at ed t.bodies.code (body_start t.bodies c + r)) (word 4 t.bodies.code (body_start t.bodies c + r + 1)) ≡ instruction_of (opcode_at ed' t'.bodies.code (body_start t'.bodies c + r)) (word 4 t'.bodies.code (body_start t'.bodies c + r + 1))
      go absent q = ap (λ o. instruction_of o v) q ∙ sym (ap (λ o. instruction_of o v') (there ∙ q))
      go (bare i) q = ap (λ o. instruction_of o v) q ∙ sym (ap (λ o. instruction_of o v') (there ∙ q))
      go (wide g) q =
          let si : size (g v) ≡ 5 = subst Sized q (sized ed (byte t.bodies.code (body_start t.bodies c + r))) v in
          let n : r + size (g v) ≤ S.long = fits r l p (g v) (ap (λ o. instruction_of o v) q) in
          ap (λ o. instruction_of o v) q ∙ ap (λ w. some (g w)) (words (omega arith)) ∙ sym (ap (λ o. instruction_of o v') (there ∙ q))

  same_labels : (l q : ℕ) → owned c ((module_of t).label l) ≡ some q → (r : ℕ) × (q ≡ body_start t.bodies c + r) × (owned c ((module_of t').label l) ≡ some (body_start t'.bodies c + r))
  same_labels l q o =
      let a : (module_of t).label l ≡ some (c, q) = owned_is c ((module_of t).label l) q o in
      let x = label_is t e l c q a in
      let y : body_start t.bodies c ≤ q = x.1.1 in
      let z : q ≡ body_start t.bodies c + (q - body_start t.bodies c) = omega arith in
      let b : (module_of t').label l ≡ some (c, body_start t'.bodies c + (q - body_start t.bodies c)) = S.labels l (q - body_start t.bodies c) (subst (λ k. (module_of t).label l ≡ some (c, k)) z a) in
      (q - body_start t.bodies c, z, ap (owned c) b ∙ rw (own_body c) refl)
    where
      own_body : (b : Body) → eq_body b b ≡ true
      own_body entry = refl
      own_body (fn k) = eqb_same k

  extent' : body_start t'.bodies c + S.long ≤ (module_of t').extent
  unfolding module_of
  extent' =
      let x = place_inside t' e' c (body_start t'.bodies c) has' ((orderly t' e').enters c (body_start t'.bodies c, ts) st') in
      let y : body_end t'.bodies c ≤ length t'.bodies.code = x.2 in let z : body_end t'.bodies c ≡ body_start t'.bodies c + S.long = S.ends' in omega arith

  pub same_body : SameBody (module_of t) (module_of t') c
  same_body =
      record {
        from = body_start t.bodies c;
        onto = body_start t'.bodies c;
        long = S.long;
        params = ts;
        starts = st;
        starts' = st';
        ends = has_end t e c has ∙ ap some S.ends;
        ends' = has_end t' e' c has' ∙ ap some S.ends';
        code = same_code;
        places = same_places;
        within = place_within;
        extent = extent';
        labels = same_labels;
      }

-- ---- tables

function_there : (t : Tables) (k : ℕ) → k < count_in t → (module_of t).function k ≡ some (function_in t k)
unfolding module_of
function_there t k l = rw (ltb_yes k (count_in t) l)

function_is : (t : Tables) (k : ℕ) (F : Function) → (module_of t).function k ≡ some F → (k < count_in t) × (function_in t k ≡ F)
unfolding module_of
function_is t k F q = decide (ltb k (count_in t)) (λ y. (ltb_is k (count_in t) y, some_inj (function_in t k) F (rw y at q))) (λ y. none_some (rw y at q))

-- the parameters of a body
params_of : Tables → Body → List Ty
params_of t entry = []
params_of t (fn k) = (function_in t k).params

start_of_lem : (t : Tables) (c : Body) → Has t.bodies c → start_of (module_of t) c ≡ some (body_start t.bodies c, params_of t c)
unfolding params_of function_of
start_of_lem t entry h = refl
start_of_lem t (fn k) h = rw (function_there t k h) refl

module _ (t t' : Tables) (e : table_refusal t ≡ 0) (e' : table_refusal t' ≡ 0) (b : Body) (S : SameOutside t t' b) where
  same_tables : SameTables (module_of t) (module_of t')
  unfolding module_of constant_of
  same_tables =
      record {
        editions = S.editions;
        structures = λ k. ap (λ zs. within (leb 10 k && ltb k (10 + structure_count zs)) (structure_of zs (k - 10))) S.structures;
        constants = λ k c q. decide (ltb k (constant_count t.constants))
            (λ y. let l : k < constant_count t.constants = ltb_is k (constant_count t.constants) y in
            let w : constant_of t.constants k ≡ c = some_inj (constant_of t.constants k) c (rw y at q) in
            let n : constant_count t.constants ≡ constant_count t'.constants = S.constant_count_lem in
            (constant_of t'.constants k, rw (ltb_yes k (constant_count t'.constants) (subst (λ x. k < x) n l)) refl, sym (S.constant_types k l) ∙ ap (λ (v : Slot). v.kind) w))
            (λ y. none_some (rw y at q));
        functions = λ k F q.
            let x : (k < count_in t) × (function_in t k ≡ F) = function_is t k F q in
            let l : k < count_in t = x.0 in
            (function_in t' k, function_there t' k (subst (λ n. k < n) S.function_count_lem l), sym (S.parameters k l) ∙ ap (λ (G : Function). G.params) x.1, sym (S.results k l) ∙ ap (λ (G : Function). G.result) x.1);
      }

  same_params : (c : Body) → Has t.bodies c → params_of t c ≡ params_of t' c
  unfolding params_of
  same_params entry h = refl
  same_params (fn k) h = S.parameters k h

  exists' : (c : Body) → Has t.bodies c → Has t'.bodies c
  exists' entry h = tt
  exists' (fn k) h = subst (λ n. k < n) S.function_count_lem h

  same_bodies : (c : Body) → Has t.bodies c → c ≢ b → SameBody (module_of t) (module_of t') c
  same_bodies c h d =
      same_body t t' e e' c h (exists' c h) S.editions (params_of t c) (start_of_lem t c h)
      (start_of_lem t' c (exists' c h) ∙ ap (λ ts. some (body_start t'.bodies c, ts)) (sym (same_params c h))) (S.others c (index_of_lem t c h) d)

-- the other way round
outside_back : (t t' : Tables) (b : Body) → SameOutside t t' b → SameOutside t' t b
outside_back t t' b S =
    record {
      editions = sym S.editions;
      constant_count_lem = sym S.constant_count_lem;
      constant_types = λ k l. sym (S.constant_types k (subst (λ n. k < n) (sym S.constant_count_lem) l));
      structures = sym S.structures;
      function_count_lem = sym S.function_count_lem;
      parameters = λ k l. sym (S.parameters k (subst (λ n. k < n) (sym S.function_count_lem) l));
      results = λ k l. sym (S.results k (subst (λ n. k < n) (sym S.function_count_lem) l));
      others = λ c h d. code_back t t' c (S.others c (subst (λ n. index_of c < suc n) (sym S.function_count_lem) h) d);
    }

by_index : (n : ℕ) (t : Tables) → count_in t ≡ n → (c : Body) → index_of c < suc n → Has t.bodies c
by_index n t q entry l = tt
by_index n t q (fn k) l = let w : k < n = omega arith in subst (λ x. k < x) (sym q) w

pub same_but : (t t' : Tables) → table_refusal t ≡ 0 → table_refusal t' ≡ 0 → (b : Body) → SameOutside t t' b → SameBut (module_of t) (module_of t') (count_in t) b
same_but t t' e e' b S =
    record {
      tables = same_tables t t' e e' b S;
      tables' = same_tables t' t e' e b (outside_back t t' b S);
      others = λ c l d. same_bodies t t' e e' b S c (by_index (count_in t) t refl c l) (λ z. d (ap index_of z));
      others' = λ c l d. same_bodies t' t e' e b (outside_back t t' b S) c (by_index (count_in t) t' (sym S.function_count_lem) c l) (λ z. d (ap index_of z));
    }

-- ---- files

tells : (s r : List ℕ) → Faithful s r → Tells (read s) (functions s) r
tells s r F = record { count = F.count; offset = F.offset; long = F.long; flags = F.flags }

faithful : (s r : List ℕ) → Tells (read s) (functions s) r → Faithful s r
faithful s r F = record { count = F.count; offset = F.offset; long = F.long; flags = F.flags }

there_is : (s : List ℕ) → refusal s ≡ 0 → (b : Body) → Exists s b → Has (bodies_in s) b
there_is s e entry h = tt
there_is s e (fn k) h = subst (λ n. k < n) (sym (function_count_lem s e)) h

index_in : (s : List ℕ) (b : Body) → Exists s b → index_of b < suc (functions s)
index_in s entry h = omega arith
index_in s (fn k) h = let l : k < functions s = h in omega arith

-- from bytes to answers
recheck_files : (s s' r : List ℕ) (f : ℕ) → refusal s ≡ 0 → refusal s' ≡ 0 → Exists s' (body_of f) → SameOutside (tables_in s) (tables_in s') (body_of f) → Faithful s r
    → ((room : List ℕ) → 64 * labels s' ≤ length room → (recheck s' r f).answer ≡ (check s' room).answer) × Faithful s' (recheck s' r f).beside
recheck_files s s' r f e e' h S F =
    let n : functions s ≡ functions s' = sym (function_count_lem s e) ∙ S.function_count_lem ∙ function_count_lem s' e' in
    let x = recheck_is s s' r f e' _ (start_of_lem (tables_in s') (body_of f) (there_is s' e' (body_of f) h)) (sym n) (subst (λ k. index_of (body_of f) < suc k) (sym n) (index_in s' (body_of f) h))
    (subst (λ k. SameBut (read s) (read s') k (body_of f)) (function_count_lem s e) (same_but (tables_in s) (tables_in s') (good_file s e) (good_file s' e') (body_of f) S)) (tells s r F) in
    (x.0, faithful s' (recheck s' r f).beside x.1)

-- what the check answers, with a record of n functions beside it
abbrev pub recorded_as : ℕ → CheckAnswer → RecordingAnswer
recorded_as n (Refused e) = Unrecorded e
recorded_as n (Untyped b) = RecordedUntyped b
recorded_as n Accepted = Recorded (record_length n)

pub recording_writes : (s room r : List ℕ) → refusal s ≡ 0 → 64 * labels s ≤ length room → record_length (functions s) ≤ length r
    → check_recording s room r ≡ recording (recorded_as (functions s) (check s room).answer) (check s room).room (record_of (read s) (functions s) ++ drop (record_length (functions s)) r)
unfolding check_recording
recording_writes s room r e l n =
    ap (recording_with s room r) (full_answer s room e l) ∙ go (first_untyped (read s) (bodies (functions s)))
    ∙ ap (λ a. recording (recorded_as (functions s) a) (check s room).room after) (sym (full_answer s room e l))
  where
    after : List ℕ
    after = record_of (read s) (functions s) ++ drop (record_length (functions s)) r

    go : (o : Option Body) → recording_with s room r (answer_from o) ≡ recording (recorded_as (functions s) (answer_from o)) (check s room).room after
    go none = rw (ltb_no (length r) (record_length (functions s)) n)
    go (some b) = rw (ltb_no (length r) (record_length (functions s)) n)

record_tells : (s : List ℕ) → refusal s ≡ 0 → Tells (read s) (functions s) (record_of (read s) (functions s))
record_tells s e =
    record_faithful (read s) (functions s)
    (let w : function_count (edition s) (functions_in s) ≤ 128 = few_functions s e in let z : functions s ≤ 128 = subst (λ k. k ≤ 128) (function_count_lem s e) w in omega arith)

number_same : (n : ℕ) (a : CheckAnswer) → recording_number (recorded_as n a) ≡ check_number a
number_same n (Refused e) = refl
number_same n (Untyped b) = refl
number_same n Accepted = refl

body_same : (n : ℕ) (a : CheckAnswer) → recording_body_named (recorded_as n a) ≡ check_body_named a
body_same n (Refused e) = refl
body_same n (Untyped b) = refl
body_same n Accepted = refl

-- 02, A10
pub rechecks : Rechecks
rechecks = record { recorded = recorded_so; updates = recheck_files }
  where
    recorded_so : (s room r : List ℕ) → refusal s ≡ 0 → 64 * labels s ≤ length room → record_length (functions s) ≤ length r
        → (recording_number (check_recording s room r).answer ≡ check_number (check s room).answer)
        × (recording_body_named (check_recording s room r).answer ≡ check_body_named (check s room).answer)
        × ((check_recording s room r).room ≡ (check s room).room)
        × Faithful s (take (record_length (functions s)) (check_recording s room r).beside)
    recorded_so s room r e l n =
        let w = recording_writes s room r e l n in
        let front : take (record_length (functions s)) (record_of (read s) (functions s) ++ drop (record_length (functions s)) r) ≡ record_of (read s) (functions s) =
        take_at (record_of (read s) (functions s)) (drop (record_length (functions s)) r) (record_length (functions s)) (record_tells s e).long in (
          ap (λ (x : Recording). recording_number x.answer) w ∙ number_same (functions s) (check s room).answer,
          ap (λ (x : Recording). recording_body_named x.answer) w ∙ body_same (functions s) (check s room).answer,
          ap (λ (x : Recording). x.room) w,
          subst (Faithful s) (sym (ap (λ (x : Recording). take (record_length (functions s)) x.beside) w ∙ front)) (faithful s (record_of (read s) (functions s)) (record_tells s e)),
        )
