-- The bytes of a record, set one by one; a body judged with marks of its own; the two calls' answers.
use Prim.Native.Nat.{ℕ, zero, suc, ◌+◌, ◌-◌, ◌*◌, ◌≤◌, ◌<◌}
use mathlib.Core.Path.{◌≡◌, refl, ap, ◌∙◌, sym, subst}
use native.Mathlib.Omega.{arith}
use mathlib.Core.Bool.{Bool, true, false}
use mathlib.Core.Option.{Option, none, some}
use mathlib.Core.List.{List, [], ◌∷◌, ◌++◌}
use lib.ListN.{length, get_or, set, drop, replicate, length-append, length-set, length-replicate}
use lib.Seq.{paste, paste-zero, paste-suc}
use lib.Dec.{ltb, eqb}
use Rattle.std.proofs.lemmas.List.{get_or-replicate}
use Rattle.rules.specs.Bytes.{bytes, written}
use Rattle.rules.specs.Instructions.{Ty}
use Rattle.rules.specs.Tables.{Body, entry, fn, body_of, function_count, Module, module_of}
use Rattle.rules.specs.ModuleFile.{edition, functions_in, refusal, functions, labels, read, bodies_in}
use Rattle.rules.specs.Typing.{WellTyped, start_of}
use Rattle.rules.specs.Check.{check_body, bodies, functions_from, first_untyped}
use Rattle.rules.specs.AnswerTypes.{CheckAnswer}
use Rattle.rules.specs.AnswerTypes.{Refused, Untyped, Accepted}
use Rattle.rules.specs.Answers.{Checked, check}
use Rattle.format.specs.declared.Sections.{Sections}
use Rattle.format.specs.Layout.{Packed}
use Rattle.std.specs.Prelude.{Err}
use Rattle.rules.specs.declared.Refusal.{Refusal}
use Rattle.rules.specs.declared.CheckError.{CheckError}
use Rattle.rules.specs.Results.{refusal_number, check_answer, recording_answer}
use Rattle.reader.specs.Answers.{Opens}
use Rattle.reader.proofs.Opening.{refusal_some}
use Rattle.soundness.specs.Tests.{decide, eqb_is, eqb_isnt, ltb_is, ltb_isnt, ltb_yes, ltb_no, false_true}
use Rattle.soundness.specs.Readable.{Has}
use Rattle.soundness.specs.Cutting.{function_count_lem}
use Rattle.nodes.specs.Nodes.{Tabled, mark_of, count_of, done_of, unseen}
use Rattle.nodes.proofs.Lists.{unseen_most}
use Rattle.checker.specs.Work.{Working, Left, Settled, CheckIs}
use Rattle.checker.proofs.Covering.{typed, untyped}
use Rattle.checker.proofs.Verdicts.{exactly}
use Rattle.rules.specs.AnswerTypes.{Unrecorded, RecordedUntyped, Recorded}
use Rattle.rules.specs.Recording.{flag, flag_of, flags_of, record_of, record_length, index_of, record_differs, first_zero, recording, recording_with, check_recording, updated, answer_from, rechecked, recheck}
use Rattle.rechecks.specs.Whole.{typable_flag, full_answer}
use Rattle.rechecks.specs.Files.{recorded_as, recording_writes}
use Rattle.beside.specs.Bodies.{body_at, bit, headed}
use Rattle.beside.proofs.Laws.{other_length}
use Rattle.rechecker.specs.Flags.{flagged, Lends, Ready, Recordable, Judges, Flags, RecordingIs, RecheckIs}

-- ---- one body

module _ (s : List ℕ) (c : Sections) (table room marks : List ℕ) (R : Ready s c table room) (i : ℕ) (few : i ≤ c.functions) (whole : length marks ≡ 514) where
  has_body : Has (bodies_in s) (body_at i)
  has_body = go i few
    where
      go : (i : ℕ) → i ≤ c.functions → Has (bodies_in s) (body_at i)
      go zero h = tt
      go (suc k) h = let f : c.functions ≡ functions s = R.packed.functions_is in let n : function_count (edition s) (functions_in s) ≡ functions s = function_count_lem s R.readable in
          subst (λ x. k < x) (sym n) (let w : k < functions s = omega arith in w)

  -- with no mark, any body may be checked
  pub fresh_works : (owner : ℕ) → body_of owner ≡ body_at i → ((k : ℕ) → get_or marks k 0 ≡ 0) → Working s c table owner room marks
  fresh_works owner q h =
      record {
        packed = R.packed;
        readable = R.readable;
        tabled = R.tabled;
        has = subst (Has (bodies_in s)) (sym q) has_body;
        fits = let e : c.labels ≡ labels s = R.packed.labels_is in
            let f : c.labels ≤ 256 = R.packed.few_labels in
            let g : 64 * c.labels ≤ length room = R.enough in record { room_for = omega arith; few = omega arith; whole = whole };
        sound = let z : count_of marks ≡ 0 = h 512 in
            let d : done_of marks ≡ 0 = h 513 in
            record {
              holds = λ k l m. let y : mark_of marks k ≡ 0 = h k in absurd (omega arith);
              forced = λ k l m. let y : mark_of marks k ≡ 0 = h k in absurd (omega arith);
              listed = λ k l m. let y : mark_of marks k ≡ 0 = h k in absurd (omega arith);
              each = λ i l. absurd (omega arith);
              walked = λ i l. absurd (omega arith);
              mine = λ i m l. absurd (omega arith);
              behind = omega arith;
              few = let u : unseen marks (labels s) ≤ labels s = unseen_most marks (labels s) in omega arith;
            };
      }

  pub judged : (owner : ℕ) → body_of owner ≡ body_at i → (room' marks' : List ℕ) (r : Bool) → Left s table (body_of owner) room marks room' marks' r (Settled s table room' marks' (body_of owner)) → Judges s i r
  unfolding flag_of
  judged owner q room' marks' r x = go r x
    where
      go : (r : Bool) → Left s table (body_of owner) room marks room' marks' r (Settled s table room' marks' (body_of owner)) → bit r ≡ flag (check_body (read s) (body_at i))
      go true x =
          let y = typed s table R.readable R.tabled room' marks' (body_of owner) x.sound (x.done refl).1 (body_of owner) (subst (Has (bodies_in s)) (sym q) has_body) (x.done refl).0 in
          let z : check_body (read s) (body_at i) ≡ some y.0 = ap (check_body (read s)) (sym q) ∙ y.1 in ap flag (sym z)
      go false x = let z : check_body (read s) (body_at i) ≡ none = ap (check_body (read s)) (sym q) ∙ untyped s (body_of owner) (x.refuted refl) in ap flag (sym z)

-- ---- bytes

module _ (m : Module) (r : List ℕ) (a : ℕ) where
  pub flagged_none : (i : ℕ) → i ≡ a → r ≡ flagged m r a (i - a)
  unfolding flagged
  flagged_none i z = let y : i - a ≡ 0 = omega arith in ap (flagged m r a) (sym y)

  pub flagged_more : (i v : ℕ) (x : List ℕ) → a ≤ i → x ≡ flagged m r a (i - a) → v ≡ flag_of m (body_at i) → set x (8 + i) v ≡ flagged m r a (i + 1 - a)
  unfolding flagged
  flagged_more i v x h e f =
      let z : i + 1 - a ≡ suc (i - a) = omega arith in
      let y : a + (i - a) ≡ i = omega arith in
      ap (λ w. set w (8 + i) v) e ∙ ap (set (flagged m r a (i - a)) (8 + i)) f ∙ ap (λ k. set (flagged m r a (i - a)) (8 + k) (flag_of m (body_at k))) (sym y) ∙ ap (flagged m r a) (sym z)

  pub flags_end : (i z : ℕ) (x : List ℕ) → x ≡ flagged m r a (i - a) → i ≡ z → x ≡ flagged m r a (z - a)
  flags_end i z x e q = e ∙ ap (λ k. flagged m r a (k - a)) q

  pub flagged_length : (n : ℕ) → length (flagged m r a n) ≡ length r
  unfolding flagged
  flagged_length zero = refl
  flagged_length (suc n) = length-set (flagged m r a n) (8 + (a + n)) (flag_of m (body_at (a + n))) ∙ flagged_length n

-- all of them are 1 where every body has a typing
module _ (m : Module) (r : List ℕ) (n : ℕ) (long : 8 + n ≤ length r) (h : (i : ℕ) → i < n → flag_of m (body_at i) ≡ 1) where
  ones_front : (i : ℕ) → i ≤ n → paste r 8 (replicate n 1) i ≡ flagged m r 0 i
  unfolding flagged
  ones_front zero l = sym (paste-zero r 8 (replicate n 1))
  ones_front (suc i) l =
      let e : length (replicate {A = ℕ} n 1) ≡ n = length-replicate n 1 in
      let z : 0 + i ≡ i = omega arith in
      sym (paste-suc r 8 (replicate n 1) i 0 (omega arith) (omega arith))
      ∙ ap (set (paste r 8 (replicate n 1) i) (8 + i)) (get_or-replicate n i 1 0 (omega arith) ∙ sym (h i (omega arith)))
      ∙ ap (λ w. set w (8 + i) (flag_of m (body_at i))) (ones_front i (omega arith))
      ∙ ap (λ k. set (flagged m r 0 i) (8 + k) (flag_of m (body_at k))) (sym z)

  pub ones_flags : paste r 8 (replicate n 1) n ≡ flagged m r 0 n
  ones_flags = ones_front n (omega arith)

-- the flags of the first n bodies
front : Module → ℕ → List ℕ
front m zero = []
front m (suc n) = front m n ++ (flag_of m (body_at n) ∷ [])

front_length : (m : Module) (n : ℕ) → length (front m n) ≡ n
unfolding front
front_length m zero = refl
front_length m (suc n) = length-append (front m n) (flag_of m (body_at n) ∷ []) ∙ (let z : length (front m n) ≡ n = front_length m n in omega arith)

append_assoc : (xs ys zs : List ℕ) → (xs ++ ys) ++ zs ≡ xs ++ (ys ++ zs)
append_assoc [] ys zs = refl
append_assoc (x ∷ xs) ys zs = ap {B = List ℕ} (λ w. x ∷ w) (append_assoc xs ys zs)

functions_snoc : (m : Module) (n k : ℕ) → flags_of m (functions_from (suc n) k) ≡ flags_of m (functions_from n k) ++ (flag_of m (fn (k + n)) ∷ [])
functions_snoc m zero k = let z : k ≡ k + 0 = omega arith in ap {B = List ℕ} (λ j. flag_of m (fn j) ∷ []) z
functions_snoc m (suc n) k =
    let z : suc k + n ≡ k + suc n = omega arith in
    ap {B = List ℕ} (λ w. flag_of m (fn k) ∷ w) (functions_snoc m n (suc k) ∙ ap {B = List ℕ} (λ j. flags_of m (functions_from n (suc k)) ++ (flag_of m (fn j) ∷ [])) z)

front_bodies : (m : Module) (n : ℕ) → front m (suc n) ≡ flags_of m (bodies n)
unfolding front
front_bodies m zero = refl
front_bodies m (suc n) =
    let z : 0 + n ≡ n = omega arith in
    ap (λ w. w ++ (flag_of m (fn n) ∷ [])) (front_bodies m n)
    ∙ ap {B = List ℕ} (λ w. flag_of m entry ∷ w) (ap {B = List ℕ} (λ j. flags_of m (functions_from n 0) ++ (flag_of m (fn j) ∷ [])) (sym z) ∙ sym (functions_snoc m n 0))

set_there : (xs ys : List ℕ) (y v i : ℕ) → i ≡ length xs → set (xs ++ (y ∷ ys)) i v ≡ xs ++ (v ∷ ys)
set_there [] ys y v i e = rw e refl
set_there (x ∷ xs) ys y v zero e = absurd (omega arith)
set_there (x ∷ xs) ys y v (suc i) e = ap {B = List ℕ} (λ w. x ∷ w) (set_there xs ys y v i (omega arith))

drop_one : (r : List ℕ) (k : ℕ) → k < length r → drop k r ≡ get_or r k 0 ∷ drop (suc k) r
drop_one [] k h = absurd (omega arith)
drop_one (x ∷ r) zero h = refl
drop_one (x ∷ r) (suc k) h = drop_one r k (omega arith)

-- a head of eight bytes, the flags of n bodies, and what follows
flagged_is : (m : Module) (h r : List ℕ) → length h ≡ 8 → (n : ℕ) → n ≤ length r → flagged m (h ++ r) 0 n ≡ h ++ (front m n ++ drop n r)
unfolding flagged front
flagged_is m h r e zero l = refl
flagged_is m h r e (suc n) l =
    let z : 0 + n ≡ n = omega arith in
    let v : ℕ = flag_of m (body_at n) in
    let y : length (h ++ front m n) ≡ 8 + n = length-append h (front m n) ∙ (let w : length (front m n) ≡ n = front_length m n in omega arith) in
    ap (λ k. set (flagged m (h ++ r) 0 n) (8 + k) (flag_of m (body_at k))) z ∙ ap (λ w. set w (8 + n) v) (flagged_is m h r e n (omega arith) ∙ ap (λ w. h ++ (front m n ++ w)) (drop_one r n (omega arith)) ∙ sym (append_assoc h (front m n) (get_or r n 0 ∷ drop (suc n) r)))
    ∙ set_there (h ++ front m n) (drop (suc n) r) (get_or r n 0) v (8 + n) (sym y) ∙ append_assoc h (front m n) (v ∷ drop (suc n) r)
    ∙ ap (λ w. h ++ w) (sym (append_assoc (front m n) (v ∷ []) (drop (suc n) r)))

headed_is : (r : List ℕ) (n : ℕ) → 8 ≤ length r → headed r n ≡ (bytes 4 n ++ bytes 4 8) ++ drop 8 r
unfolding written
headed_is (a ∷ b ∷ c ∷ d ∷ e ∷ f ∷ g ∷ h ∷ r) n l = refl
headed_is [] n l = absurd (omega arith)
headed_is (a ∷ []) n l = absurd (omega arith)
headed_is (a ∷ b ∷ []) n l = absurd (omega arith)
headed_is (a ∷ b ∷ c ∷ []) n l = absurd (omega arith)
headed_is (a ∷ b ∷ c ∷ d ∷ []) n l = absurd (omega arith)
headed_is (a ∷ b ∷ c ∷ d ∷ e ∷ []) n l = absurd (omega arith)
headed_is (a ∷ b ∷ c ∷ d ∷ e ∷ f ∷ []) n l = absurd (omega arith)
headed_is (a ∷ b ∷ c ∷ d ∷ e ∷ f ∷ g ∷ []) n l = absurd (omega arith)

pub headed_length : (r : List ℕ) (n : ℕ) → 8 ≤ length r → length (headed r n) ≡ length r
headed_length r n h = ap length (headed_is r n h) ∙ go r h
  where
    go : (r : List ℕ) → 8 ≤ length r → length ((bytes 4 n ++ bytes 4 8) ++ drop 8 r) ≡ length r
    go (a ∷ b ∷ c ∷ d ∷ e ∷ f ∷ g ∷ h ∷ r) l = refl
    go [] l = absurd (omega arith)
    go (a ∷ []) l = absurd (omega arith)
    go (a ∷ b ∷ []) l = absurd (omega arith)
    go (a ∷ b ∷ c ∷ []) l = absurd (omega arith)
    go (a ∷ b ∷ c ∷ d ∷ []) l = absurd (omega arith)
    go (a ∷ b ∷ c ∷ d ∷ e ∷ []) l = absurd (omega arith)
    go (a ∷ b ∷ c ∷ d ∷ e ∷ f ∷ []) l = absurd (omega arith)
    go (a ∷ b ∷ c ∷ d ∷ e ∷ f ∷ g ∷ []) l = absurd (omega arith)

drop_none : (k : ℕ) → drop {A = ℕ} k [] ≡ []
drop_none zero = refl
drop_none (suc k) = refl

drop_drop : (r : List ℕ) (i j : ℕ) → drop i (drop j r) ≡ drop (j + i) r
drop_drop [] i j = ap (drop i) (drop_none j) ∙ drop_none i ∙ sym (drop_none (j + i))
drop_drop (x ∷ r) i zero = let z : 0 + i ≡ i = omega arith in ap (λ k. drop k (x ∷ r)) (sym z)
drop_drop (x ∷ r) i (suc j) = let z : suc j + i ≡ suc (j + i) = omega arith in drop_drop r i j ∙ ap (λ k. drop k (x ∷ r)) (sym z)

length_drop8 : (r : List ℕ) (i k : ℕ) → i + k ≤ length r → k ≤ length (drop i r)
length_drop8 r zero k h = omega arith
length_drop8 [] (suc i) k h = omega arith
length_drop8 (x ∷ r) (suc i) k h = length_drop8 r i k (omega arith)

-- the whole record
pub whole_record : (m : Module) (n : ℕ) (r : List ℕ) → record_length n ≤ length r → flagged m (headed r (suc n)) 0 (suc n) ≡ record_of m n ++ drop (record_length n) r
unfolding record_of
whole_record m n r l =
    ap (λ w. flagged m w 0 (suc n)) (headed_is r (suc n) (omega arith))
    ∙ flagged_is m (bytes 4 (suc n) ++ bytes 4 8) (drop 8 r) refl (suc n) (length_drop8 r 8 (suc n) l)
    ∙ ap (λ w. (bytes 4 (suc n) ++ bytes 4 8) ++ (w ++ drop (suc n) (drop 8 r))) (front_bodies m n)
    ∙ ap (λ w. (bytes 4 (suc n) ++ bytes 4 8) ++ (flags_of m (bodies n) ++ w)) (drop_drop r (suc n) 8)
    ∙ sym (append_assoc (bytes 4 (suc n) ++ bytes 4 8) (flags_of m (bodies n)) (drop (8 + suc n) r))
    ∙ ap (λ w. w ++ drop (8 + suc n) r) (append_assoc (bytes 4 (suc n)) (bytes 4 8) (flags_of m (bodies n)))

-- ---- the wrappers

pub still_ready : (s : List ℕ) (c : Sections) (table room room' : List ℕ) → Ready s c table room → length room' ≡ length room → Ready s c table room'
still_ready s c table room room' R e =
    record { packed = R.packed; readable = R.readable; tabled = R.tabled; enough = let h : 64 * c.labels ≤ length room = R.enough in omega arith }

pub ready : (s : List ℕ) (c : Sections) (a z : ℕ) (r table room : List ℕ) → Lends s c a z r → Tabled s table → 64 * c.labels ≤ length room → Ready s c table room
ready s c a z r table room L t h = record { packed = L.packed; readable = L.readable; tabled = t; enough = h }

-- a room of zeros
pub ready_new : (s : List ℕ) (c : Sections) (a z : ℕ) (r table : List ℕ) (n : ℕ) → Lends s c a z r → Tabled s table → 64 * c.labels ≤ n → Ready s c table (replicate n 0)
ready_new s c a z r table n L t h = ready s c a z r table (replicate n 0) L t (let e : length (replicate {A = ℕ} n 0) ≡ n = length-replicate n 0 in omega arith)

-- ---- the check of one body

body_back : (b : Body) → body_at (index_of b) ≡ b
body_back entry = refl
body_back (fn k) = refl

module _ (s : List ℕ) (e : refusal s ≡ 0) where
  no_function : (k : ℕ) → functions s ≤ k → start_of (read s) (fn k) ≡ none
  unfolding module_of
  no_function k h =
      let n : function_count (edition s) (functions_in s) ≡ functions s = function_count_lem s e in
      rw (ltb_no k (function_count (edition s) (functions_in s)) (let w : function_count (edition s) (functions_in s) ≤ k = omega arith in w)) refl

  some_function : (k : ℕ) → k < functions s → (x : ℕ × List Ty) × (start_of (read s) (fn k) ≡ some x)
  unfolding module_of
  some_function k h =
      let n : function_count (edition s) (functions_in s) ≡ functions s = function_count_lem s e in
      rw (ltb_yes k (function_count (edition s) (functions_in s)) (let w : k < function_count (edition s) (functions_in s) = omega arith in w)) (_, refl)

  no_start : (b : Body) → functions s + 1 ≤ index_of b → start_of (read s) b ≡ none
  no_start entry h = absurd (omega arith)
  no_start (fn k) h = no_function k (omega arith)

  some_start : (b : Body) → index_of b < functions s + 1 → (x : ℕ × List Ty) × (start_of (read s) b ≡ some x)
  some_start entry h = ((0, []), refl)
  some_start (fn k) h = some_function k (omega arith)

  module _ (c : Sections) (p : Packed s c) (f : ℕ) (r : List ℕ) where
    pub recheck_missing : (i : ℕ) → i ≡ index_of (body_of f) → c.functions + 1 ≤ i → RecheckIs s f r (Refused 12) r
    unfolding recheck
    recheck_missing i q h = let n : c.functions ≡ functions s = p.functions_is in rw (e, no_start (body_of f) (omega arith)) refl

    pub recheck_bad : (i : ℕ) → i ≡ index_of (body_of f) → (c.functions + 1 ≤ i → ⊥) → true ≡ record_differs (c.functions + 1 - 1) r → RecheckIs s f r (Refused 45) r
    unfolding recheck
    recheck_bad i q h bad =
        let n : c.functions ≡ functions s = p.functions_is in
        let l : index_of (body_of f) < functions s + 1 = decide (ltb (index_of (body_of f)) (functions s + 1)) (λ y. ltb_is (index_of (body_of f)) (functions s + 1) y) (λ y. let u : functions s + 1 ≤ index_of (body_of f) = ltb_isnt (index_of (body_of f)) (functions s + 1) y in absurd (h (omega arith))) in
        let z : c.functions + 1 - 1 ≡ functions s = omega arith in
        let y : record_differs (functions s) r ≡ true = ap (λ k. record_differs k r) (sym z) ∙ sym bad in rw (e, (some_start (body_of f) l).1, y) refl

    pub recheck_good : (i : ℕ) → i ≡ index_of (body_of f) → (c.functions + 1 ≤ i → ⊥) → false ≡ record_differs (c.functions + 1 - 1) r → (r' : List ℕ) → Flags s i (i + 1) r r' → (a : CheckAnswer)
        → a ≡ answer_from (first_zero r' (bodies (c.functions + 1 - 1))) → RecheckIs s f r a r'
    unfolding recheck flagged
    recheck_good i q h good r' g a w =
        let n : c.functions ≡ functions s = p.functions_is in
        let l : index_of (body_of f) < functions s + 1 = decide (ltb (index_of (body_of f)) (functions s + 1)) (λ y. ltb_is (index_of (body_of f)) (functions s + 1) y) (λ y. let u : functions s + 1 ≤ index_of (body_of f) = ltb_isnt (index_of (body_of f)) (functions s + 1) y in absurd (h (omega arith))) in
        let z : c.functions + 1 - 1 ≡ functions s = omega arith in
        let y : record_differs (functions s) r ≡ false = ap (λ k. record_differs k r) (sym z) ∙ sym good in
        let one : i + 1 - i ≡ 1 = omega arith in
        let here : i + 0 ≡ index_of (body_of f) = omega arith in
        let u : r' ≡ updated (read s) r (body_of f) =
        g ∙ ap (flagged (read s) r i) one ∙ ap (λ k. set r (8 + k) (flag_of (read s) (body_at k))) here ∙ ap (λ b. set r (8 + index_of (body_of f)) (flag_of (read s) b)) (body_back (body_of f)) in
        rw (e, (some_start (body_of f) l).1, y) (ap (λ x. rechecked x r') (w ∙ ap (λ k. answer_from (first_zero r' (bodies k))) z) ∙ ap (λ x. rechecked (answer_from (first_zero x (bodies (functions s)))) x) u)

  module _ (c : Sections) (p : Packed s c) (r : List ℕ) where
    -- the lent bytes of one body, and of all
    pub lends_one : (i : ℕ) → (c.functions + 1 ≤ i → ⊥) → false ≡ record_differs (c.functions + 1 - 1) r → Lends s c i (i + 1) r
    unfolding record_differs
    lends_one i h good =
        let l : i < c.functions + 1 = decide (ltb i (c.functions + 1)) (λ y. ltb_is i (c.functions + 1) y) (λ y. absurd (h (ltb_isnt i (c.functions + 1) y))) in
        let z : length r ≡ 8 + (c.functions + 1) = long good in
        record { packed = p; readable = e; order = omega arith; few = omega arith; long = omega arith }
      where
        long : false ≡ record_differs (c.functions + 1 - 1) r → length r ≡ 8 + (c.functions + 1)
        long q = decide (eqb (length r) (8 + (c.functions + 1))) (λ y. eqb_is (length r) (8 + (c.functions + 1)) y)
            (λ y. false_true (q ∙ sym (other_length r (c.functions + 1) (omega arith) (eqb_isnt (length r) (8 + (c.functions + 1)) y))))

    pub record_long : false ≡ record_differs (c.functions + 1 - 1) r → length r ≡ 8 + (c.functions + 1)
    record_long q = decide (eqb (length r) (8 + (c.functions + 1))) (λ y. eqb_is (length r) (8 + (c.functions + 1)) y)
        (λ y. false_true (q ∙ sym (other_length r (c.functions + 1) (omega arith) (eqb_isnt (length r) (8 + (c.functions + 1)) y))))

pub recheck_refused : (s : List ℕ) (f : ℕ) (r : List ℕ) (e : Refusal) → Opens s (Err e) → RecheckIs s f r (Refused (refusal_number e)) r
unfolding recheck
recheck_refused s f r e q = go (refusal_number e) refl
  where
    go : (n : ℕ) → refusal_number e ≡ n → RecheckIs s f r (Refused (refusal_number e)) r
    go zero w = absurd (refusal_some e w)
    go (suc k) w = let z : refusal s ≡ suc k = q ∙ w in rw w (rw z refl)

-- ---- the full check with a record

pub recording_refused : (s room r : List ℕ) (n : ℕ) → CheckIs s room (Refused n) room → RecordingIs s room r (Unrecorded n) room r
unfolding check_recording
recording_refused s room r n c =
    let a : Refused n ≡ (check s room).answer = ap (λ (x : Checked). x.answer) c in
    let q : room ≡ (check s room).room = ap (λ (x : Checked). x.room) c in ap (λ x. recording (Unrecorded n) x r) q ∙ ap (recording_with s room r) a

module _ (s : List ℕ) (e : refusal s ≡ 0) (room r : List ℕ) (l : 64 * labels s ≤ length room) where
  pub recording_short : length r < record_length (functions s) → RecordingIs s room r (Unrecorded 16) room r
  unfolding check_recording
  recording_short h = go (first_untyped (read s) (bodies (functions s))) ∙ ap (recording_with s room r) (sym (full_answer s room e l))
    where
      go : (o : Option Body) → recording (Unrecorded 16) room r ≡ recording_with s room r (answer_from o)
      go none = rw (ltb_yes (length r) (record_length (functions s)) h) refl
      go (some b) = rw (ltb_yes (length r) (record_length (functions s)) h) refl

pub recordable : (s : List ℕ) (c : Sections) (room r : List ℕ) → Packed s c → refusal s ≡ 0 → 64 * c.labels ≤ length room → 8 + (c.functions + 1) ≤ length r → Recordable s c room r
recordable s c room r p e h l = record { packed = p; readable = e; enough = h; long = omega arith }

module _ (s : List ℕ) (c : Sections) (room r : List ℕ) (R : Recordable s c room r) where
  room_for : 64 * labels s ≤ length room
  room_for = let q : c.labels ≡ labels s = R.packed.labels_is in let h : 64 * c.labels ≤ length room = R.enough in omega arith

  record_for : record_length (functions s) ≤ length r
  record_for = let q : c.functions ≡ functions s = R.packed.functions_is in let h : record_length c.functions ≤ length r = R.long in omega arith

  pub not_refused : (n : ℕ) (room' : List ℕ) → CheckIs s room (Refused n) room' → ⊥
  not_refused n room' k = go (first_untyped (read s) (bodies (functions s))) (ap (λ (x : Checked). x.answer) k ∙ full_answer s room R.readable room_for)
    where
      go : (o : Option Body) → Refused n ≡ answer_from o → ⊥
      go none q = let z : ◌≡◌ {A = ℕ} 0 1 = cc in omega arith
      go (some b) q = let z : ◌≡◌ {A = ℕ} 0 1 = cc in omega arith

  module _ (b : ℕ) (q : b ≡ c.functions + 1) (room' r' : List ℕ) where
    count_is : b ≡ suc (functions s)
    count_is = let n : c.functions ≡ functions s = R.packed.functions_is in omega arith

    written_all : (a : CheckAnswer) → CheckIs s room a room' → r' ≡ flagged (read s) (headed r b) 0 b → RecordingIs s room r (recorded_as (functions s) a) room' r'
    written_all a k g =
        let w : r' ≡ record_of (read s) (functions s) ++ drop (record_length (functions s)) r =
        g ∙ ap (λ n. flagged (read s) (headed r n) 0 n) count_is ∙ whole_record (read s) (functions s) r record_for in
        let ea : a ≡ (check s room).answer = ap (λ (x : Checked). x.answer) k in
        let er : room' ≡ (check s room).room = ap (λ (x : Checked). x.room) k in
        ap (λ x. recording (recorded_as (functions s) x) room' r') ea ∙ ap (λ x. recording (recorded_as (functions s) (check s room).answer) x r') er
        ∙ ap (recording (recorded_as (functions s) (check s room).answer) (check s room).room) w ∙ sym (recording_writes s room r R.readable room_for record_for)

    pub recording_flags : (u : ℕ) → CheckIs s room (Untyped u) room' → Flags s 0 b (headed r b) r' → RecordingIs s room r (RecordedUntyped u) room' r'
    recording_flags u k g = let y : b - 0 ≡ b = omega arith in written_all (Untyped u) k (g ∙ ap (λ n. flagged (read s) (headed r b) 0 n) y)

    pub recording_failed : (e : CheckError) → CheckIs s room (check_answer {T = Unit {0}} (Err e)) room' → Flags s 0 b (headed r b) r' → RecordingIs s room r (recording_answer (Err e)) room' r'
    recording_failed (CheckError.Refused e) k g = absurd (not_refused (refusal_number e) room' k)
    recording_failed (CheckError.Untyped u) k g = recording_flags u k g

    pub recording_ones : (v : ℕ) → v ≡ 8 + b → CheckIs s room Accepted room' → r' ≡ paste (headed r b) 8 (replicate b 1) b → RecordingIs s room r (Recorded v) room' r'
    recording_ones v z k g =
        let t : WellTyped (read s) = (exactly s room Accepted room' k).sound refl in
        let n : v ≡ record_length (functions s) = let y : b ≡ suc (functions s) = count_is in omega arith in
        let long : 8 + b ≤ length (headed r b) = (let y : b ≡ suc (functions s) = count_is in let u : record_length (functions s) ≤ length r = record_for in let w : length (headed r b) ≡ length r = headed_length r b (omega arith) in omega arith) in
        ap (λ x. recording (Recorded x) room' r') n
        ∙ written_all Accepted k (g ∙ ones_flags (read s) (headed r b) b (long) (λ i h. typable_flag (read s) (body_at i) (t.typing (body_at i), t.consistent (body_at i))))

pub lends_all : (s : List ℕ) (c : Sections) (r : List ℕ) (b : ℕ) → Packed s c → refusal s ≡ 0 → b ≡ c.functions + 1 → 8 + b ≤ length r → Lends s c 0 b r
lends_all s c r b p e q h = record { packed = p; readable = e; order = omega arith; few = omega arith; long = h }
