-- The check's answer and its room, from the verdict and the last pass.
use Prim.Native.Nat.{ℕ, zero, suc, ◌+◌, ◌*◌, ◌≤◌, ◌<◌}
use mathlib.Core.Path.{◌≡◌, refl, ap, ◌∙◌, sym}
use mathlib.Core.Logic.{◌⊎◌, inl, inr}
use native.Mathlib.Omega.{arith}
use mathlib.Core.Option.{Option, none, some}
use mathlib.Core.List.{List, ◌++◌}
use lib.ListN.{length, take, drop, replicate, length-replicate, take-append-drop}
use lib.Seq.{paste, take-add}
use lib.Dec.{ltb}
use Rattle.rules.specs.Bytes.{zeros}
use Rattle.rules.specs.Tables.{Body, entry, fn, body_of}
use Rattle.rules.specs.ModuleFile.{refusal, labels, functions, read, bodies_in, tables_in}
use Rattle.rules.specs.Check.{bodies, first_untyped, label_record, label_records}
use Rattle.rules.specs.AnswerTypes.{CheckAnswer}
use Rattle.rules.specs.AnswerTypes.{Refused, Untyped, Accepted}
use Rattle.rules.specs.Numbers.{done}
use Rattle.rules.specs.Answers.{check_number, Checked, checked, judged, check_with, check}
use Rattle.format.specs.declared.Sections.{Sections}
use Rattle.format.specs.Layout.{Packed}
use Rattle.rules.specs.declared.Refusal.{Refusal}
use Rattle.rules.specs.Results.{refusal_number}
use Rattle.reader.specs.Answers.{Opens}
use Rattle.reader.proofs.Opening.{refusal_some}
use Rattle.soundness.specs.Tests.{decide, ltb_isnt, ltb_yes, ltb_no}
use Rattle.soundness.specs.Whole.{demand3}
use Rattle.soundness.specs.Readable.{Has, label_is}
use Rattle.soundness.specs.Cutting.{function_count_lem, good_file}
use Rattle.std.specs.Prelude.{Ok, Err}
use Rattle.nodes.specs.Nodes.{owner_of, place_of, Tabled, record_of, Fits, Finished}
use Rattle.nodes.proofs.Copies.{cleared}
use Rattle.nodes.proofs.Numbering.{label_at}
use Rattle.checker.specs.Work.{VerdictIs, CheckIs, Exactly}
use Rattle.checker.proofs.Covering.{Typed, typed, all_typed, shown_is}

-- ---- refusals

pub refused_check : (s room : List ℕ) (e : Refusal) → Opens s (Err e) → CheckIs s room (Refused (refusal_number e)) room
unfolding check
refused_check s room e q = go (refusal_number e) refl
  where
    go : (n : ℕ) → refusal_number e ≡ n → CheckIs s room (Refused (refusal_number e)) room
    go zero w = absurd (refusal_some e w)
    go (suc r) w = let z : refusal s ≡ suc r = q ∙ w in rw w (rw z refl)

module _ (s : List ℕ) (e : refusal s ≡ 0) (room : List ℕ) where
  pub short_check : length room < 64 * labels s → CheckIs s room (Refused 10) room
  unfolding check
  short_check h = rw (e, ltb_yes (length room) (64 * labels s) h) refl

  judged_check : 64 * labels s ≤ length room → (o : Option Body) → first_untyped (read s) (bodies (functions s)) ≡ o → judged s room o ≡ check s room
  unfolding check
  judged_check h o f = rw (e, ltb_no (length room) (64 * labels s) h, f) refl

  -- ---- 11

  pub untyped_check : 64 * labels s ≤ length room → (table marks room₁ marks₁ : List ℕ) (o : ℕ) → VerdictIs s table room marks room₁ marks₁ (Err o)
      → (n : ℕ) → n ≡ 64 * labels s → (room' : List ℕ) → room' ≡ paste room₁ 0 (replicate n 0) n → CheckIs s room (Untyped o) room'
  untyped_check h table marks room₁ marks₁ o v n q room' z =
      let r : room' ≡ zeros (64 * labels s) ++ drop (64 * labels s) room =
      z ∙ cleared room₁ n ∙ ap (λ (k : ℕ). zeros k ++ drop k room₁) q ∙ ap (λ (x : List ℕ). zeros (64 * labels s) ++ x) v.grows.rest in
      ap (checked (Untyped o)) r ∙ ap (λ (k : ℕ). checked (Untyped k) (zeros (64 * labels s) ++ drop (64 * labels s) room)) (sym v.decides.1)
      ∙ judged_check h (some (body_of o)) v.decides.0

  -- ---- 0

  -- records that are the labels' one by one are all of them
  records_are : (x : List ℕ) (n : ℕ) → ((k : ℕ) → k < n → record_of x k ≡ label_record (read s) ((read s).label k)) → take (64 * n) x ≡ label_records (read s) n
  unfolding label_records
  records_are x zero f = refl
  records_are x (suc n) f =
      let q : 64 * suc n ≡ 64 * n + 64 = omega arith in
      ap (λ (k : ℕ). take k x) q ∙ take-add (64 * n) 64 x ∙ ap (λ (y : List ℕ). y ++ record_of x n) (records_are x n (λ k l. f k (omega arith)))
      ∙ ap (λ (y : List ℕ). label_records (read s) n ++ y) (f n (omega arith))

  pub typed_check : 64 * labels s ≤ length room → (table marks room₁ marks₁ : List ℕ) → Tabled s table → VerdictIs s table room marks room₁ marks₁ (Ok tt)
      → (room' : List ℕ) → Finished s table marks₁ 0 room₁ room' → CheckIs s room Accepted room'
  typed_check h table marks room₁ marks₁ t v room' f =
      let recs : take (64 * labels s) room' ≡ label_records (read s) (labels s) = records_are room' (labels s) each in
      let r : room' ≡ label_records (read s) (labels s) ++ drop (64 * labels s) room =
      sym (take-append-drop (64 * labels s) room') ∙ ap (λ (x : List ℕ). x ++ drop (64 * labels s) room') recs
      ∙ ap (λ (x : List ℕ). label_records (read s) (labels s) ++ x) (f.rest ∙ v.grows.rest) in
      ap (checked Accepted) r ∙ judged_check h none (all_typed s (found entry tt) (λ i l. found (fn i) (omega (arith, function_count_lem s e))))
    where
      found : (b : Body) → Has (bodies_in s) b → Typed s b
      found b has = typed s table e t room₁ marks₁ entry v.decides.0 v.decides.1 b has (v.decides.2 b has)

      each : (k : ℕ) → k < labels s → record_of room' k ≡ label_record (read s) ((read s).label k)
      each k l =
          let has : Has (bodies_in s) (owner_of s k) = (label_is (tables_in s) (good_file s e) k (owner_of s k) (place_of s k) (label_at s e k l)).1.0 in
          f.shown k (omega arith) l
          ∙ shown_is s table e t room₁ marks₁ entry v.decides.0 v.decides.1 (owner_of s k) has (v.decides.2 (owner_of s k) has) k l refl

-- ---- the room and the marks that the code starts with

pub room_enough : (s : List ℕ) (c : Sections) (room : List ℕ) → Packed s c → 64 * c.labels ≤ length room → 64 * labels s ≤ length room
room_enough s c room p h = let e : c.labels ≡ labels s = p.labels_is in omega arith

pub fits_first : (s : List ℕ) (c : Sections) (room : List ℕ) → Packed s c → 64 * c.labels ≤ length room → Fits (labels s) room (replicate 514 0)
fits_first s c room p h =
    let e : c.labels ≡ labels s = p.labels_is in
    let f : c.labels ≤ 256 = p.few_labels in
    record { room_for = omega arith; few = omega arith; whole = length-replicate {A = ℕ} 514 0 }

-- ---- exactness, by the theorem of the crate soundness

module _ (s room : List ℕ) (r : CheckAnswer) (room' : List ℕ) (c : CheckIs s room r room') where
  answer_is : r ≡ (check s room).answer
  answer_is = ap (λ (x : Checked). x.answer) c

  -- an accepted module can be read, and the room is enough
  accepted_opens : (check s room).answer ≡ Accepted → (refusal s ≡ 0) × (64 * labels s ≤ length room)
  unfolding check
  accepted_opens e = go (refusal s) refl (e)
    where
      clash : (n : ℕ) → Refused n ≡ Accepted → ⊥
      clash n q = let z : ◌≡◌ {A = ℕ} 0 1 = cc in omega arith

      go : (n : ℕ) → refusal s ≡ n → (check_with s room n).answer ≡ Accepted → (n ≡ 0) × (64 * labels s ≤ length room)
      go (suc n) w q = absurd (clash (suc n) q)
      go zero w q = (refl, decide (ltb (length room) (64 * labels s)) (λ y. absurd (clash 10 (rw y at q))) (λ y. ltb_isnt (length room) (64 * labels s) y))

  number_done : (a : CheckAnswer) → check_number a ≡ done → (a ≡ Accepted) ⊎ ((n : ℕ) × (a ≡ Refused n) × (n ≡ 0))
  number_done (Refused n) e = inr (n, refl, e)
  number_done (Untyped n) e = absurd (omega arith)
  number_done Accepted e = inl refl

  never_zero : (check s room).answer ≡ Refused 0 → ⊥
  unfolding check
  never_zero e = go (refusal s) e
    where
      other : (m n : ℕ) → Refused (suc m) ≡ Refused n → n ≡ 0 → ⊥
      other m n q z = let k : suc m ≡ n = cc in omega arith

      judged_not : (o : Option Body) → (judged s room o).answer ≡ Refused 0 → ⊥
      judged_not none q = let z : ◌≡◌ {A = ℕ} 0 1 = cc in omega arith
      judged_not (some b) q = let z : ◌≡◌ {A = ℕ} 0 1 = cc in omega arith

      go : (n : ℕ) → (check_with s room n).answer ≡ Refused 0 → ⊥
      go (suc n) q = other n 0 q refl
      go zero q = decide (ltb (length room) (64 * labels s)) (λ y. other 9 0 (rw y at q) refl) (λ y. judged_not (first_untyped (read s) (bodies (functions s))) (rw y at q))

  pub exactly : Exactly s room r
  exactly =
      record {
        sound = λ e. let a : (check s room).answer ≡ Accepted = sym answer_is ∙ e in let o : (refusal s ≡ 0) × (64 * labels s ≤ length room) = accepted_opens a in
            (demand3.exact s room o.0 o.1).0 (ap check_number a);
        complete = λ e l w. answer_is ∙ pick (number_done (check s room).answer ((demand3.exact s room e l).1 w));
        first = λ n e. demand3.first_untyped_lem s room n (sym answer_is ∙ e);
      }
    where
      pick : ((check s room).answer ≡ Accepted) ⊎ ((n : ℕ) × ((check s room).answer ≡ Refused n) × (n ≡ 0)) → (check s room).answer ≡ Accepted
      pick (inl x) = x
      pick (inr x) = absurd (never_zero (x.1 ∙ ap Refused x.2))
