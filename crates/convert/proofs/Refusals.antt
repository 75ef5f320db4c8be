-- The rows of a file that must be of an edition, and the answers of refusals.
use Prim.Native.Nat.{ℕ, zero, suc, ◌≤◌, ◌<◌}
use native.Mathlib.Omega.{arith}
use mathlib.Core.Path.{◌≡◌, refl, sym, ap, ◌∙◌}
use mathlib.Core.Bool.{Bool, true, false, ◌&&◌}
use mathlib.Core.List.{List, ◌∷◌}
use lib.Dec.{eqb, ltb}
use lib.ListN.{length}
use Rattle.rules.specs.AnswerTypes.{Unwritten}
use Rattle.rules.specs.Tables.{header_size, differs, unknown_edition, first_of, content_tests}
use Rattle.rules.specs.ModuleFile.{edition, short, other_edition, other_total, over_limit, not_packed, refusal, tables_in}
use Rattle.rules.specs.Writing.{wrote, write_with}
use Rattle.rules.specs.Converting.{fourth, third, refusal_in, not_in_third, down_refusal_with, down_refusal, to_edition4, to_edition3}
use Rattle.format.specs.Layout.{header_tests}
use Rattle.format.proofs.Rows.{first_hit}
use Rattle.rules.specs.declared.Refusal.{Refusal}
use Rattle.rules.specs.Results.{refusal_number}
use Rattle.reader.proofs.Opening.{refusal_some}
use Rattle.writer.proofs.Laws.{refused_with}
use Rattle.soundness.specs.Tests.{decide, eqb_is, eqb_same, eqb_other, ltb_is, ltb_isnt, ltb_yes, ltb_no, and_both}
use Rattle.convert.specs.Rows.{FirstRows}

-- ---- rows 1 and 2

pub under_header : (s : List ℕ) → length s < 48 → length s < header_size (edition s)
under_header s l = decide (eqb (edition s) 4) (λ y. rw y (omega arith)) (λ y. rw y l)

module _ (s : List ℕ) (found : ℕ) (is : found ≡ edition s) where
  pub under_fourth : (eqb found 4 && ltb (length s) 56) ≡ true → length s < header_size (edition s)
  under_fourth h =
      let b : (eqb found 4 ≡ true) × (ltb (length s) 56 ≡ true) = and_both (eqb found 4) (ltb (length s) 56) h in
      let f : edition s ≡ 4 = sym is ∙ eqb_is found 4 b.0 in
      rw f (ltb_is (length s) 56 b.1)

  pub over_header : (eqb found 4 && ltb (length s) 56) ≡ false → 48 ≤ length s → header_size (edition s) ≤ length s
  over_header h l = decide (eqb (edition s) 4) (λ y. rw y (let x : ltb (length s) 56 ≡ false = rw (is, y) at h in ltb_isnt (length s) 56 x)) (λ y. rw y l)

pub first_short : (e : ℕ) (s : List ℕ) → length s < header_size (edition s) → FirstRows e s 1
unfolding refusal_in first_of
first_short e s l = record { passes = λ z. absurd (omega arith); refuses = λ z. rw (ltb_yes (length s) (header_size (edition s)) l) refl }

pub first_other : (e : ℕ) (s : List ℕ) → header_size (edition s) ≤ length s → (edition s ≡ e → ⊥) → FirstRows e s 2
unfolding refusal_in first_of
first_other e s l h =
    record { passes = λ z. absurd (omega arith); refuses = λ z. rw (ltb_no (length s) (header_size (edition s)) l, eqb_other (edition s) e h) refl }

-- ---- all rows

-- a file of edition e is refused as the reader refuses it
pub same_refusal : (e : ℕ) (s : List ℕ) → unknown_edition e ≡ false → edition s ≡ e → refusal_in e s ≡ refusal s
unfolding refusal_in refusal
same_refusal e s k q =
    let d : differs (edition s) e ≡ false = rw (q, eqb_same e) in
    let o : other_edition s ≡ false = ap unknown_edition q ∙ k in
    ap (λ (b : Bool). first_of 1 (short s ∷ b ∷ other_total s ∷ over_limit s ∷ not_packed s ∷ content_tests (tables_in s))) (d ∙ sym o)

-- by one of rows 1 to 5
pub early_refusal : (s : List ℕ) (e : Refusal) → refusal_number e ≡ first_of 1 (header_tests s) → refusal_number e ≡ refusal s
unfolding refusal
early_refusal s e q = q ∙ sym (first_hit 0 (header_tests s) (content_tests (tables_in s)) (λ z. refusal_some e (q ∙ z)))

-- ---- numbers of the way down

pub down_early : (s : List ℕ) (e : Refusal) → refusal_number e ≡ refusal_in 4 s → refusal_number e ≡ down_refusal s
unfolding down_refusal
down_early s e q = go (refusal_number e) (refusal_some e) ∙ ap (down_refusal_with s) q
  where
    go : (n : ℕ) → (n ≡ 0 → ⊥) → n ≡ down_refusal_with s n
    go zero h = absurd (h refl)
    go (suc n) h = refl

pub down_newer : (s : List ℕ) → refusal_in 4 s ≡ 0 → not_in_third (tables_in s) ≡ true → 18 ≡ down_refusal s
unfolding down_refusal
down_newer s e h = rw (e, h) refl

pub down_allowed : (s : List ℕ) → refusal_in 4 s ≡ 0 → not_in_third (tables_in s) ≡ false → down_refusal s ≡ 0
unfolding down_refusal
down_allowed s e h = rw (e, h) refl

-- ---- answers

module _ (s out : List ℕ) (e : Refusal) where
  pub refused_up : refusal_number e ≡ refusal_in 3 s → wrote (Unwritten (refusal_number e)) out ≡ to_edition4 s out
  unfolding to_edition4
  refused_up q = refused_with e (fourth s) out ∙ ap (λ (k : ℕ). write_with k (fourth s) out) q

  pub refused_down : refusal_number e ≡ down_refusal s → wrote (Unwritten (refusal_number e)) out ≡ to_edition3 s out
  unfolding to_edition3
  refused_down q = refused_with e (third s) out ∙ ap (λ (k : ℕ). write_with k (third s) out) q
