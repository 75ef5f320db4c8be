-- These promises, from the definitions and from `suffices` of the crate need.
use Rattle.std.specs.Prelude.{◌≡◌, ℕ, ◌+◌, ◌^◌, ◌≤◌, ◌<◌, Bool, cond, List, ◌++◌, ltb, eqb, length, take}
use Rattle.std.proofs.Math.Path.{refl, ap}
use Rattle.std.proofs.Common.{sym, subst, ◌∙◌, arith, take-take, take-add, take_at, drop_at, drop-drop}
use Rattle.std.proofs.Math.Bool.{true, false}
use Rattle.std.proofs.Math.Option.{Option, none, some}
use Rattle.std.proofs.Math.ListN.{drop}
use Rattle.rules.specs.AnswerTypes.{CheckAnswer}
use Rattle.rules.specs.AnswerTypes.{Refused, Untyped, Accepted}
use Rattle.rules.specs.AnswerTypes.{NeedAnswer}
use Rattle.rules.specs.AnswerTypes.{Unreported, ReportUntyped, ReportLoops, Reported}
use Rattle.rules.specs.Bytes.{number, bytes, word}
use Rattle.rules.specs.Numbers.{done}
use Rattle.rules.specs.Tables.{Body, body_of}
use Rattle.rules.specs.ModuleFile.{functions, read}
use Rattle.rules.specs.Check.{bodies}
use Rattle.rules.specs.Answers.{check_number, check}
use Rattle.rules.specs.Host.{need_body_after, need_written_after}
use Rattle.rules.specs.Demand3.{IsAccepted, Exists, FirstUntyped}
use Rattle.rules.specs.Reporting.{need_number, first_looping, report_bytes, report_length, Reporting, reporting, report_with, report_after, report_needs}
use Rattle.rules.specs.Suffices.{FirstLooping, report_at, Shown, NoLoop}
use Rattle.soundness.specs.Tests.{decide, eqb_is, eqb_isnt, ltb_is, ltb_isnt}
use Rattle.soundness.specs.Whole.{demand3, scan_started}
use Rattle.memory.proofs.Words.{length_bytes, number_bytes}
use Rattle.need.specs.Whole.{suffices, run_exists}
use Rattle.promises.proofs.Promised.{Refusal, check_refusal}
use Rattle.promises.specs.NeedPromises.{NeverOverflows, Measures, NeedKeeps, HostNeedKeeps}

-- ---- words

-- the two words of eight bytes
module _ (r : List ℕ) (i a b : ℕ) (e : take 8 (drop i r) ≡ bytes 4 a ++ bytes 4 b) where
  first_half : take 4 (drop i r) ≡ bytes 4 a
  first_half = sym (take-take 4 8 (drop i r) (omega arith)) ∙ ap (take 4) e ∙ take_at (bytes 4 a) (bytes 4 b) 4 (length_bytes 4 a)

  second_half : take 4 (drop 4 (drop i r)) ≡ bytes 4 b
  second_half =
      let l : List ℕ = drop i r in
      let n : length (take 4 l) ≡ 4 = ap length first_half ∙ length_bytes 4 a in
      sym (drop_at (take 4 l) (take 4 (drop 4 l)) 4 n) ∙ ap (drop 4) (sym (take-add 4 4 l) ∙ e) ∙ drop_at (bytes 4 a) (bytes 4 b) 4 (length_bytes 4 a)

  first_word : a < 256 ^ 4 → word 4 r i ≡ a
  unfolding word
  first_word l = ap number first_half ∙ number_bytes 4 a l

  second_word : b < 256 ^ 4 → word 4 r (i + 4) ≡ b
  unfolding word
  second_word l = ap (λ z. number (take 4 z)) (sym (drop-drop 4 i r)) ∙ ap number second_half ∙ number_bytes 4 b l

module _ (s room report : List ℕ) where
  abbrev given : Reporting
  given = report_needs s room report

  module _ (e : need_number given.answer ≡ done) where
    accepted : IsAccepted s room
    accepted =
        decide (eqb (check_number (check s room).answer) 0) (λ y. eqb_is (check_number (check s room).answer) 0 y)
        (λ y. let n : check_number (check s room).answer ≡ 0 → ⊥ = eqb_isnt (check_number (check s room).answer) 0 y in
        let q : need_number given.answer ≡ check_number (check s room).answer = (suffices.check_first s room report n).0 in absurd (n (sym q ∙ e)))

    no_loop : NoLoop s
    no_loop b h r =
        let x = suffices.loops_exactly s room report accepted b h r in
        let q : need_number given.answer ≡ 47 = ap need_number x.1 in omega arith

    long : report_length (functions s) ≤ length report
    long =
        decide (ltb (length report) (report_length (functions s)))
        (λ y. let q : need_number given.answer ≡ 16 = ap (λ (x : Reporting). need_number x.answer) (suffices.short s room report accepted no_loop (ltb_is (length report) (report_length (functions s)) y)) in absurd (omega arith))
        (λ y. ltb_isnt (length report) (report_length (functions s)) y)

    shows_all : (b : Body) → Exists s b → Shown s given.report b
    shows_all = (suffices.reports s room report accepted no_loop long).1

    never_all : NeverOverflows s given.report
    never_all f args scan g n x y c d =
        let w : Shown s given.report (body_of f) = shows_all (body_of f) (run_exists s f args (scan_started s f args scan g)) in
        let h : w.need ≤ 70176 = w.need_fits in
        let k : w.frames ≤ 129 = w.frames_fit in
        let p : word 4 given.report (report_at (body_of f)) ≡ w.need = first_word given.report (report_at (body_of f)) w.need w.frames w.words (omega arith) in
        let q : word 4 given.report (report_at (body_of f) + 4) ≡ w.frames = second_word given.report (report_at (body_of f)) w.need w.frames w.words (omega arith) in
        suffices.never s room accepted f args scan g w.need w.frames w.needs n x y (omega arith) (omega arith)

  measured : Measures s room (need_number given.answer) given.report
  measured =
      record {
        shows = shows_all;
        never = never_all;
        loops = λ a b h r. ap need_number (suffices.loops_exactly s room report a b h r).1;
      }

  -- 11 comes from the check, and no other number is the check's that is not 1 to 10
  abbrev Comes : NeedAnswer → Type 0
  Comes (Unreported n) = (n ≡ 47 → ⊥) × (n ≡ 11 → ⊥)
  Comes (ReportUntyped b) = FirstUntyped s b
  Comes (ReportLoops b) = Unit {0}
  Comes (Reported n) = Unit {0}

  comes : Comes given.answer
  unfolding report_needs
  comes = go (check s room).answer refl (check_refusal s room)
    where
      last : (b : Bool) → Comes (cond b (reporting (Unreported 16) (check s room).room report)
          (reporting (Reported (report_length (functions s))) (check s room).room (report_bytes (read s) (functions s) (bodies (functions s)) ++ drop (report_length (functions s)) report))).answer
      last true = ((λ q. omega arith), λ q. omega arith)
      last false = tt

      on : (o : Option Body) → Comes (report_with s (check s room).room report o).answer
      on none = last (ltb (length report) (report_length (functions s)))
      on (some b) = tt

      go : (a : CheckAnswer) → (check s room).answer ≡ a → Refusal a → Comes (report_after s (check s room).room report a).answer
      go (Refused n) e h = ((λ q. omega arith), λ q. omega arith)
      go (Untyped b) e h = demand3.first_untyped_lem s room b e
      go Accepted e h = on (first_looping (read s) (functions s) (bodies (functions s)))

  module _ (a : NeedAnswer) (room' report' : List ℕ) where
    pub need_keeps : reporting a room' report' ≡ given → NeedKeeps s room report a room' report'
    need_keeps q =
        let ea : a ≡ given.answer = ap (λ (x : Reporting). x.answer) q in
        record {
          same = q;
          measures = subst (λ (x : Reporting). Measures s room (need_number x.answer) x.report) (sym q) measured;
          first_looping_lem = λ n e. (suffices.loops s room report n (sym ea ∙ e)).1;
          first_untyped_lem = λ n e. subst Comes (sym ea ∙ e) comes;
        }

    named_loop : (x : NeedAnswer) → Comes x → ((n : ℕ) → x ≡ ReportLoops n → FirstLooping s n) → (body : ℕ) → need_number x ≡ 47 → FirstLooping s (need_body_after x body)
    named_loop (Unreported n) h f body e = absurd (h.0 e)
    named_loop (ReportUntyped b) h f body e = absurd (omega (arith, e))
    named_loop (ReportLoops b) h f body e = f b refl
    named_loop (Reported n) h f body e = absurd (omega (arith, e))

    named_untyped : (x : NeedAnswer) → Comes x → (body : ℕ) → need_number x ≡ 11 → FirstUntyped s (need_body_after x body)
    named_untyped (Unreported n) h body e = absurd (h.1 e)
    named_untyped (ReportUntyped b) h body e = h
    named_untyped (ReportLoops b) h body e = absurd (omega (arith, e))
    named_untyped (Reported n) h body e = absurd (omega (arith, e))

    pub host_need_keeps : NeedKeeps s room report a room' report' → (number body body' written written' : ℕ) → number ≡ need_number a → body' ≡ need_body_after a body
        → written' ≡ need_written_after a written → HostNeedKeeps s room report body written number room' report' body' written'
    host_need_keeps k number body body' written written' en eb ew =
        let ea : a ≡ given.answer = ap (λ (x : Reporting). x.answer) k.same in
        let w : Comes a = subst Comes (sym ea) comes in
        record {
          number_is = en ∙ ap need_number ea;
          room_is = ap (λ (x : Reporting). x.room) k.same;
          report_is = ap (λ (x : Reporting). x.report) k.same;
          body_is = eb ∙ ap (λ z. need_body_after z body) ea;
          written_is = ew ∙ ap (λ z. need_written_after z written) ea;
          measures = subst (λ z. Measures s room z report') (sym en) k.measures;
          first_looping_lem = λ e. subst (FirstLooping s) (sym eb) (named_loop a w k.first_looping_lem body (sym en ∙ e));
          first_untyped_lem = λ e. subst (FirstUntyped s) (sym eb) (named_untyped a w body (sym en ∙ e));
        }
