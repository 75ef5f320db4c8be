-- These promises, from the definitions and from `rechecks` of the crate rechecks.
use Rattle.std.specs.Prelude.{◌≡◌, ℕ, List}
use Rattle.std.proofs.Common.{sym, ap, subst, ◌∙◌}
use Rattle.rules.specs.AnswerTypes.{CheckAnswer}
use Rattle.rules.specs.AnswerTypes.{RecordingAnswer}
use Rattle.rules.specs.Answers.{check_number}
use Rattle.rules.specs.Host.{body_after, recording_body_after, recording_written_after}
use Rattle.rules.specs.Recording.{recording_number, Recording, recording, check_recording, Rechecked, rechecked, recheck}
use Rattle.rechecks.specs.Files.{rechecks}
use Rattle.promises.specs.RecordingPromises.{Records, RecordingKeeps, Updates, RecheckKeeps, HostRecordingKeeps, Tells, HostRecheckKeeps}

-- ---- the check that writes a record

module _ (s room r : List ℕ) where
  recorded : Records s room r (recording_number (check_recording s room r).answer) (check_recording s room r).room (check_recording s room r).beside
  recorded e l n = let x = rechecks.recorded s room r e l n in (x.0, x.2, x.3)

  module _ (a : RecordingAnswer) (room' r' : List ℕ) where
    pub recording_keeps : recording a room' r' ≡ check_recording s room r → RecordingKeeps s room r a room' r'
    recording_keeps q = record { same = q; records = subst (λ (x : Recording). Records s room r (recording_number x.answer) x.room x.beside) (sym q) recorded }

    pub host_recording_keeps : RecordingKeeps s room r a room' r' → (number body body' written written' : ℕ) → number ≡ recording_number a → body' ≡ recording_body_after a body
        → written' ≡ recording_written_after a written → HostRecordingKeeps s room r body written number room' r' body' written'
    host_recording_keeps k number body body' written written' en eb ew =
        let ea : a ≡ (check_recording s room r).answer = ap (λ (x : Recording). x.answer) k.same in
        record {
          number_is = en ∙ ap recording_number ea;
          room_is = ap (λ (x : Recording). x.room) k.same;
          record_is = ap (λ (x : Recording). x.beside) k.same;
          body_is = eb ∙ ap (λ z. recording_body_after z body) ea;
          written_is = ew ∙ ap (λ z. recording_written_after z written) ea;
          records = subst (λ z. Records s room r z room' r') (sym en) k.records;
        }

-- ---- the check of one body

module _ (s : List ℕ) (f : ℕ) (r : List ℕ) where
  updated_so : Updates s f r (λ x. (recheck s r f).answer ≡ x) (recheck s r f).beside
  updated_so s₀ e e' h S F = rechecks.updates s₀ s r f e e' h S F

  module _ (a : CheckAnswer) (r' : List ℕ) where
    pub recheck_keeps : rechecked a r' ≡ recheck s r f → RecheckKeeps s f r a r'
    recheck_keeps q = record { same = q; updates = subst (λ (x : Rechecked). Updates s f r (λ y. x.answer ≡ y) x.beside) (sym q) updated_so }

    pub host_recheck_keeps : RecheckKeeps s f r a r' → (number first first' : ℕ) → number ≡ check_number a → first' ≡ body_after a first → HostRecheckKeeps s f r first number r' first'
    host_recheck_keeps k number first first' en ef =
        record {
          same = told (ap (λ (x : Rechecked). x.answer) k.same);
          record_is = ap (λ (x : Rechecked). x.beside) k.same;
          updates = λ s₀ e e' h S F. let w = k.updates s₀ e e' h S F in ((λ room l. told (w.0 room l)), w.1);
        }
      where
        told : {x : CheckAnswer} → a ≡ x → Tells number first first' x
        told q = (en ∙ ap check_number q, ef ∙ ap (λ z. body_after z first) q)
