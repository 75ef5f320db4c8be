-- What the check that writes a record and the check of one body promise: answer and lent memory equal to the definitions', and what
-- document 02 claims of them.
use Rattle.std.specs.Prelude.{◌≡◌, ℕ, ◌*◌, ◌≤◌, List, length, take}
use Rattle.rules.specs.AnswerTypes.{CheckAnswer}
use Rattle.rules.specs.AnswerTypes.{RecordingAnswer}
use Rattle.rules.specs.Tables.{body_of}
use Rattle.rules.specs.ModuleFile.{refusal, functions, labels, tables_in}
use Rattle.rules.specs.Answers.{check_number, check}
use Rattle.rules.specs.Host.{body_after, recording_body_after, recording_written_after}
use Rattle.rules.specs.Demand3.{Exists}
use Rattle.rules.specs.Recording.{record_length, recording_number, recording, check_recording, rechecked, recheck}
use Rattle.rules.specs.Rechecked.{SameOutside, Faithful}

-- ---- the check that writes a record

-- of a check of s in this room that answered this number, with this room and this record after: where the module can be read, and
-- room and record are long enough, number and room are the check's, and the record is faithful, with 0 and with 11
abbrev pub Records : List ℕ → List ℕ → List ℕ → ℕ → List ℕ → List ℕ → Type 0
Records s room r number room' r' =
    refusal s ≡ 0 → 64 * labels s ≤ length room → record_length (functions s) ≤ length r
    → (number ≡ check_number (check s room).answer) × (room' ≡ (check s room).room) × Faithful s (take (record_length (functions s)) r')

pub record RecordingKeeps (s room r : List ℕ) (a : RecordingAnswer) (room' r' : List ℕ) : Type 0 where
  -- answer, room and record are the definition's
  pub same : recording a room' r' ≡ check_recording s room r
  pub records : Records s room r (recording_number a) room' r'

-- ---- the check of one body

-- of a check of body f of s' beside r, with this record after: for every module s before, the same outside f, that r is faithful for,
-- it says what the full check answers in every room that is enough, and the record is faithful for s', so that updates chain
abbrev pub Updates : List ℕ → ℕ → List ℕ → (CheckAnswer → Type 0) → List ℕ → Type 0
Updates s' f r says r' =
    (s : List ℕ) → refusal s ≡ 0 → refusal s' ≡ 0 → Exists s' (body_of f) → SameOutside (tables_in s) (tables_in s') (body_of f) → Faithful s r
    → ((room : List ℕ) → 64 * labels s' ≤ length room → says (check s' room).answer) × Faithful s' r'

pub record RecheckKeeps (s : List ℕ) (f : ℕ) (r : List ℕ) (a : CheckAnswer) (r' : List ℕ) : Type 0 where
  -- answer and record are the definition's
  pub same : rechecked a r' ≡ recheck s r f
  pub updates : Updates s f r (λ x. a ≡ x) r'

-- ---- the same through the C interface

pub record HostRecordingKeeps (s room r : List ℕ) (body written number : ℕ) (room' r' : List ℕ) (body' written' : ℕ) : Type 0 where
  pub number_is : number ≡ recording_number (check_recording s room r).answer
  pub room_is : room' ≡ (check_recording s room r).room
  pub record_is : r' ≡ (check_recording s room r).beside
  pub body_is : body' ≡ recording_body_after (check_recording s room r).answer body
  pub written_is : written' ≡ recording_written_after (check_recording s room r).answer written
  pub records : Records s room r number room' r'

-- number and first body are those of an answer
abbrev pub Tells : ℕ → ℕ → ℕ → CheckAnswer → Type 0
Tells number first first' x = (number ≡ check_number x) × (first' ≡ body_after x first)

pub record HostRecheckKeeps (s : List ℕ) (f : ℕ) (r : List ℕ) (first number : ℕ) (r' : List ℕ) (first' : ℕ) : Type 0 where
  pub same : Tells number first first' (recheck s r f).answer
  pub record_is : r' ≡ (recheck s r f).beside
  pub updates : Updates s f r (Tells number first first') r'
