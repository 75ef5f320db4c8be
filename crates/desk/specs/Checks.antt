-- What the reports of checks that keep a record promise.
use Rattle.std.specs.Prelude.{ℕ, ◌≡◌, List, Ok, Err}
use Rattle.std.specs.declared.result.Result.{Result}
use Rattle.std.proofs.Math.Option.{Option, none, some}
use Rattle.rules.specs.Bytes.{zeros}
use Rattle.rules.specs.Program.{line2, refused_line}
use Rattle.rules.specs.Answers.{check_number, check_body_named}
use Rattle.rules.specs.Recording.{recording_number, recording_body_named, check_recording, recheck}
use Rattle.rules.specs.Results.{refusal_number}
use Rattle.rules.specs.declared.CheckError.{CheckError}
use Rattle.rules.specs.declared.CheckError.TheVariants.{Refused, Untyped}
use Rattle.desk.specs.declared.checks.Said.{Said}
use Rattle.desk.specs.Text.{Fills}

-- the number of what a check answers in place of 0, and the body that it names
abbrev pub error_number : CheckError → ℕ
error_number (Refused e) = refusal_number e
error_number (Untyped b) = 11

abbrev pub error_body : CheckError → Option ℕ
error_body (Refused e) = none
error_body (Untyped b) = some b

-- the line of an answer: its number, and the body that it names
abbrev pub answer_line : ℕ → Option ℕ → List ℕ
answer_line n none = refused_line n
answer_line n (some b) = line2 n b

abbrev pub error_line : CheckError → List ℕ
error_line e = answer_line (error_number e) (error_body e)

-- the bytes of the buffer that are used
abbrev pub text_said : {E : Type 0} → Result ℕ (Said E) → ℕ
text_said (Ok k) = k
text_said (Err x) = x.text

-- the number, the body that it names, and their line in the buffer
abbrev pub Says : ℕ → Option ℕ → Result ℕ (Said CheckError) → List ℕ → Type 0
Says number body (Ok k) out = (number ≡ 0) × Fills (answer_line number body) out k
Says number body (Err x) out = (number ≡ error_number x.error) × (body ≡ error_body x.error) × Fills (answer_line number body) out x.text

-- of the full check, whose room is enough for 256 labels: the answer's line, and the record
abbrev pub ReportsRecording : List ℕ → List ℕ → Result ℕ (Said CheckError) → List ℕ → List ℕ → Type 0
ReportsRecording s r said r' out' =
    Says (recording_number (check_recording s (zeros 16384) r).answer) (recording_body_named (check_recording s (zeros 16384) r).answer) said out'
    × (r' ≡ (check_recording s (zeros 16384) r).beside)

-- of the check of body f
abbrev pub ReportsBody : List ℕ → ℕ → List ℕ → Result ℕ (Said CheckError) → List ℕ → List ℕ → Type 0
ReportsBody s f r said r' out' = Says (check_number (recheck s r f).answer) (check_body_named (recheck s r f).answer) said out' × (r' ≡ (recheck s r f).beside)
