-- What the report of the stack that a module needs promises.
use Rattle.std.specs.Prelude.{ℕ, zero, suc, ◌+◌, ◌-◌, ◌*◌, ◌/◌, ◌≡◌, List, [], ◌∷◌, ◌++◌, Ok, Err}
use Rattle.std.specs.declared.result.Result.{Result}
use Rattle.rules.specs.Results.{need_answer}
use Rattle.rules.specs.declared.NeedError.{NeedError}
use Rattle.rules.specs.AnswerTypes.{NeedAnswer}
use Rattle.rules.specs.AnswerTypes.{Unreported, ReportUntyped, ReportLoops, Reported}
use Rattle.rules.specs.Bytes.{word, zeros}
use Rattle.rules.specs.Program.{line2, line3, refused_line}
use Rattle.rules.specs.Reporting.{need_number, Reporting, report_needs}
use Rattle.desk.specs.declared.checks.Said.{Said}
use Rattle.desk.specs.Text.{Fills}
use Rattle.desk.specs.Checks.{text_said}

-- "entry ", need and frames
abbrev pub entry_line : ℕ → ℕ → List ℕ
entry_line need frames = 101 ∷ 110 ∷ 116 ∷ 114 ∷ 121 ∷ 32 ∷ line2 need frames

-- of each function its number, need and frames, by the words of a report
unfoldable pub function_lines : List ℕ → ℕ → List ℕ
function_lines r zero = []
function_lines r (suc k) = function_lines r k ++ line3 k (word 4 r (8 * k + 8)) (word 4 r (8 * k + 12))

-- the lines of a report of n functions
abbrev pub need_lines : List ℕ → ℕ → List ℕ
need_lines r n = entry_line (word 4 r 0) (word 4 r 4) ++ function_lines r n

-- the lines of an answer: of 0 those of the report, which has eight bytes a body
abbrev pub need_text : NeedAnswer → List ℕ → List ℕ
need_text (Unreported n) r = refused_line n
need_text (ReportUntyped b) r = line2 11 b
need_text (ReportLoops b) r = line2 47 b
need_text (Reported n) r = need_lines r (n / 8 - 1)

-- the report of s in a room that is enough for 256 labels, with bytes enough for 128 functions
abbrev pub report_of : List ℕ → Reporting
report_of s = report_needs s (zeros 16384) (zeros 1032)

-- the number of what is said, 0 for a report
abbrev pub number_said : Result ℕ (Said NeedError) → ℕ
number_said (Ok k) = 0
number_said (Err x) = need_number (need_answer (Err x.error))

-- the number, and its lines in the buffer
pub record ReportsNeed (s : List ℕ) (said : Result ℕ (Said NeedError)) (out : List ℕ) : Type 0 where
  pub number_is : number_said said ≡ need_number (report_of s).answer
  pub lines : Fills (need_text (report_of s).answer (report_of s).report) out (text_said said)
