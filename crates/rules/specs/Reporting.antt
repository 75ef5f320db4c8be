-- 02, A11: the report of the stack that a module needs: what is answered and what is written, from bytes to bytes.
use Rattle.std.specs.Prelude.{ℕ, suc, ◌*◌, cond, List, [], ◌∷◌, ◌++◌, length, drop, ltb}
use Rattle.std.proofs.Math.Option.{Option, none, some}
pub use Rattle.rules.specs.AnswerTypes.{NeedAnswer}
pub use Rattle.rules.specs.AnswerTypes.{Unreported, ReportUntyped, ReportLoops, Reported}
use Rattle.rules.specs.Bytes.{bytes}
use Rattle.rules.specs.Numbers.{done, no_typing, output_too_short, calls_loop}
use Rattle.rules.specs.Tables.{Body, body_number, Module}
use Rattle.rules.specs.ModuleFile.{functions, read}
use Rattle.rules.specs.Check.{bodies}
use Rattle.rules.specs.Answers.{CheckAnswer, Refused, Untyped, Accepted, check}
use Rattle.rules.specs.Heights.{Found, need_of}

-- ---- the answer's values

abbrev pub need_number : NeedAnswer → ℕ
need_number (Unreported n) = n
need_number (ReportUntyped b) = no_typing
need_number (ReportLoops b) = calls_loop
need_number (Reported n) = done

-- 11 names a body, as every check's; "47 with the first body .."
abbrev pub need_body_named : NeedAnswer → Option ℕ
need_body_named (Unreported n) = none
need_body_named (ReportUntyped b) = some b
need_body_named (ReportLoops b) = some b
need_body_named (Reported n) = none

-- "a writer answers 0 with the length"
abbrev pub need_length : NeedAnswer → Option ℕ
need_length (Unreported n) = none
need_length (ReportUntyped b) = none
need_length (ReportLoops b) = none
need_length (Reported n) = some n

-- ---- "47 with the first body from which a chain of reached calls comes back to a body on it, exactly when there is one"

-- of a module with N functions
unfoldable pub first_looping : Module → ℕ → List Body → Option Body
first_looping m N [] = none
first_looping m N (b ∷ bs) = elim (need_of m (suc N) b) [ none ↦ some b | some x ↦ first_looping m N bs ]

-- ---- "Into a lent report write need and frames .., a word each, for the entry and each function in order"

abbrev pub found_bytes : Found → List ℕ
found_bytes none = []
found_bytes (some x) = bytes 4 x.0 ++ bytes 4 x.1

unfoldable pub report_bytes : Module → ℕ → List Body → List ℕ
report_bytes m N [] = []
report_bytes m N (b ∷ bs) = found_bytes (need_of m (suc N) b) ++ report_bytes m N bs

-- of a module with n functions: the entry is a body too
abbrev pub report_length : ℕ → ℕ
report_length n = 8 * suc n

-- ---- "Refusals: the check's own first (its room stays as the check leaves it); then 47 ..; then 16."

-- room and report: what they hold after
pub record Reporting : Type 0 where
  pub answer : NeedAnswer
  pub room : List ℕ
  pub report : List ℕ

abbrev pub reporting : NeedAnswer → List ℕ → List ℕ → Reporting
reporting a room report = record { answer = a; room = room; report = report }

-- of an accepted module, by its first body that leads to a loop of calls; "and leaves output past it unchanged"
abbrev pub report_with : List ℕ → List ℕ → List ℕ → Option Body → Reporting
report_with s room report (some b) = reporting (ReportLoops (body_number b)) room report
report_with s room report none =
    cond (ltb (length report) (report_length (functions s))) (reporting (Unreported output_too_short) room report)
    (reporting (Reported (report_length (functions s))) room
    (report_bytes (read s) (functions s) (bodies (functions s)) ++ drop (report_length (functions s)) report))

-- by the check's answer
abbrev pub report_after : List ℕ → List ℕ → List ℕ → CheckAnswer → Reporting
report_after s room report (Refused n) = reporting (Unreported n) room report
report_after s room report (Untyped b) = reporting (ReportUntyped b) room report
report_after s room report Accepted = report_with s room report (first_looping (read s) (functions s) (bodies (functions s)))

-- the report of the stack that the module s needs; room is the checking room
unfoldable pub report_needs : List ℕ → List ℕ → List ℕ → Reporting
report_needs s room report = report_after s (check s room).room report (check s room).answer
