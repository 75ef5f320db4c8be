-- The proof of `desk::reports::run_report`.
use Rattle.desk.proofs.Lines.{checked_fills}
use Rattle.rules.specs.Answers.{Checked}
use mathlib.Core.Path.{ap, refl}
use Rattle.std.specs.Prelude.{Err}
use Rattle.rules.specs.Results.{check_answer}
use Rattle.rules.specs.declared.CheckError.{CheckError}
use Rattle.desk.proofs.reports.run_report.Goals as goal

pub returns-in-Ok : goal.returns-in-Ok
returns-in-Ok c = checked_fills _ _ _ _ _ _ _ _ (ap (λ (z : Checked). z.answer) c.in-Ok.ensures.same) refl c.accepted_text.ensures

pub returns-in-Err-Refused : goal.returns-in-Err-Refused
returns-in-Err-Refused c = checked_fills _ _ _ _ _ _ _ _ (ap (λ (z : Checked). z.answer) c.in-Err-Refused.ensures.same) (ap (λ (e : CheckError). check_answer {T = Unit {0}} (Err e)) c.in-Err-Refused.field-0-is) c.refusal_text.ensures

pub returns-in-Err-Untyped : goal.returns-in-Err-Untyped
returns-in-Err-Untyped c = checked_fills _ _ _ _ _ _ _ _ (ap (λ (z : Checked). z.answer) c.in-Err-Untyped.ensures.same) (ap (λ (e : CheckError). check_answer {T = Unit {0}} (Err e)) c.in-Err-Untyped.field-0-is) c.number_text.ensures
