-- The proof of `reporter::report_needs`.
use Rattle.reporter.proofs.Settling.{report_checked}
use Rattle.reader.proofs.Opening.{opened_packed}
use Rattle.checker.proofs.Verdicts.{refused_check}
use Rattle.rules.specs.AnswerTypes.{Refused}
use Rattle.std.proofs.lemmas.Result.{err_from_is_err_and}
use Rattle.reporter.proofs.report_needs.Goals as goal

pub report_opened-requires : goal.report_opened-requires
report_opened-requires c = (opened_packed _ _ c.in_ok-c.ensures, c.in_ok-c.ensures.0)

pub returns-in_err-c : goal.returns-in_err-c
returns-in_err-c c =
    let p = err_from_is_err_and c.from_residual.result c.from_residual.ensures.1 in
    rw (p.1, p.2) (report_checked _ _ _ _ (Refused _) (refused_check _ _ _ c.in_err-c.ensures))
