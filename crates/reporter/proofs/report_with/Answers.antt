-- The proof of `reporter::report_with`.
use Rattle.reporter.proofs.Settling.{report_checked, report_failed, asks_after}
use Rattle.rules.specs.AnswerTypes.{Accepted}
use Rattle.std.proofs.lemmas.Result.{err_from_is_err_and}
use native.Mathlib.Omega.{arith}
use mathlib.Core.Path.{◌∙◌}
use Rattle.reporter.proofs.report_with.Goals as goal

pub accepted-requires : goal.accepted-requires
accepted-requires c = (asks_after _ _ _ _ _ c.requires.checkable.packed c.requires.checkable.readable c.in_ok-check_with.ensures.tabled (omega (arith, c.requires.checkable.enough)) c.in_ok-check_with.ensures.check_is, c.requires.keyed)

pub returns-in_err-check_with : goal.returns-in_err-check_with
returns-in_err-check_with c =
    let p = err_from_is_err_and c.from_residual.result c.from_residual.ensures.1 in
    rw (p.1, p.2) (report_failed _ _ _ _ _ c.in_err-check_with.ensures.check_is)

pub returns : goal.returns
returns c = c.accepted.ensures ∙ report_checked _ _ _ _ Accepted c.in_ok-check_with.ensures.check_is
