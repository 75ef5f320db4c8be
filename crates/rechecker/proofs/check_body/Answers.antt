-- The proof of `rechecker::check_body`.
use Rattle.rechecker.proofs.Laws.{recheck_refused}
use Rattle.reader.proofs.Opening.{opened_packed}
use Rattle.std.proofs.lemmas.Result.{err_from_is_err_and}
use Rattle.rechecker.proofs.check_body.Goals as goal

pub recheck_opened-requires : goal.recheck_opened-requires
recheck_opened-requires c = (opened_packed _ _ c.in_ok-c.ensures, c.in_ok-c.ensures.0)

pub returns-in_err-c : goal.returns-in_err-c
returns-in_err-c c =
    let p = err_from_is_err_and c.from_residual.result c.from_residual.ensures.1 in
    rw (p.1, p.2) (recheck_refused _ _ _ _ c.in_err-c.ensures)
