-- The proof of `checker::check`.
use Rattle.std.proofs.lemmas.Result.{err_from_is_err_and}
use Rattle.reader.proofs.Opening.{opened_packed}
use Rattle.checker.proofs.Verdicts.{refused_check, exactly}
use Rattle.checker.proofs.check.Goals as goal

pub check_opened-requires : goal.check_opened-requires
check_opened-requires c = (opened_packed _ _ c.in_ok-c.ensures, c.in_ok-c.ensures.0)

pub returns-in_err-c : goal.returns-in_err-c
returns-in_err-c c =
    let p = err_from_is_err_and c.from_residual.result c.from_residual.ensures.1 in
    let x = refused_check _ c.args.room.now _ c.in_err-c.ensures in
    rw (p.1, p.2) (record { check_is = x; exactly = exactly _ _ _ _ x })

pub returns : goal.returns
returns c = record { check_is = c.check_opened.ensures; exactly = exactly _ _ _ _ c.check_opened.ensures }
