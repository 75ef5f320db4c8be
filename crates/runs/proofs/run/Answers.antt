use Rattle.std.proofs.lemmas.Result.{err_from_is_err_and}
use Rattle.runs.proofs.Returns.{run_unread}
use Rattle.reader.proofs.Opening.{opened_packed}
use Rattle.runs.proofs.run.Goals as goal

pub run_opened-requires : goal.run_opened-requires
run_opened-requires c = let o = c.in_ok-c.ensures in (opened_packed _ _ o, o.0)

pub returns-in_err-c : goal.returns-in_err-c
returns-in_err-c c =
    let e = err_from_is_err_and c.from_residual.result c.from_residual.ensures.1 in
    rw (e.1, e.2) (run_unread _ _ _ _ _ _ _ _ _ _ _ c.in_err-c.ensures)
