-- The proof of `rechecker::check_recording`.
use Rattle.rechecker.proofs.Laws.{recording_refused}
use Rattle.checker.proofs.Verdicts.{refused_check}
use Rattle.reader.proofs.Opening.{opened_packed}
use Rattle.std.proofs.lemmas.Result.{err_from_is_err_and}
use Rattle.rechecker.proofs.check_recording.Goals as goal

pub recording_opened-requires : goal.recording_opened-requires
recording_opened-requires c = (opened_packed _ _ c.in_ok-c.ensures, c.in_ok-c.ensures.0)

pub returns-in_err-c : goal.returns-in_err-c
returns-in_err-c c =
    let p = err_from_is_err_and c.from_residual.result c.from_residual.ensures.1 in
    rw (p.1, p.2) (recording_refused _ _ _ _ (refused_check _ _ _ c.in_err-c.ensures))
