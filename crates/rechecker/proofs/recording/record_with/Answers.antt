-- The proof of `rechecker::recording::record_with`.
use native.Mathlib.Omega.{arith}
use mathlib.Core.Path.{refl}
use Rattle.rechecker.proofs.Laws.{recording_failed, recording_ones, lends_all}
use Rattle.rechecker.proofs.recording.record_with.Goals as goal

pub set_flags-requires : goal.set_flags-requires
set_flags-requires c = lends_all _ _ _ _ c.requires.recordable.packed c.requires.recordable.readable refl (omega (arith, c.requires.recordable.long))

pub returns-in-Ok : goal.returns-in-Ok
returns-in-Ok c = recording_ones _ _ _ _ c.requires.recordable _ refl _ _ _ refl (rw c.in-Ok.is at c.check_with-answer.ensures.check_is) (rw c.put_head.ensures at c.put_ones.ensures)

pub returns-in-Err : goal.returns-in-Err
returns-in-Err c = recording_failed _ _ _ _ c.requires.recordable _ refl _ _ _ (rw c.in-Err.is at c.check_with-answer.ensures.check_is) (rw c.put_head.ensures at c.set_flags.ensures)
