use Rattle.rechecker.proofs.Laws.{recording_refused, recording_short, recordable}
use Rattle.checker.proofs.Verdicts.{short_check}
use native.Mathlib.Omega.{arith}
use Rattle.rechecker.proofs.recording_opened.Goals as goal

pub returns-then-room-c : goal.returns-then-room-c
returns-then-room-c c = recording_refused _ _ _ _ (short_check _ c.requires.1 _ (omega (arith, c.if-room-c.true, c.requires.0.labels_is)))

pub overflow_add-bodies : goal.overflow_add-bodies
overflow_add-bodies c = omega (arith, c.requires.0.few_functions)

pub overflow_add-bodies-2 : goal.overflow_add-bodies-2
overflow_add-bodies-2 c = omega (arith, c.requires.0.few_functions)

pub returns-then-beside-bodies : goal.returns-then-beside-bodies
returns-then-beside-bodies c = recording_short _ c.requires.1 _ _ (omega (arith, c.if-room-c.false, c.requires.0.labels_is)) (omega (arith, c.if-beside-bodies.true, c.requires.0.functions_is))

pub check_and_record-requires : goal.check_and_record-requires
check_and_record-requires c = recordable _ _ _ _ c.requires.0 c.requires.1 (omega (arith, c.if-room-c.false)) (omega (arith, c.if-beside-bodies.false))
