use Rattle.reporter.proofs.Answering.{none_more}
use native.Mathlib.Omega.{arith}
use Rattle.reporter.proofs.report.first_looping.Goals as goal

pub loop-b-init : goal.loop-b-init
loop-b-init c = λ i l e. absurd (omega arith)

pub returns-then-marks-b-eq3 : goal.returns-then-marks-b-eq3
returns-then-marks-b-eq3 c = record { up_to = omega arith; before = c.loop-b.invariant; loops = λ l. omega (arith, c.if-marks-b-eq3.true) }

pub loop-b-preserved : goal.loop-b-preserved
loop-b-preserved c = none_more c.args.marks.now c.loop-b.b c.loop-b.invariant c.if-marks-b-eq3.false

pub returns : goal.returns
returns c = record { up_to = omega arith; before = λ i l. c.loop-b.invariant i (omega arith); loops = λ l. absurd (omega arith) }
