-- The proof of `climb::waits::first`.
use native.Mathlib.Omega.{arith}
use Rattle.climb.proofs.Nodes.{first_more}
use Rattle.climb.proofs.waits.first.Goals as goal

pub loop-i-init : goal.loop-i-init
loop-i-init c = λ n l u. absurd (omega arith)

pub returns-then-marks-i-eq1 : goal.returns-then-marks-i-eq1
returns-then-marks-i-eq1 c = record { from = omega arith; before = c.loop-i.invariant; waits = λ h. c.if-marks-i-eq1.true }

pub loop-i-preserved : goal.loop-i-preserved
loop-i-preserved c = first_more c.args.marks.now c.args.low c.loop-i.i c.loop-i.invariant c.if-marks-i-eq1.false

pub returns : goal.returns
returns c = record { from = omega (arith, c.max.ensures); before = λ n l u. c.loop-i.invariant n l (omega (arith, c.max.ensures)); waits = λ h. absurd (omega (arith, c.max.ensures)) }
