-- The proof of `climb::waits::last`.
use native.Mathlib.Omega.{arith}
use Rattle.climb.proofs.Nodes.{last_more}
use Rattle.climb.proofs.waits.last.Goals as goal

pub loop-i-init : goal.loop-i-init
loop-i-init c = λ n l u. absurd (omega arith)

pub returns-then-marks-i-eq1 : goal.returns-then-marks-i-eq1
returns-then-marks-i-eq1 c = record { over = omega arith; up_to = omega arith; behind = λ n l u. c.loop-i.invariant n (omega arith) u }

pub loop-i-preserved : goal.loop-i-preserved
loop-i-preserved c = last_more c.args.marks.now c.loop-i.i c.args.high (omega arith) c.loop-i.invariant c.if-marks-i-eq1.false

pub returns : goal.returns
returns c = record { over = omega arith; up_to = omega arith; behind = λ n l u. c.loop-i.invariant n (omega arith) u }
