-- The proof of `settle::next_call`.
use Rattle.settle.proofs.Joining.{zeros_next}
use native.Mathlib.Omega.{arith}
use Rattle.settle.proofs.next_call.Goals as goal

pub loop-i-init : goal.loop-i-init
loop-i-init c = λ j h l. absurd (omega arith)

pub returns-then-offsets-row-gt0 : goal.returns-then-offsets-row-gt0
returns-then-offsets-row-gt0 c = record { from = omega arith; within = omega arith; skipped = c.loop-i.invariant; called = λ l. c.if-offsets-row-gt0.true }

pub loop-i-preserved : goal.loop-i-preserved
loop-i-preserved c = zeros_next c.args.offsets.now c.args.b c.args.k c.loop-i.i c.loop-i.invariant (omega arith)

pub returns : goal.returns
returns c = record { from = omega arith; within = omega arith; skipped = λ j h l. c.loop-i.invariant j h (omega arith); called = λ l. absurd (omega arith) }
