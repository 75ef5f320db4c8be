-- The proof of `formula::tokens::skip`.
use Rattle.formula.proofs.TokenLaws.{skip_step, skip_stop, skip_end}
use mathlib.Core.Path.{refl, ◌∙◌}
use native.Mathlib.Omega.{arith}
use Rattle.formula.proofs.tokens.skip.Goals as goal

pub loop-i-init : goal.loop-i-init
loop-i-init c = (omega arith, omega arith, refl)

pub returns-then-s-i-ne32 : goal.returns-then-s-i-ne32
returns-then-s-i-ne32 c = record { from = omega arith; upto = omega arith; rest = skip_stop c.args.s.now c.loop-i.i c.loop-i-test.true c.if-s-i-ne32.true ∙ c.loop-i.invariant.2 }

pub loop-i-preserved : goal.loop-i-preserved
loop-i-preserved c = (omega arith, omega arith, skip_step c.args.s.now c.loop-i.i c.loop-i-test.true c.if-s-i-ne32.false ∙ c.loop-i.invariant.2)

pub returns : goal.returns
returns c = record { from = omega arith; upto = omega arith; rest = skip_end c.args.s.now c.loop-i.i (omega arith) ∙ c.loop-i.invariant.2 }
