-- The proof of `formula::tokens::skip_minuses`.
use Rattle.formula.proofs.TokenLaws.{minus_more}
use Rattle.rules.specs.Reading.{factor}
use lib.ListN.{drop}
use native.Mathlib.Omega.{arith}
use mathlib.Core.Path.{◌≡◌, ap}
use Prim.Native.Nat.{ℕ, ◌+◌}
use Rattle.formula.proofs.tokens.skip_minuses.Goals as goal

pub loop-i-init : goal.loop-i-init
loop-i-init c = (omega arith, omega arith, λ f. let q : 0 + f ≡ f = omega arith in ap (λ (k : ℕ). factor k (drop c.args.at c.args.s.now)) q)

pub returns-then-s-i-ne45 : goal.returns-then-s-i-ne45
returns-then-s-i-ne45 c = record { from = omega arith; upto = omega arith; plain = λ h. c.if-s-i-ne45.true; is = c.loop-i.invariant.2 }

pub loop-i-smaller : goal.loop-i-smaller
loop-i-smaller c = omega (arith, c.skip-i.ensures.from, c.skip-i.ensures.upto)

pub loop-i-preserved : goal.loop-i-preserved
loop-i-preserved c = (omega (arith, c.skip-i.ensures.from), c.skip-i.ensures.upto, minus_more c.args.s.now c.args.at c.loop-i.n c.loop-i.i c.skip-i.result (omega arith) c.loop-i-test.true c.if-s-i-ne45.false c.skip-i.ensures c.loop-i.invariant.2)

pub returns : goal.returns
returns c = record { from = omega arith; upto = omega arith; plain = λ h. absurd (omega arith); is = c.loop-i.invariant.2 }
