-- The proof of `formula::tokens::past_zeros`.
use Rattle.formula.proofs.TokenLaws.{zero_step}
use mathlib.Core.Path.{◌≡◌, refl, ◌∙◌}
use lib.ListN.{length}
use native.Mathlib.Omega.{arith}
use Rattle.formula.proofs.tokens.past_zeros.Goals as goal

pub returns-then-first-ne0 : goal.returns-then-first-ne0
returns-then-first-ne0 c = record { from = omega arith; upto = omega arith; same = refl }

pub loop-i-init : goal.loop-i-init
loop-i-init c = (omega arith, omega arith, refl)

pub returns-then-s-i-ne48 : goal.returns-then-s-i-ne48
returns-then-s-i-ne48 c = record { from = omega arith; upto = omega arith; same = c.loop-i.invariant.2 }

pub loop-i-preserved : goal.loop-i-preserved
loop-i-preserved c = (omega arith, omega arith, c.loop-i.invariant.2 ∙ zero_step c.args.s.now c.loop-i.i c.args.first c.loop-i-test.true c.if-first-ne0.false c.if-s-i-ne48.false)

pub returns : goal.returns
returns c = let e : length c.args.s.now ≡ c.loop-i.i = omega arith in
    record { from = omega arith; upto = omega arith; same = rw e c.loop-i.invariant.2 }
