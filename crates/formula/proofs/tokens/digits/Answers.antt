-- The proof of `formula::tokens::digits`.
use Rattle.formula.proofs.TokenLaws.{grown_by, digits_step, digits_halt, digits_end, capped_first}
use mathlib.Core.Path.{◌≡◌, sym, ◌∙◌}
use lib.ListN.{length}
use native.Mathlib.Omega.{arith}
use Rattle.formula.proofs.tokens.digits.Goals as goal

pub loop-i-init : goal.loop-i-init
loop-i-init c = (c.args.first, c.past_zeros-i.ensures.from, c.past_zeros-i.ensures.upto, capped_first c.args.first c.requires.1, c.past_zeros-i.ensures.same)

pub returns-then-not-is_digit : goal.returns-then-not-is_digit
returns-then-not-is_digit c = record { number = c.loop-i.invariant.0; is = c.loop-i.invariant.4 ∙ digits_halt c.args.s.now c.loop-i.i c.loop-i.invariant.0 c.loop-i-test.true (sym c.is_digit.ensures ∙ c.if-not-is_digit.true); capped = c.loop-i.invariant.3; from = omega arith; upto = omega arith }

pub grown-value-requires : goal.grown-value-requires
grown-value-requires c = (c.loop-i.invariant.3.below, sym c.is_digit.ensures ∙ c.if-not-is_digit.false)

pub loop-i-preserved : goal.loop-i-preserved
loop-i-preserved c = (_, omega arith, omega arith, grown_by _ _ _ c.grown-value.ensures c.loop-i.invariant.0 c.loop-i.invariant.3, c.loop-i.invariant.4 ∙ digits_step c.args.s.now c.loop-i.i c.loop-i.invariant.0 c.loop-i-test.true (sym c.is_digit.ensures ∙ c.if-not-is_digit.false))

pub returns : goal.returns
returns c = let e : length c.args.s.now ≡ c.loop-i.i = omega arith in
    record { number = c.loop-i.invariant.0; is = rw e (c.loop-i.invariant.4 ∙ digits_end c.args.s.now c.loop-i.i c.loop-i.invariant.0 (omega arith)); capped = c.loop-i.invariant.3; from = omega arith; upto = omega arith }
