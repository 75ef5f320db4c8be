-- The proof of `formula::tokens::sum_sign`.
use Rattle.formula.proofs.TokenLaws.{leads_sum, sum_none, sum_end}
use Rattle.rules.specs.Grammar.{plus, dash, is_plus, is_dash}
use native.Mathlib.Omega.{arith}
use mathlib.Core.Path.{refl}
use Rattle.formula.proofs.tokens.sum_sign.Goals as goal

pub returns-then-s-at : goal.returns-then-s-at
returns-then-s-at c = sum_end c.args.s.now c.args.at c.if-s-at.true

pub returns-then-c-eq43 : goal.returns-then-c-eq43
returns-then-c-eq43 c = (plus, 43, is_plus, refl, leads_sum c.args.s.now c.args.at c.skip.result (omega arith) c.skip.ensures c.if-c-eq43.true is_plus)

pub returns-then-c-eq45 : goal.returns-then-c-eq45
returns-then-c-eq45 c = (dash, 45, is_dash, refl, leads_sum c.args.s.now c.args.at c.skip-then-c-eq45.result (omega arith) c.skip-then-c-eq45.ensures c.if-c-eq45.true is_dash)

pub returns : goal.returns
returns c = sum_none c.args.s.now c.args.at (omega arith) c.if-c-eq43.false c.if-c-eq45.false
