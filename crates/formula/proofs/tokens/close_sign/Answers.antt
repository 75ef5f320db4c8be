-- The proof of `formula::tokens::close_sign`.
use Rattle.formula.proofs.TokenLaws.{leads_close, close_none, close_end}
use native.Mathlib.Omega.{arith}
use Rattle.formula.proofs.tokens.close_sign.Goals as goal

pub returns-then-s-at : goal.returns-then-s-at
returns-then-s-at c = close_end c.args.s.now c.args.at c.if-s-at.true

pub returns-then-s-at-eq41 : goal.returns-then-s-at-eq41
returns-then-s-at-eq41 c = leads_close c.args.s.now c.args.at c.skip.result (omega arith) c.skip.ensures c.if-s-at-eq41.true

pub returns : goal.returns
returns c = close_none c.args.s.now c.args.at (omega arith) c.if-s-at-eq41.false
