-- The proof of `formula::tokens::product_sign`.
use Rattle.formula.proofs.TokenLaws.{leads_product, product_none, product_end}
use Rattle.rules.specs.Grammar.{star, slash, is_star, is_slash}
use native.Mathlib.Omega.{arith}
use mathlib.Core.Path.{refl}
use Rattle.formula.proofs.tokens.product_sign.Goals as goal

pub returns-then-s-at : goal.returns-then-s-at
returns-then-s-at c = product_end c.args.s.now c.args.at c.if-s-at.true

pub returns-then-c-eq42 : goal.returns-then-c-eq42
returns-then-c-eq42 c = (star, 42, is_star, refl, leads_product c.args.s.now c.args.at c.skip.result (omega arith) c.skip.ensures c.if-c-eq42.true is_star)

pub returns-then-c-eq47 : goal.returns-then-c-eq47
returns-then-c-eq47 c = (slash, 47, is_slash, refl, leads_product c.args.s.now c.args.at c.skip-then-c-eq47.result (omega arith) c.skip-then-c-eq47.ensures c.if-c-eq47.true is_slash)

pub returns : goal.returns
returns c = product_none c.args.s.now c.args.at (omega arith) c.if-c-eq42.false c.if-c-eq47.false
