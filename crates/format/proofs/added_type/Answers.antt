-- The proof of `format::added_type`.
use native.Mathlib.Nat.{le_trans}
use native.Mathlib.Omega.{arith}
use borrow.Author.Tests.{eq-eqb}
use Rattle.format.proofs.Editions.{limit_small, none_added}
use Rattle.format.proofs.added_type.Goals as goal

pub returns-then-types-ne4 : goal.returns-then-types-ne4
returns-then-types-ne4 c = none_added _ _ c.args.t c.if-types-ne4.true c.requires

pub overflow_add-structure : goal.overflow_add-structure
overflow_add-structure c = let few = le_trans c.requires (limit_small c.args.types) in omega arith

pub overflow_add-result : goal.overflow_add-result
overflow_add-result c = let few = le_trans c.requires (limit_small c.args.types) in omega arith

pub returns : goal.returns
returns c = simp (eq-eqb _ 4 c.if-types-ne4.false)
