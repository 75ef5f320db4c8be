-- The proof of `format::bad_functions`.
use native.Mathlib.Nat.{le_trans}
use native.Mathlib.Omega.{arith}
use mathlib.Core.Path.{refl}
use Rattle.format.proofs.Editions.{limit_small, functions_old, functions_third}
use Rattle.format.proofs.bad_functions.Goals as goal

pub overflow_cast-declared : goal.overflow_cast-declared
overflow_cast-declared c = let few = le_trans c.requires.2 (limit_small c.args.edition) in omega arith

pub bad_records-bad-requires : goal.bad_records-bad-requires
bad_records-bad-requires c = (c.requires.2, c.requires.0, c.function_count-n.ensures.0)

pub returns-then-edition-eq1 : goal.returns-then-edition-eq1
returns-then-edition-eq1 c = functions_old _ _ _ c.args.edition c.args.structures.now _ c.if-edition-eq1.true refl c.requires.2 _ _ c.bad_records-bad.ensures c.high_params-high.ensures

pub returns : goal.returns
returns c = functions_third _ _ _ c.args.edition c.args.structures.now _ c.if-edition-eq1.false refl _ c.bad_records-bad.ensures
