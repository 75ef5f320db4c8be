-- The proof of `transfer::new`.
use Rattle.transfer.proofs.Structures.{made_low, new_none, new_pushes}
use Rattle.soundness.specs.Readable.{pointer_back}
use borrow.Author.Tests.{not-true, not-false}
use native.Mathlib.Omega.{arith}
use mathlib.Core.Path.{sym, ◌∙◌}
use Rattle.transfer.proofs.new.Goals as goal

pub returns-then-not-there : goal.returns-then-not-there
returns-then-not-there c = λ g is m b d. new_none m _ d b g _ _ _ (sym c.makes-there.ensures ∙ not-true _ c.if-not-there.true-raw) c.requires.0

pub overflow_cast-k-2 : goal.overflow_cast-k-2
overflow_cast-k-2 c = let l = made_low c.args.structures c.args.n c.requires.1 (sym c.makes-there.ensures ∙ not-false _ c.if-not-there.false-raw) in omega (arith, l)

pub overflow_add-null : goal.overflow_add-null
overflow_add-null c = let l = made_low c.args.structures c.args.n c.requires.1 (sym c.makes-there.ensures ∙ not-false _ c.if-not-there.false-raw) in omega (arith, l, c.requires.3)

pub push_type-requires : goal.push_type-requires
push_type-requires c = (c.requires.0, pointer_back _ (omega (arith, c.requires.2)))

pub returns : goal.returns
returns c = λ g is m b d. new_pushes m _ d b g _ _ c.args.st.now c.requires.1 (sym c.makes-there.ensures ∙ not-false _ c.if-not-there.false-raw) _ is _ _ c.push_type.ensures
