-- The proof of `transfer::declared`.
use Rattle.transfer.proofs.Structures.{none_declared, some_declared, fourth_long}
use borrow.Author.Tests.{not-true, not-false}
use mathlib.Core.Path.{sym, ◌∙◌}
use native.Mathlib.Omega.{arith}
use Rattle.transfer.proofs.declared.Goals as goal

pub returns-then-not-some : goal.returns-then-not-some
returns-then-not-some c = none_declared _ (sym c.fourth-some.ensures ∙ not-true _ c.if-not-some.true-raw)

pub word-requires : goal.word-requires
word-requires c = omega (arith, fourth_long _ (c.requires) (sym c.fourth-some.ensures ∙ not-false _ c.if-not-some.false-raw))

pub returns : goal.returns
returns c = c.word.ensures.0 ∙ some_declared _ (sym c.fourth-some.ensures ∙ not-false _ c.if-not-some.false-raw)
