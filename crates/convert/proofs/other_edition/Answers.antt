-- The proof of `convert::other_edition`.
use native.Mathlib.Omega.{arith}
use mathlib.Core.Path.{◌∙◌}
use Rattle.convert.proofs.Refusals.{under_header, under_fourth, over_header, first_short, first_other}
use Rattle.convert.proofs.other_edition.Goals as goal

pub returns-then-file-lt48 : goal.returns-then-file-lt48
returns-then-file-lt48 c = first_short c.args.edition c.args.file.now (under_header c.args.file.now (omega arith))

pub returns-then-found-file : goal.returns-then-found-file
returns-then-found-file c = first_short c.args.edition c.args.file.now (under_fourth c.args.file.now _ c.word-found.ensures.0 c.if-found-file.true)

pub returns : goal.returns
returns c = first_other c.args.edition c.args.file.now (over_header c.args.file.now _ c.word-found.ensures.0 c.if-found-file.false (omega arith)) (λ q. c.if-found-edition.false (c.word-found.ensures.0 ∙ q))
