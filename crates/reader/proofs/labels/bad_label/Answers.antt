-- The proof of `reader::labels::bad_label`.
use native.Mathlib.Omega.{arith}
use mathlib.Core.List.{[]}
use mathlib.Core.Path.{sym, ◌∙◌}
use borrow.Author.Tests.{not-true, not-false}
use Rattle.reader.proofs.Bodies.{owned_inside, not_owned, owned_marked}
use Rattle.rules.specs.Tables.{bodies}
use Rattle.reader.proofs.labels.bad_label.Goals as goal

pub owned-mine-requires : goal.owned-mine-requires
owned-mine-requires c = (c.requires.filled.fits.few_functions, c.requires.filled.counted)

pub returns-then-not-mine : goal.returns-then-not-mine
returns-then-not-mine c = let B = bodies c.args.edition c.args.functions.now [] c.args.code.now c.args.entry in
    not_owned B c.args.labels.now c.args.i _ _ c.word-owner.ensures.0 c.word-place.ensures.0 (sym c.owned-mine.ensures ∙ not-true c.owned-mine.result c.if-not-mine.true-raw)

pub bounds-starts-place : goal.bounds-starts-place
bounds-starts-place c = omega (arith, owned_inside c.args.edition _ _ _ _ c.requires.filled c.word-owner.result c.word-place.result (sym c.owned-mine.ensures ∙ not-false c.owned-mine.result c.if-not-mine.false-raw))

pub returns : goal.returns
returns c = let B = bodies c.args.edition c.args.functions.now [] c.args.code.now c.args.entry in
    let h = sym c.owned-mine.ensures ∙ not-false c.owned-mine.result c.if-not-mine.false-raw in
    let l = owned_inside c.args.edition _ _ _ _ c.requires.filled c.word-owner.result c.word-place.result h in
    owned_marked B c.args.labels.now c.args.i _ _ c.word-owner.ensures.0 c.word-place.ensures.0 h _ c.requires.starts_exactly (omega arith) (omega arith)
