-- The proof of `reader::content_refusal`.
use Rattle.reader.proofs.Opening.{sixth, from_bodies}
use Rattle.rules.specs.Tables.{tables}
use mathlib.Core.Path.{refl}
use Rattle.reader.proofs.content_refusal.Goals as goal

pub returns-then-sixth : goal.returns-then-sixth
returns-then-sixth c = sixth (tables c.args.edition c.args.constants.now c.args.functions.now c.args.labels.now c.args.structures.now c.args.code.now c.args.entry) _ refl _ c.bad_constants-sixth.ensures c.if-sixth.true

pub returns : goal.returns
returns c = from_bodies (tables c.args.edition c.args.constants.now c.args.functions.now c.args.labels.now c.args.structures.now c.args.code.now c.args.entry) _ refl _ c.bad_constants-sixth.ensures c.if-sixth.false _ c.bodies_refusal.ensures
