-- The proof of `reader::bodies_refusal`.
use Rattle.reader.proofs.Opening.{sixth_structures, from_functions, seventh, from_code, from_code_alone}
use Rattle.reader.proofs.Bodies.{filled_of}
use Rattle.rules.specs.Tables.{bodies}
use mathlib.Core.Path.{sym, ◌∙◌}
use Rattle.reader.proofs.bodies_refusal.Goals as goal

pub returns-then-sixth : goal.returns-then-sixth
returns-then-sixth c = sixth_structures (bodies c.args.edition c.args.functions.now c.args.structures.now c.args.code.now c.args.entry) c.args.labels.now _ c.bad_structures-sixth.ensures c.if-sixth.true

pub returns-then-seventh : goal.returns-then-seventh
returns-then-seventh c = from_functions (bodies c.args.edition c.args.functions.now c.args.structures.now c.args.code.now c.args.entry) c.args.labels.now _ c.bad_structures-sixth.ensures c.if-sixth.false _ (seventh c.args.edition c.args.functions.now c.args.structures.now c.args.code.now c.args.entry c.args.labels.now _ c.bad_functions-seventh.ensures c.if-seventh.true)

pub without_labels-requires : goal.without_labels-requires
without_labels-requires c = (filled_of _ _ _ c.args.edition _ c.args.structures.now c.function_count-n.ensures.0 c.requires.0 (sym c.bad_functions-seventh.ensures ∙ c.if-seventh.false), c.requires.1)

pub returns-then-labels-eq0 : goal.returns-then-labels-eq0
returns-then-labels-eq0 c = from_functions (bodies c.args.edition c.args.functions.now c.args.structures.now c.args.code.now c.args.entry) c.args.labels.now _ c.bad_structures-sixth.ensures c.if-sixth.false _ (from_code_alone c.args.edition c.args.functions.now c.args.structures.now c.args.code.now c.args.entry c.args.labels.now _ c.bad_functions-seventh.ensures c.if-seventh.false _ c.if-labels-eq0.true c.without_labels.ensures)

pub sized_refusal-requires : goal.sized_refusal-requires
sized_refusal-requires c = (filled_of _ _ _ c.args.edition _ c.args.structures.now c.function_count-n.ensures.0 c.requires.0 (sym c.bad_functions-seventh.ensures ∙ c.if-seventh.false), c.requires.1)

pub returns : goal.returns
returns c = from_functions (bodies c.args.edition c.args.functions.now c.args.structures.now c.args.code.now c.args.entry) c.args.labels.now _ c.bad_structures-sixth.ensures c.if-sixth.false _ (from_code c.args.edition c.args.functions.now c.args.structures.now c.args.code.now c.args.entry c.args.labels.now _ c.bad_functions-seventh.ensures c.if-seventh.false _ c.sized_refusal.ensures)
