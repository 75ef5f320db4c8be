-- The proof of `writer::table_refusal`.
use Rattle.rules.specs.Writing.{table_refusal, too_many, broken}
use Rattle.rules.specs.Tables.{first_of}
use Rattle.writer.proofs.Laws.{counted_over, fits_of}
use Rattle.writer.proofs.table_refusal.Goals as goal

pub returns-then-edition : goal.returns-then-edition
unfolding table_refusal first_of
returns-then-edition c = simp c.if-edition.true

pub returns-then-over : goal.returns-then-over
unfolding table_refusal too_many first_of
returns-then-over c = let over = counted_over c.args.edition c.args.constants.now c.args.functions.now c.args.labels.now c.args.code.now c.args.structures.now _ c.function_count-function_count.ensures.0 _ c.over_limits-over.ensures in
    simp (c.if-edition.false, ← over, c.if-over.true)

pub returns-then-broken : goal.returns-then-broken
unfolding table_refusal too_many broken first_of
returns-then-broken c = let over = counted_over c.args.edition c.args.constants.now c.args.functions.now c.args.labels.now c.args.code.now c.args.structures.now _ c.function_count-function_count.ensures.0 _ c.over_limits-over.ensures in
    let broken = rw c.function_rest-function_rest.ensures at c.if-broken.true in
    simp (c.if-edition.false, ← over, c.if-over.false, broken)

pub content_refusal-requires : goal.content_refusal-requires
content_refusal-requires c = let over = counted_over c.args.edition c.args.constants.now c.args.functions.now c.args.labels.now c.args.code.now c.args.structures.now _ c.function_count-function_count.ensures.0 _ c.over_limits-over.ensures in
    let broken = rw c.function_rest-function_rest.ensures at c.if-broken.false in
    let fit = fits_of c.args.edition c.args.constants.now c.args.functions.now c.args.labels.now c.args.code.now c.args.structures.now c.args.entry _ over c.if-over.false broken in
    (fit.0, c.if-edition.false, fit.1)

pub returns : goal.returns
unfolding table_refusal too_many broken first_of
returns c = let over = counted_over c.args.edition c.args.constants.now c.args.functions.now c.args.labels.now c.args.code.now c.args.structures.now _ c.function_count-function_count.ensures.0 _ c.over_limits-over.ensures in
    let broken = rw c.function_rest-function_rest.ensures at c.if-broken.false in
    simp (c.if-edition.false, ← over, c.if-over.false, broken) c.content_refusal.ensures
