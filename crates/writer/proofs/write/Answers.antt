-- The proof of `writer::write`.
use mathlib.Core.Path.{◌≡◌, sym}
use Rattle.std.proofs.lemmas.Result.{err_from_is_err_and}
use Rattle.rules.specs.Tables.{tables}
use Rattle.writer.proofs.Laws.{refused_is, no_structures}
use Rattle.writer.proofs.write.Goals as goal

pub returns-in_err-table_refusal : goal.returns-in_err-table_refusal
returns-in_err-table_refusal c = let p = err_from_is_err_and c.from_residual.result c.from_residual.ensures.1 in
    rw (p.1, p.2) (refused_is (tables c.args.edition c.args.constants.now c.args.functions.now c.args.labels.now c.args.structures.now c.args.code.now c.args.entry) c.args.out.now _ c.in_err-table_refusal.ensures)

pub deliver-requires : goal.deliver-requires
deliver-requires c = let q : c.args.edition ≡ 4 = c.if-edition-eq4.true in
    rw q at (sym c.in_ok-table_refusal.ensures)

pub returns-then-edition-eq4 : goal.returns-then-edition-eq4
returns-then-edition-eq4 c = let q : c.args.edition ≡ 4 = c.if-edition-eq4.true in
    rw q c.deliver.ensures

pub deliver-requires-2 : goal.deliver-requires-2
deliver-requires-2 c = let T = tables c.args.edition c.args.constants.now c.args.functions.now c.args.labels.now c.args.structures.now c.args.code.now c.args.entry in
    let good = sym c.in_ok-table_refusal.ensures in
    rw (no_structures T good c.if-edition-eq4.false) at good

pub returns : goal.returns
returns c = let T = tables c.args.edition c.args.constants.now c.args.functions.now c.args.labels.now c.args.structures.now c.args.code.now c.args.entry in
    let none = no_structures T (sym c.in_ok-table_refusal.ensures) c.if-edition-eq4.false in
    rw none c.deliver-2.ensures
