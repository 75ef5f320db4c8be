-- The proof of `writer::deliver`.
use native.Mathlib.Omega.{arith}
use Rattle.rules.specs.Tables.{tables}
use Rattle.writer.proofs.Laws.{small, short_is, takes, written_is}
use Rattle.writer.proofs.deliver.Goals as goal

pub overflow_add-tables-2 : goal.overflow_add-tables-2
overflow_add-tables-2 c = omega (arith, small (tables c.args.edition c.args.constants.now c.args.functions.now c.args.labels.now c.args.structures.now c.args.code.now c.args.entry) c.requires)

pub overflow_add-length : goal.overflow_add-length
overflow_add-length c = omega (arith, small (tables c.args.edition c.args.constants.now c.args.functions.now c.args.labels.now c.args.structures.now c.args.code.now c.args.entry) c.requires)

pub overflow_add-length-2 : goal.overflow_add-length-2
overflow_add-length-2 c = omega (arith, small (tables c.args.edition c.args.constants.now c.args.functions.now c.args.labels.now c.args.structures.now c.args.code.now c.args.entry) c.requires)

pub overflow_add-length-3 : goal.overflow_add-length-3
overflow_add-length-3 c = omega (arith, small (tables c.args.edition c.args.constants.now c.args.functions.now c.args.labels.now c.args.structures.now c.args.code.now c.args.entry) c.requires)

pub returns-then-out-length : goal.returns-then-out-length
returns-then-out-length c = short_is (tables c.args.edition c.args.constants.now c.args.functions.now c.args.labels.now c.args.structures.now c.args.code.now c.args.entry) c.requires c.args.out.now (omega (arith, c.header_size-header.ensures.0))

pub put-requires : goal.put-requires
put-requires c = takes (tables c.args.edition c.args.constants.now c.args.functions.now c.args.labels.now c.args.structures.now c.args.code.now c.args.entry) c.requires c.args.out.now (omega (arith, c.header_size-header.ensures.0))

pub returns : goal.returns
returns c = written_is (tables c.args.edition c.args.constants.now c.args.functions.now c.args.labels.now c.args.structures.now c.args.code.now c.args.entry) c.requires c.args.out.now (omega (arith, c.header_size-header.ensures.0)) _ (omega (arith, c.header_size-header.ensures.0)) _ c.put.ensures
