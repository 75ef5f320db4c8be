use Rattle.rules.specs.Tables.{tables}
use Rattle.promises.specs.WritePromised.{write_keeps}
use Rattle.saving.proofs.write.Goals as goal

pub returns : goal.returns
returns c = write_keeps (tables c.args.edition c.args.constants.now c.args.functions.now c.args.labels.now c.args.structures.now c.args.code.now c.args.entry) c.args.out.now _ _ c.write.ensures
