-- The proof of `formula::emit::put_bare`.
use Rattle.formula.proofs.EmitLaws.{front_set}
use Rattle.formula.proofs.emit.put_bare.Goals as goal

pub returns : goal.returns
returns c = front_set c.args.code.now c.args.at c.args.op (c.requires)
