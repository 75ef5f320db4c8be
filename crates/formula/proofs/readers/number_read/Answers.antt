-- The proof of `formula::readers::number_read`.
use Rattle.formula.proofs.ReaderLaws.{number_wrote}
use mathlib.Core.Path.{refl}
use Rattle.formula.proofs.readers.number_read.Goals as goal

pub returns : goal.returns
returns c = (number_wrote c.args.s.now c.args.code.now c.args.pool.now c.args.c c.args.depth c.args.held _ _ c.args.v c.args.next _ c.requires.0.shallow c.requires.1 c.put_wide.auto.code c.put_constant.auto.pool c.put_wide.ensures c.put_constant.ensures c.max.ensures, refl)
