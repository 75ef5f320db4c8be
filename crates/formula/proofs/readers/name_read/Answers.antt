-- The proof of `formula::readers::name_read`.
use Rattle.formula.proofs.ReaderLaws.{name_wrote}
use mathlib.Core.Path.{refl}
use Rattle.formula.proofs.readers.name_read.Goals as goal

pub returns : goal.returns
returns c = (name_wrote c.args.s.now c.args.code.now c.args.pool.now c.args.c c.args.depth c.args.held _ c.args.i c.args.next _ c.requires.0.shallow c.requires.1 c.put_wide.auto.code c.put_wide.ensures c.max.ensures, refl)
