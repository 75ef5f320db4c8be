-- The proof of `convert::deliver_fourth`.
use mathlib.Core.Path.{refl}
use Rattle.editions.specs.Conversions.{edition_is}
use Rattle.convert.proofs.Parts.{up_short, up_written}
use Rattle.convert.proofs.deliver_fourth.Goals as goal

pub returns-then-out-longer : goal.returns-then-out-longer
returns-then-out-longer c = up_short c.args.file.now c.args.c c.requires.0 c.args.out.now c.requires.1 (edition_is 3 c.args.file.now refl c.requires.1).0 c.if-out-longer.true

pub put_fourth-requires : goal.put_fourth-requires
put_fourth-requires c = (c.requires.0, (edition_is 3 c.args.file.now refl c.requires.1).0, c.if-out-longer.false)

pub returns : goal.returns
returns c = up_written c.args.file.now c.args.c c.requires.0 c.args.out.now c.requires.1 (edition_is 3 c.args.file.now refl c.requires.1).0 c.if-out-longer.false _ c.put_fourth.ensures
