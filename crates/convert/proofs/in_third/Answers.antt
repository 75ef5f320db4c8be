-- The proof of `convert::in_third`.
use Rattle.convert.proofs.Down.{structures_newer, not_down}
use Rattle.convert.proofs.in_third.Goals as goal

pub returns-then-c-ne0 : goal.returns-then-c-ne0
returns-then-c-ne0 c = not_down c.args.file.now c.args.c (structures_newer c.args.file.now c.args.c c.requires.packed c.if-c-ne0.true)
