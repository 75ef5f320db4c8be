-- The proof of `convert::deliver_third`.
use Rattle.convert.proofs.Parts.{third_places, down_short, down_written}
use Rattle.convert.proofs.deliver_third.Goals as goal

pub overflow_sub-shorter : goal.overflow_sub-shorter
overflow_sub-shorter c = (third_places c.args.file.now c.args.c c.requires.0 c.requires.1).length_over

pub overflow_sub-shorter-2 : goal.overflow_sub-shorter-2
overflow_sub-shorter-2 c = (third_places c.args.file.now c.args.c c.requires.0 c.requires.1).length_left

pub returns-then-out-shorter : goal.returns-then-out-shorter
returns-then-out-shorter c = down_short c.args.file.now c.args.c c.requires.0 c.args.out.now c.requires.3 c.requires.1 c.requires.2 c.if-out-shorter.true

pub returns : goal.returns
returns c = down_written c.args.file.now c.args.c c.requires.0 c.args.out.now c.requires.3 c.requires.1 c.requires.2 c.if-out-shorter.false _ c.put_third.ensures
