use Rattle.climb.proofs.waits.better.Goals as goal

pub key-requires : goal.key-requires
key-requires c = (c.requires.1, c.requires.3 c.args.i c.if-marks-i-ne1.false, c.requires.2.1)

pub key-requires-2 : goal.key-requires-2
key-requires-2 c = (c.requires.0, c.requires.3 c.args.found c.requires.4, c.requires.2.1)
