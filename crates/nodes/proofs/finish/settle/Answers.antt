use Rattle.nodes.proofs.Shown.{settled_none, settled_own, settled_record}
use Rattle.nodes.proofs.finish.settle.Goals as goal

pub returns-then-mark-eq0 : goal.returns-then-mark-eq0
returns-then-mark-eq0 c = settled_none c.args.room.now c.args.marks.now c.args.i c.args.k _ c.if-mark-eq0.true c.zero.ensures

pub returns-then-k-i : goal.returns-then-k-i
returns-then-k-i c = settled_own c.args.room.now c.args.marks.now c.args.i c.args.k c.requires.0 c.if-mark-eq0.false c.if-k-i.true

pub returns : goal.returns
returns c = settled_record c.args.room.now c.args.marks.now c.args.i c.args.k _ _ c.if-mark-eq0.false c.load.ensures c.save.ensures
