use Rattle.climb.proofs.Laws.{note_larger, note_kept}
use Rattle.climb.proofs.walk.note.Goals as goal

pub returns-then-from-x : goal.returns-then-from-x
returns-then-from-x c = note_larger c.args.row.now c.args.k c.args.x _ c.from.ensures c.if-from-x.true

pub returns-else-from-x : goal.returns-else-from-x
returns-else-from-x c = note_kept c.args.row.now c.args.k c.args.x _ c.from.ensures c.if-from-x.false
