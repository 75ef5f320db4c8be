-- The proof of `rechecker::flags::with_room`.
use Rattle.rechecker.proofs.Laws.{ready_new}
use Rattle.rechecker.proofs.flags.with_room.Goals as goal

pub flags-requires : goal.flags-requires
flags-requires g c = record { ready = ready_new _ _ _ _ _ _ g.row.N c.requires.lends c.requires.tabled.0 c.requires.tabled.1; lends = c.requires.lends; keyed = c.requires.keyed }
