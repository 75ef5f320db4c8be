use Rattle.reader.proofs.Opening.{opened_packed}
use Rattle.rows.proofs.Opening.{map_unread}
use Rattle.rows.proofs.map.Goals as goal

pub map_opened-requires : goal.map_opened-requires
map_opened-requires c = let o = rw c.in-Ok.is at c.open.ensures in (opened_packed _ _ o, o.0)

pub returns-in-Err : goal.returns-in-Err
returns-in-Err c = map_unread _ _ _ _ _ _ _ _ _ _ _ (rw c.in-Err.is at c.open.ensures)
