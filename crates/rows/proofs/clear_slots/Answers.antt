-- The proof of `rows::clear_slots`.
use Rattle.rows.proofs.clear_slots.Goals as goal

pub returns : goal.returns
returns c = (c.close.ensures 0).1
