-- The proof of `desk::numbers::put_int`.
use Rattle.desk.proofs.Lending.{lends_more}
use Rattle.desk.proofs.numbers.put_int.Goals as goal

pub returns : goal.returns
returns c = lends_more _ _ _ _ _ _ c.put_slot.ensures.0 c.put_slot.ensures.1 c.requires.0 c.requires.1
