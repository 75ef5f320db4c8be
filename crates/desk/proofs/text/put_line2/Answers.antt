-- The proof of `desk::text::put_line2`.
use Rattle.desk.proofs.Texts.{line_2}
use Rattle.desk.proofs.text.put_line2.Goals as goal

pub returns : goal.returns
returns c = line_2 _ _ _ _ _ _ _ _ c.put_number-e.ensures c.put_number.ensures
