-- The proof of `desk::text::put_line3`.
use Rattle.desk.proofs.Texts.{line_3}
use Rattle.desk.proofs.text.put_line3.Goals as goal

pub returns : goal.returns
returns c = line_3 _ _ _ _ _ _ _ _ _ c.put_number-e.ensures c.put_line2.ensures
