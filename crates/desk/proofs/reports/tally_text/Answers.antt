-- The proof of `desk::reports::tally_text`.
use native.Mathlib.Omega.{arith}
use Rattle.desk.proofs.Lines.{tally_fills}
use Rattle.desk.proofs.reports.tally_text.Goals as goal

pub returns : goal.returns
returns c = tally_fills _ _ _ _ _ _ _ _ _ c.put_line3-at.ensures c.put_slots.ensures c.requires.3 (omega (arith, c.requires.2, c.put_line3-at.auto, c.put_slots.auto))
