-- The proof of `desk::reports::report`.
use Rattle.desk.proofs.Lines.{entry_fills}
use Rattle.desk.proofs.reports.report.Goals as goal

pub returns : goal.returns
returns c = entry_fills _ _ _ c.requires.input_len_bound c.run_report.ensures
