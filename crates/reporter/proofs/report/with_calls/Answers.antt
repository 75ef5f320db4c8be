-- The proof of `reporter::report::with_calls`.
use Rattle.reporter.proofs.Settling.{blank_rows}
use Rattle.reporter.proofs.report.with_calls.Goals as goal

pub settled-requires : goal.settled-requires
settled-requires g c = (c.requires.asks.0, c.requires.asks.1, blank_rows _ g.row.N c.requires.size.0)
