-- The proof of `reporter::report::accepted`.
use Rattle.reporter.proofs.Settling.{few_rows}
use native.Mathlib.Omega.{arith}
use Rattle.reporter.proofs.report.accepted.Goals as goal

pub with_calls-requires : goal.with_calls-requires
with_calls-requires c = record { asks = (c.requires.0, c.requires.1); size = (omega (arith, c.if-c-le6.true), omega arith) }

pub with_calls-requires-2 : goal.with_calls-requires-2
with_calls-requires-2 c = record { asks = (c.requires.0, c.requires.1); size = (omega (arith, few_rows _ _ _ _ c.requires.0), omega arith) }
