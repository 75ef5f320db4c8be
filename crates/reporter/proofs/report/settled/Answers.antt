use Rattle.reporter.proofs.Settling.{filled_blank, ended_blank, few_rows, low_rows, known_rows}
use mathlib.Core.Path.{sym}
use native.Mathlib.Omega.{arith}
use borrow.Author.Rules.{rules}
use Rattle.reporter.proofs.report.settled.Goals as goal

pub all-requires : goal.all-requires
all-requires c = record { asks = (c.requires.0, c.requires.1); filled = filled_blank _ _ _ c.requires.2 }

pub settle-requires : goal.settle-requires
settle-requires c = (ended_blank _ _ _ (few_rows _ _ _ _ c.requires.0) (search rules) (omega (arith, c.requires.2.0)), low_rows _ _ _ _ c.requires.0 _ _ c.all.ensures)

pub returns : goal.returns
returns c = c.answer.ensures c.args.file.now c.args.room.now (sym c.requires.0.packed.functions_is) (known_rows _ _ _ _ c.requires.0 _ _ _ _ _ c.all.ensures c.settle.ensures)
