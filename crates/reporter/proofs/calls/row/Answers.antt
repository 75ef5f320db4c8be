use Prim.Native.Nat.{ℕ}
use mathlib.Core.List.{List}
use Rattle.rules.specs.Tables.{body_of}
use Rattle.tracks.specs.Summing.{Fresh}
use Rattle.reporter.proofs.Filling.{row_is, same_part}
use Rattle.reporter.proofs.calls.row.Goals as goal

pub body-requires : goal.body-requires
body-requires c = record { ready = (c.requires.ready.0, c.requires.ready.1); shown = (c.requires.shown.0, same_part (λ (r : List ℕ). Fresh c.args.file.now (body_of c.args.owner) c.args.marks.now c.args.grounds.now r) c.args.offsets.now c.args.i c.requires.shown.1) }

pub returns : goal.returns
returns c = (c.body.new.row, row_is c.args.offsets.now c.body.new.row c.args.i, c.body.ensures)
