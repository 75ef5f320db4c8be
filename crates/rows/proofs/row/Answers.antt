use Rattle.control.proofs.Frames.{length_opened}
use lib.ListN.{length}
use mathlib.Core.Path.{ap}
use mathlib.Core.Path.{◌∙◌}
use Rattle.rows.proofs.Started.{row_room, row_fits, row_is}
use Rattle.rows.proofs.row.Goals as goal

pub copy_arguments-requires : goal.copy_arguments-requires
copy_arguments-requires c = row_room c.args.file.now c.args.c c.args.k c.args.start c.args.end c.args.args.now c.args.kinds.now c.args.p.now c.args.t.now c.args.cells.now c.args.table.now c.requires.admits.0 c.args.cap c.args.size c.requires.admits.1

pub run_row-requires : goal.run_row-requires
run_row-requires c = record { packed = c.requires.packed; fits = (row_fits c.args.file.now c.args.c c.args.k c.args.start c.args.end c.args.args.now c.args.kinds.now c.args.p.now c.args.t.now c.args.cells.now c.args.table.now c.requires.admits.0 c.args.cap c.args.size c.requires.admits.1 _ _ c.args.f.now _ _ c.copy_arguments.ensures c.requires.admits.2 c.first_frame-first.ensures.0 c.first_frame-first.ensures.1 c.requires.packed.1, c.requires.admits.1.empty, ap length c.first_frame-first.ensures.1 ∙ length_opened c.args.f.now 0 _ 0 _ ∙ c.requires.admits.2) }

pub shape_of-p : goal.shape_of-p
shape_of-p c = c.run_row.ensures.0.same_payloads ∙ c.copy_arguments.ensures.same_payloads

pub returns : goal.returns
returns c = row_is c.args.file.now c.args.c c.args.k c.args.start c.args.end c.args.args.now c.args.kinds.now c.args.p.now c.args.t.now c.args.cells.now c.args.table.now c.requires.admits.0 c.args.cap c.args.size c.requires.admits.1 _ _ c.args.f.now _ _ c.copy_arguments.ensures c.requires.admits.2 c.first_frame-first.ensures.0 c.first_frame-first.ensures.1 _ _ _ _ _ _ c.run_row.ensures
