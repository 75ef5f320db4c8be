-- The proof of `control::calls::open_frame`.
use native.Mathlib.Omega.{arith}
use mathlib.Core.Path.{ap, ◌∙◌}
use lib.ListN.{length, length-set}
use Rattle.control.proofs.Frames.{length_opened}
use Rattle.control.specs.Control.{opened_in}
use Rattle.control.proofs.calls.open_frame.Goals as goal

pub bounds-f-a-2 : goal.bounds-f-a-2
bounds-f-a-2 c = simp length-set (omega arith)

pub bounds-f-a-3 : goal.bounds-f-a-3
bounds-f-a-3 c = simp length-set (omega arith)

pub shape_of-f : goal.shape_of-f
unfolding opened_in
shape_of-f c = ap length c.bind_arguments.ensures ∙ length_opened c.args.f.now c.args.a c.args.body c.args.base c.args.n

pub returns : goal.returns
unfolding opened_in
returns c = c.bind_arguments.ensures
