use mathlib.Core.Path.{sym, ◌∙◌}
use native.Mathlib.Omega.{arith}
use Rattle.settle.proofs.settle.Goals as goal

pub shape_of-marks : goal.shape_of-marks
shape_of-marks c = c.loop-b.invariant.sizes.marked ∙ sym c.requires.0.sizes.marked

pub shape_of-need : goal.shape_of-need
shape_of-need c = c.loop-b.invariant.sizes.needs ∙ sym c.requires.0.sizes.needs

pub shape_of-frames : goal.shape_of-frames
shape_of-frames c = c.loop-b.invariant.sizes.framed ∙ sym c.requires.0.sizes.framed

pub begin-requires : goal.begin-requires
begin-requires c = (c.loop-b.invariant, c.requires.1, omega arith)
