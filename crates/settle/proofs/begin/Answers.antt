use Rattle.settle.proofs.Visiting.{few_unseen, begin_seen, begin_open, begin_visited}
use native.Mathlib.Omega.{arith}
use Rattle.settle.proofs.begin.Goals as goal

pub returns-then-marks-b-gt0 : goal.returns-then-marks-b-gt0
returns-then-marks-b-gt0 c = begin_seen _ _ _ _ _ _ _ c.requires.0 c.if-marks-b-gt0.true

pub visit-requires : goal.visit-requires
visit-requires c = record { sizes = (c.requires.0.sizes, c.requires.0.settled, c.requires.1); b_le_n = (c.requires.2, omega (arith, c.if-marks-b-gt0.false), few_unseen _ _ _ _ _ _ c.requires.0.sizes, begin_open c.args.n c.args.own.now c.args.offsets.now c.args.marks.now c.args.need.now c.args.frames.now c.args.b c.requires.0) }

pub returns : goal.returns
returns c = begin_visited _ _ _ _ _ _ _ _ _ _ c.requires.0 (omega (arith, c.if-marks-b-gt0.false)) c.visit.ensures
