use Rattle.settle.proofs.Visiting.{reach_seen, reach_open, reach_visited, visit_first, visit_next, visit_loops, visit_callees, visit_settles, visited_from, looked}
use lib.ListN.{length-set}
use native.Mathlib.Omega.{arith}
use mathlib.Core.Path.{sym, ◌∙◌}
use Prim.Native.Nat.{◌+◌}
use Rattle.settle.proofs.+reach_visit.Goals as goal

pub reach-overflow_add-k : goal.reach-overflow_add-k
reach-overflow_add-k t c = omega (arith, c.requires.b_le_n.1, c.requires.sizes.0.few)

pub reach-bounds-marks-k : goal.reach-bounds-marks-k
reach-bounds-marks-k t c = omega (arith, c.requires.b_le_n.1, c.requires.sizes.0.few, c.requires.sizes.0.marked)

pub reach-overflow_add-result : goal.reach-overflow_add-result
reach-overflow_add-result t c = omega (arith, c.requires.b_le_n.1, c.requires.sizes.0.few)

pub reach-bounds-marks-k-then-marks-k-gt0 : goal.reach-bounds-marks-k-then-marks-k-gt0
reach-bounds-marks-k-then-marks-k-gt0 t c = omega (arith, c.requires.b_le_n.1, c.requires.sizes.0.few, c.requires.sizes.0.marked)

pub reach-returns-then-marks-k-gt0 : goal.reach-returns-then-marks-k-gt0
reach-returns-then-marks-k-gt0 t c = reach_seen _ _ _ _ _ _ _ _ _ (omega arith) c.requires.sizes.0 c.requires.sizes.1 c.requires.b_le_n.4 c.requires.b_le_n.1 c.requires.b_le_n.2 c.if-marks-k-gt0.true

pub reach-overflow_add-k-2 : goal.reach-overflow_add-k-2
reach-overflow_add-k-2 t c = omega (arith, c.requires.b_le_n.1, c.requires.sizes.0.few)

pub reach-visit-requires : goal.reach-visit-requires
reach-visit-requires t c = (omega (arith, c.decreases), ((c.requires.sizes.0, c.requires.sizes.1, c.requires.sizes.2), (omega (arith, c.requires.b_le_n.1), omega (arith, c.if-marks-k-gt0.false), c.requires.b_le_n.3, reach_open c.args.n c.args.own.now c.args.offsets.now c.args.marks.now c.args.b c.args.k (c.args.k + 1) (omega arith) c.requires.b_le_n.4 c.requires.b_le_n.1 c.requires.b_le_n.2)))

pub reach-overflow_add-result-2 : goal.reach-overflow_add-result-2
reach-overflow_add-result-2 t c = omega (arith, c.requires.b_le_n.1, c.requires.sizes.0.few)

pub reach-bounds-marks-k-2 : goal.reach-bounds-marks-k-2
reach-bounds-marks-k-2 t c = omega (arith, c.requires.b_le_n.1, c.requires.sizes.0.few, c.visit.ensures.sizes.marked)

pub reach-shape_of-marks : goal.reach-shape_of-marks
reach-shape_of-marks t c = c.visit.ensures.sizes.marked ∙ sym c.requires.sizes.0.marked

pub reach-shape_of-need : goal.reach-shape_of-need
reach-shape_of-need t c = c.visit.ensures.sizes.needs ∙ sym c.requires.sizes.0.needs

pub reach-shape_of-frames : goal.reach-shape_of-frames
reach-shape_of-frames t c = c.visit.ensures.sizes.framed ∙ sym c.requires.sizes.0.framed

pub reach-returns : goal.reach-returns
reach-returns t c = reach_visited _ _ _ _ _ _ _ _ _ _ (omega arith) c.requires.b_le_n.1 c.requires.b_le_n.2 (omega (arith, c.if-marks-k-gt0.false)) c.visit.ensures

pub visit-bounds-marks-b : goal.visit-bounds-marks-b
visit-bounds-marks-b t c = omega (arith, c.requires.b_le_n.0, c.requires.sizes.0.few, c.requires.sizes.0.marked)

pub visit-next_call-k-requires : goal.visit-next_call-k-requires
visit-next_call-k-requires t c = (c.requires.b_le_n.0, omega arith, c.requires.sizes.0.few, c.requires.sizes.0.offs)

pub visit-loop-k-init : goal.visit-loop-k-init
visit-loop-k-init t c = visit_first _ _ _ _ _ _ _ _ _ c.requires.sizes.0 c.requires.sizes.1 c.requires.b_le_n.0 c.requires.b_le_n.1 c.requires.b_le_n.2 c.requires.b_le_n.3 c.next_call-k.ensures

pub visit-overflow_sub-left : goal.visit-overflow_sub-left
visit-overflow_sub-left t c = omega (arith, c.loop-k.invariant.few)

pub visit-reach-ok-requires : goal.visit-reach-ok-requires
visit-reach-ok-requires t c = (omega (arith, c.decreases, c.loop-k.invariant.few), ((c.loop-k.invariant.sizes, c.loop-k.invariant.settled, c.requires.sizes.2), (c.requires.b_le_n.0, omega (arith, c.loop-k-test), c.loop-k.invariant.called (omega (arith, c.loop-k-test)), omega (arith, c.loop-k.invariant.few), c.loop-k.invariant.opened)))

pub visit-overflow_add-k : goal.visit-overflow_add-k
visit-overflow_add-k t c = omega (arith, c.loop-k-test, c.requires.sizes.0.few)

pub visit-next_call-k-requires-in-loop-k : goal.visit-next_call-k-requires-in-loop-k
visit-next_call-k-requires-in-loop-k t c = (c.requires.b_le_n.0, omega (arith, c.loop-k-test), c.requires.sizes.0.few, c.requires.sizes.0.offs)

pub visit-loop-k-smaller : goal.visit-loop-k-smaller
visit-loop-k-smaller t c = omega (arith, c.loop-k-test, c.next_call-k-in-loop-k.ensures.from)

pub visit-loop-k-preserved : goal.visit-loop-k-preserved
visit-loop-k-preserved t c = visit_next _ _ _ _ _ _ _ _ _ _ _ _ _ _ _ _ c.loop-k.invariant c.reach-ok.ensures c.next_call-k-in-loop-k.ensures

pub visit-bounds-marks-b-then-not-fine : goal.visit-bounds-marks-b-then-not-fine
visit-bounds-marks-b-then-not-fine t c = omega (arith, c.requires.b_le_n.0, c.loop-k.invariant.sizes.few, c.loop-k.invariant.sizes.marked)

pub visit-shape_of-marks-then-not-fine : goal.visit-shape_of-marks-then-not-fine
visit-shape_of-marks-then-not-fine t c = length-set c.loop-k.marks c.args.b 3 ∙ c.loop-k.invariant.sizes.marked ∙ sym c.requires.sizes.0.marked

pub visit-shape_of-need-then-not-fine : goal.visit-shape_of-need-then-not-fine
visit-shape_of-need-then-not-fine t c = c.loop-k.invariant.sizes.needs ∙ sym c.requires.sizes.0.needs

pub visit-shape_of-frames-then-not-fine : goal.visit-shape_of-frames-then-not-fine
visit-shape_of-frames-then-not-fine t c = c.loop-k.invariant.sizes.framed ∙ sym c.requires.sizes.0.framed

pub visit-returns-then-not-fine : goal.visit-returns-then-not-fine
visit-returns-then-not-fine t c = visited_from _ _ _ _ _ _ _ _ (omega (arith, c.requires.b_le_n.0, c.requires.sizes.0.few, c.requires.sizes.0.marked)) c.requires.b_le_n.1 (visit_loops _ _ _ _ _ _ _ _ _ _ c.requires.b_le_n.0 (looked _ _ _ _ _ _ _ _ _ _ _ (omega (arith, c.loop-k-test)) c.loop-k.invariant) c.if-not-fine.true)

pub visit-join-p-requires : goal.visit-join-p-requires
visit-join-p-requires t c = record { b_le_n = (c.requires.b_le_n.0, c.loop-k.invariant.sizes.few, c.loop-k.invariant.sizes.owns, c.loop-k.invariant.sizes.offs, c.loop-k.invariant.sizes.needs, c.loop-k.invariant.sizes.framed); callees = visit_callees _ _ _ _ _ _ _ _ _ _ c.requires.sizes.2 (looked _ _ _ _ _ _ _ _ _ _ _ (omega (arith, c.loop-k-test)) c.loop-k.invariant) c.if-not-fine.false }

pub visit-offset_bounds-need-b : goal.visit-offset_bounds-need-b
visit-offset_bounds-need-b t c = omega (arith, c.requires.b_le_n.0, c.requires.sizes.0.few)

pub visit-bounds-need-b : goal.visit-bounds-need-b
visit-bounds-need-b t c = omega (arith, c.requires.b_le_n.0, c.loop-k.invariant.sizes.few, c.loop-k.invariant.sizes.needs)

pub visit-offset_bounds-frames-b : goal.visit-offset_bounds-frames-b
visit-offset_bounds-frames-b t c = omega (arith, c.requires.b_le_n.0, c.requires.sizes.0.few)

pub visit-bounds-frames-b : goal.visit-bounds-frames-b
visit-bounds-frames-b t c = omega (arith, c.requires.b_le_n.0, c.loop-k.invariant.sizes.few, c.loop-k.invariant.sizes.framed)

pub visit-bounds-marks-b-2 : goal.visit-bounds-marks-b-2
visit-bounds-marks-b-2 t c = omega (arith, c.requires.b_le_n.0, c.loop-k.invariant.sizes.few, c.loop-k.invariant.sizes.marked)

pub visit-shape_of-marks : goal.visit-shape_of-marks
visit-shape_of-marks t c = length-set c.loop-k.marks c.args.b 2 ∙ c.loop-k.invariant.sizes.marked ∙ sym c.requires.sizes.0.marked

pub visit-shape_of-need : goal.visit-shape_of-need
visit-shape_of-need t c = length-set c.loop-k.need c.args.b c.join-p.result.need ∙ c.loop-k.invariant.sizes.needs ∙ sym c.requires.sizes.0.needs

pub visit-shape_of-frames : goal.visit-shape_of-frames
visit-shape_of-frames t c = length-set c.loop-k.frames c.args.b c.join-p.result.frames ∙ c.loop-k.invariant.sizes.framed ∙ sym c.requires.sizes.0.framed

pub visit-returns : goal.visit-returns
visit-returns t c = visited_from _ _ _ _ _ _ _ _ (omega (arith, c.requires.b_le_n.0, c.requires.sizes.0.few, c.requires.sizes.0.marked)) c.requires.b_le_n.1 (visit_settles _ _ _ _ _ _ _ _ _ _ c.requires.b_le_n.0 (looked _ _ _ _ _ _ _ _ _ _ _ (omega (arith, c.loop-k-test)) c.loop-k.invariant) c.if-not-fine.false _ _ c.join-p.ensures)
