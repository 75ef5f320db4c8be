-- The proof of `heap::collect::hold`.
use Rattle.heap.proofs.Sweeps.{holding_none, holding_other, holding_more, holding_all}
use Rattle.heap.specs.Blocks.{entry_at}
use mathlib.Core.Path.{refl, ◌∙◌}
use native.Mathlib.Omega.{arith}
use Rattle.heap.proofs.collect.hold.Goals as goal
use Rattle.heap.proofs.collect.hold.Goals.{then-st-i-eq8, else-st-i-eq8}

pub loop-i-init : goal.loop-i-init
loop-i-init c =
    (holding_none (entry_at c.args.t.now) c.args.count c.args.sp.now c.args.st.now c.args.u.now c.requires.count_in_bounds_2.0 c.requires.count_in_bounds_2.1, refl)

pub note-requires : goal.note-requires
note-requires c =
    (c.requires.count_in_bounds.0, c.requires.count_in_bounds.1, c.requires.count_in_bounds.2, c.loop-i.invariant.0.room)

pub loop-i-preserved : goal.loop-i-preserved
loop-i-preserved c =
    elim c.if-st-i-eq8.branch [
      | then-st-i-eq8 w ↦ rw w.u-is (holding_more (entry_at c.args.t.now) c.args.count c.args.sp.now c.args.st.now c.loop-i.i w.load64-payload.result c.loop-i.invariant.0 w.if-st-i-eq8.true w.load64-payload.ensures.0 w.note.ensures, w.note.ensures.same_length ∙ c.loop-i.invariant.1)
      | else-st-i-eq8 w ↦ rw w.u-is (holding_other (entry_at c.args.t.now) c.args.count c.args.sp.now c.args.st.now c.loop-i.i c.loop-i.invariant.0 w.if-st-i-eq8.false, c.loop-i.invariant.1)
    ]

pub shape_of-u : goal.shape_of-u
shape_of-u c = c.loop-i.invariant.1

pub returns : goal.returns
returns c =
    holding_all (entry_at c.args.t.now) c.args.count c.args.sp.now c.args.st.now c.loop-i.i c.args.h (omega arith) c.loop-i-test.false c.loop-i.invariant.0
