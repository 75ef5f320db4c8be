use Rattle.settle.proofs.Joining.{joined_first, joined_skip, joined_next, joined_end, callee_need, callee_frames}
use native.Mathlib.Omega.{arith}
use Rattle.settle.proofs.join.Goals as goal

pub offset_bounds-own-b : goal.offset_bounds-own-b
offset_bounds-own-b c = omega (arith, c.requires.b_le_n.0, c.requires.b_le_n.1)

pub bounds-own-b : goal.bounds-own-b
bounds-own-b c = omega (arith, c.requires.b_le_n.0, c.requires.b_le_n.1, c.requires.b_le_n.2)

pub next_call-k-requires : goal.next_call-k-requires
next_call-k-requires c = (c.requires.b_le_n.0, omega arith, c.requires.b_le_n.1, c.requires.b_le_n.3)

pub loop-k-init : goal.loop-k-init
loop-k-init c = (c.next_call-k.ensures.within, c.next_call-k.ensures.called, joined_skip _ _ _ _ _ _ _ _ _ _ c.next_call-k.ensures (joined_first _ _ _ _ _))

pub overflow_mul-b : goal.overflow_mul-b
overflow_mul-b c = omega (arith, c.requires.b_le_n.0, c.requires.b_le_n.1)

pub overflow_add-b : goal.overflow_add-b
overflow_add-b c = omega (arith, c.requires.b_le_n.0, c.requires.b_le_n.1, c.loop-k-test)

pub offset_bounds-offsets-b : goal.offset_bounds-offsets-b
offset_bounds-offsets-b c = omega (arith, c.requires.b_le_n.0, c.requires.b_le_n.1, c.loop-k-test)

pub bounds-offsets-b : goal.bounds-offsets-b
bounds-offsets-b c = omega (arith, c.requires.b_le_n.0, c.requires.b_le_n.1, c.requires.b_le_n.3, c.loop-k-test)

pub overflow_sub-a : goal.overflow_sub-a
overflow_sub-a c = omega (arith, c.from-a.ensures, c.loop-k.invariant.1 (omega (arith, c.loop-k-test)))

pub overflow_add-k : goal.overflow_add-k
overflow_add-k c = omega (arith, c.requires.b_le_n.1, c.loop-k-test)

pub offset_bounds-need-k : goal.offset_bounds-need-k
offset_bounds-need-k c = omega (arith, c.requires.b_le_n.1, c.loop-k-test)

pub bounds-need-k : goal.bounds-need-k
bounds-need-k c = omega (arith, c.requires.b_le_n.1, c.requires.b_le_n.4, c.loop-k-test)

pub overflow_add-a : goal.overflow_add-a
overflow_add-a c = omega (arith, c.from-a.ensures, callee_need c.args.offsets.now c.args.need.now c.args.frames.now c.args.b c.args.n c.loop-k.k c.from-a.result c.requires.callees (omega (arith, c.loop-k-test)) c.from-a.ensures (omega (arith, c.from-a.ensures, c.loop-k.invariant.1 (omega (arith, c.loop-k-test)))))

pub overflow_add-k-in-loop-k : goal.overflow_add-k-in-loop-k
overflow_add-k-in-loop-k c = omega (arith, c.requires.b_le_n.1, c.loop-k-test)

pub offset_bounds-frames-k : goal.offset_bounds-frames-k
offset_bounds-frames-k c = omega (arith, c.requires.b_le_n.1, c.loop-k-test)

pub bounds-frames-k : goal.bounds-frames-k
bounds-frames-k c = omega (arith, c.requires.b_le_n.1, c.requires.b_le_n.5, c.loop-k-test)

pub overflow_add-frames : goal.overflow_add-frames
overflow_add-frames c = omega (arith, c.from-a.ensures, callee_frames c.args.offsets.now c.args.need.now c.args.frames.now c.args.b c.args.n c.loop-k.k c.from-a.result c.requires.callees (omega (arith, c.loop-k-test)) c.from-a.ensures (omega (arith, c.from-a.ensures, c.loop-k.invariant.1 (omega (arith, c.loop-k-test)))))

pub overflow_add-k-in-loop-k-2 : goal.overflow_add-k-in-loop-k-2
overflow_add-k-in-loop-k-2 c = omega (arith, c.requires.b_le_n.1, c.loop-k-test)

pub next_call-k-requires-in-loop-k : goal.next_call-k-requires-in-loop-k
next_call-k-requires-in-loop-k c = (c.requires.b_le_n.0, omega (arith, c.loop-k-test), c.requires.b_le_n.1, c.requires.b_le_n.3)

pub loop-k-smaller : goal.loop-k-smaller
loop-k-smaller c = omega (arith, c.loop-k-test, c.next_call-k-in-loop-k.ensures.from)

pub loop-k-preserved : goal.loop-k-preserved
loop-k-preserved c = (c.next_call-k-in-loop-k.ensures.within, c.next_call-k-in-loop-k.ensures.called, joined_skip _ _ _ _ _ _ _ _ _ _ c.next_call-k-in-loop-k.ensures (joined_next _ _ _ _ _ _ _ _ _ _ _ c.loop-k.invariant.2 c.from-a.ensures (omega (arith, c.from-a.ensures, c.loop-k.invariant.1 (omega (arith, c.loop-k-test)))) c.max-x.ensures c.max-y.ensures))

pub returns : goal.returns
returns c = joined_end _ _ _ _ _ _ _ _ _ c.loop-k.invariant.0 (omega (arith, c.loop-k-test)) c.loop-k.invariant.2
