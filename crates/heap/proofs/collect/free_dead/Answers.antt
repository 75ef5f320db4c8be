-- The proof of `heap::collect::free_dead`.
use Rattle.heap.proofs.Sweeps.{sweep_start, sweep_end, sweep_keep, sweep_drop, plain, marked_kept, unmarked_dead}
use native.Mathlib.Omega.{arith}
use Rattle.heap.proofs.collect.free_dead.Goals as goal
use Rattle.heap.proofs.collect.free_dead.Goals.{else-e-ge64-via-then-e-ge64+else-u-j-eq0, else-e-ge64-via-else-e-ge64}

pub loop-j-init : goal.loop-j-init
loop-j-init c =
    sweep_start _ _ _ _ _ _ c.requires.0

pub entry_at-e-requires : goal.entry_at-e-requires
entry_at-e-requires c =
    let z = c.loop-j.invariant in omega (arith, z.under, z.sane.few, z.sane.room_table)

pub bounds-u-j : goal.bounds-u-j
bounds-u-j c =
    let z = c.loop-j.invariant in omega (arith, z.from, c.requires.0.few, c.requires.0.small, c.requires.1.room)

pub remove-q-requires : goal.remove-q-requires
remove-q-requires c =
    let z = c.loop-j.invariant in (z.sane, omega (arith, z.under))

pub loop-j-preserved : goal.loop-j-preserved
loop-j-preserved c =
    let z = c.loop-j.invariant in
    elim c.else-e-ge64.branch [
      | else-e-ge64-via-then-e-ge64+else-u-j-eq0 w ↦ sweep_keep _ _ _ _ _ _ _ _ _ _ z c.loop-j-test.true (marked_kept _ _ _ _ _ _ _ _ _ _ z c.loop-j-test.true _ c.entry_at-e.ensures _ c.requires.1 w.if-e-ge64.true w.if-u-j-eq0.false)
      | else-e-ge64-via-else-e-ge64 w ↦ sweep_keep _ _ _ _ _ _ _ _ _ _ z c.loop-j-test.true (plain _ _ _ _ _ _ _ _ _ _ z c.loop-j-test.true _ c.entry_at-e.ensures w.if-e-ge64.false)
    ]

pub loop-j-preserved-then-u-j-eq0 : goal.loop-j-preserved-then-u-j-eq0
loop-j-preserved-then-u-j-eq0 c =
    let z = c.loop-j.invariant in sweep_drop _ _ _ _ _ _ _ _ _ _ z c.loop-j-test.true (unmarked_dead _ _ _ _ _ _ _ _ _ _ z c.loop-j-test.true _ c.entry_at-e.ensures _ c.requires.1 c.if-e-ge64.true c.if-u-j-eq0.true) _ _ _ c.remove-q.ensures.0 c.remove-q.ensures.1

pub shape_of-p : goal.shape_of-p
shape_of-p c = c.loop-j.invariant.same_cells

pub shape_of-t : goal.shape_of-t
shape_of-t c = c.loop-j.invariant.same_table

pub returns : goal.returns
returns c = sweep_end _ _ _ _ _ _ _ _ _ _ c.loop-j.invariant c.loop-j-test.false
