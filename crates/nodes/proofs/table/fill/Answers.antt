use Rattle.nodes.proofs.Numbering.{filled_first, filled_next, filled_all, place_fits}
use lib.ListN.{length-set}
use native.Mathlib.Omega.{arith}
use mathlib.Core.Path.{◌≡◌, refl, ◌∙◌}
use Prim.Native.Nat.{◌-◌}
use Rattle.nodes.proofs.table.fill.Goals as goal

pub loop-i-init : goal.loop-i-init
loop-i-init c = (omega (arith, c.requires.readable.0.labels_is), filled_first _ _ _ c.requires.readable.0 c.requires.extent_in_bounds.0 c.requires.extent_in_bounds.1, refl)

pub place_of-p-requires : goal.place_of-p-requires
place_of-p-requires c = (c.requires.readable, omega (arith, c.requires.readable.0.labels_is, c.loop-i.invariant.0, c.loop-i-test))

pub overflow_add-table : goal.overflow_add-table
overflow_add-table c = omega (arith, c.requires.readable.0.labels_is, c.requires.readable.0.few_labels, c.loop-i.invariant.0)

pub overflow_cast-table : goal.overflow_cast-table
overflow_cast-table c = omega (arith, c.requires.readable.0.labels_is, c.requires.readable.0.few_labels, c.loop-i.invariant.0)

pub offset_bounds-table-p : goal.offset_bounds-table-p
offset_bounds-table-p c = omega (arith, c.place_of-p.ensures.1, c.requires.readable.0.little_code)

pub bounds-table-p : goal.bounds-table-p
bounds-table-p c = place_fits _ c.requires.readable.1 _ (c.loop-i.i - 1) _ _ (omega (arith, c.loop-i.invariant.0, c.loop-i-test)) c.place_of-p.ensures.0 c.loop-i.invariant.1

pub loop-i-preserved : goal.loop-i-preserved
loop-i-preserved c = (omega (arith, c.loop-i.invariant.0), filled_next _ c.requires.readable.1 _ _ _ (omega arith) c.loop-i.invariant.0 c.place_of-p.ensures.0 c.loop-i.invariant.1, length-set c.loop-i.table _ _ ∙ c.loop-i.invariant.2)

pub shape_of-table : goal.shape_of-table
shape_of-table c = c.loop-i.invariant.2

pub returns : goal.returns
returns c = filled_all _ _ (let z : c.loop-i.i ≡ 0 = omega arith in rw z at c.loop-i.invariant.1)
