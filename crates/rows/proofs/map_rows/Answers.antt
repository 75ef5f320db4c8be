use Rattle.rows.proofs.Fold.{next_is, length_row}
use Rattle.rows.specs.Rows.{low_ints}
use mathlib.Core.Bool.{true, false}
use Rattle.rows.proofs.Fold.{begins, slice_is, stage, inside, admits, ends_not, ends_last, ends_13, goes_on, row_next, unused_clear, used_clear, same_cap}
use Rattle.rows.proofs.Fold.{begins, slice_is, stage, inside, admits, ends_not, ends_last, ends_13, goes_on, unused_clear, used_clear, same_cap}
use Rattle.rows.specs.Rows.{Admits}
use borrow.Author.Tests.{not-true, not-false}
use lib.ListN.{length}
use mathlib.Core.List.{List}
use mathlib.Core.Path.{◌≡◌, refl, sym, ap, ◌∙◌, subst}
use Prim.Native.Nat.{ℕ, ◌+◌, ◌*◌, ◌/◌, ◌<◌}
use native.Mathlib.Omega.{arith}
use Rattle.std.specs.Prelude.{None}
use Rattle.std.specs.declared.option.Option.{Option}
use Rattle.rules.specs.declared.Exception.{Exception}
use Rattle.machine.specs.Ends.{number_of}
use Rattle.runs.proofs.Final.{exception_some}
use Rattle.rows.proofs.map_rows.Goals as goal

pub overflow_mul-width : goal.overflow_mul-width
overflow_mul-width c = omega (arith, c.requires.mappable.0.body.few)

pub capacity-cap-requires : goal.capacity-cap-requires
capacity-cap-requires c = tt

pub heap_capacity-size-requires : goal.heap_capacity-size-requires
heap_capacity-size-requires c = tt

pub turn-init : goal.turn-init
turn-init c = (begins c.args.file.now c.requires.packed.1 c.args.c c.args.k c.args.start c.args.end c.args.kinds.now c.args.args.now c.args.out.now c.requires.mappable.0 c.args.allowance c.args.p.now c.args.t.now c.args.cells.now c.args.table.now c.requires.mappable.1 c.requires.mappable.3, refl, omega arith, omega arith)

pub overflow_add-to : goal.overflow_add-to
overflow_add-to c = omega (arith, inside c.args.file.now c.requires.packed.1 c.args.c c.args.k c.args.start c.args.end c.args.kinds.now c.args.args.now c.args.out.now c.requires.mappable.0 c.turn.i c.turn.invariant.0.below, c.turn.invariant.0.at_is)

pub slice_bounds-row-end : goal.slice_bounds-row-end
slice_bounds-row-end c = omega (arith, inside c.args.file.now c.requires.packed.1 c.args.c c.args.k c.args.start c.args.end c.args.kinds.now c.args.args.now c.args.out.now c.requires.mappable.0 c.turn.i c.turn.invariant.0.below, c.turn.invariant.0.at_is)

pub slice_bounds-row-end-in-turn : goal.slice_bounds-row-end-in-turn
slice_bounds-row-end-in-turn c = sym c.turn.invariant.1

pub row-g-requires : goal.row-g-requires
row-g-requires c = record { packed = c.requires.packed; admits = (subst (λ (u : List ℕ). Admits c.args.file.now c.args.c c.args.k c.args.start c.args.end u c.args.kinds.now) (sym (slice_is c.args.file.now c.requires.packed.1 c.args.c c.args.k c.args.start c.args.end c.args.kinds.now c.args.args.now c.args.out.now c.requires.mappable.0 c.args.allowance c.args.p.now c.args.t.now c.args.cells.now c.args.table.now c.turn.i c.turn.at c.turn.out c.turn.p c.turn.t c.turn.cells c.turn.table c.turn.invariant.0)) (admits c.args.file.now c.requires.packed.1 c.args.c c.args.k c.args.start c.args.end c.args.kinds.now c.args.args.now c.args.out.now c.requires.mappable.0 c.turn.i c.turn.invariant.0.below c.turn.invariant.0.low), (rw (c.capacity-cap.ensures, c.heap_capacity-size.ensures) (stage c.args.file.now c.requires.packed.1 c.args.c c.args.k c.args.start c.args.end c.args.kinds.now c.args.args.now c.args.out.now c.requires.mappable.0 c.args.allowance c.args.p.now c.args.t.now c.args.cells.now c.args.table.now c.turn.i c.turn.at c.turn.out c.turn.p c.turn.t c.turn.cells c.turn.table c.turn.invariant.0 c.requires.mappable.2)), c.turn.invariant.1) }

pub clear_slots-requires : goal.clear_slots-requires
clear_slots-requires c = (c.capacity-cap.ensures ∙ same_cap c.args.file.now c.requires.packed.1 c.args.c c.args.k c.args.start c.args.end c.args.kinds.now c.args.args.now c.args.out.now c.requires.mappable.0 c.args.allowance c.args.p.now c.args.t.now c.args.cells.now c.args.table.now c.turn.i c.turn.at c.turn.out c.turn.p c.turn.t c.turn.cells c.turn.table c.turn.invariant.0 _ (slice_is c.args.file.now c.requires.packed.1 c.args.c c.args.k c.args.start c.args.end c.args.kinds.now c.args.args.now c.args.out.now c.requires.mappable.0 c.args.allowance c.args.p.now c.args.t.now c.args.cells.now c.args.table.now c.turn.i c.turn.at c.turn.out c.turn.p c.turn.t c.turn.cells c.turn.table c.turn.invariant.0) _ _ _ _ _ (rw (c.capacity-cap.ensures, c.heap_capacity-size.ensures) at c.row-g.ensures) (λ j. ((c.slice_known-in-turn-1).given j).fits) c.row-g.auto.cells c.row-g.auto.table, c.row-g.ensures.high)

pub shape_of-out-in-Some : goal.shape_of-out-in-Some
shape_of-out-in-Some c = c.turn.invariant.0.same_out

pub shape_of-p-in-Some : goal.shape_of-p-in-Some
shape_of-p-in-Some c = c.clear_slots.auto.p ∙ c.row-g.ensures.same_payloads ∙ c.turn.invariant.0.same_payloads

pub shape_of-t-in-Some : goal.shape_of-t-in-Some
shape_of-t-in-Some c = c.clear_slots.auto.t ∙ c.row-g.ensures.same_types ∙ c.turn.invariant.0.same_types

pub shape_of-cells-in-Some : goal.shape_of-cells-in-Some
shape_of-cells-in-Some c = c.row-g.auto.cells ∙ c.turn.invariant.0.clear.same_cells

pub shape_of-table-in-Some : goal.shape_of-table-in-Some
shape_of-table-in-Some c = c.row-g.auto.table ∙ c.turn.invariant.0.clear.same_table

pub returns-in-Some : goal.returns-in-Some
returns-in-Some c = rw c.in-Some.is at (ends_not c.args.file.now c.requires.packed.1 c.args.c c.args.k c.args.start c.args.end c.args.kinds.now c.args.args.now c.args.out.now c.requires.mappable.0 c.args.allowance c.args.p.now c.args.t.now c.args.cells.now c.args.table.now c.turn.i c.turn.at c.turn.out c.turn.p c.turn.t c.turn.cells c.turn.table c.turn.invariant.0 _ (slice_is c.args.file.now c.requires.packed.1 c.args.c c.args.k c.args.start c.args.end c.args.kinds.now c.args.args.now c.args.out.now c.requires.mappable.0 c.args.allowance c.args.p.now c.args.t.now c.args.cells.now c.args.table.now c.turn.i c.turn.at c.turn.out c.turn.p c.turn.t c.turn.cells c.turn.table c.turn.invariant.0) _ _ _ _ _ (rw (c.capacity-cap.ensures, c.heap_capacity-size.ensures) at c.row-g.ensures) (λ j. ((c.slice_known-in-turn-1).given j).fits) c.row-g.auto.cells c.row-g.auto.table (λ z. exception_some c.in-Some.stop (rw c.in-Some.is at z)) _ _ c.clear_slots.ensures)

pub put_value-requires : goal.put_value-requires
put_value-requires c = (omega (arith, c.turn.invariant.0.below, c.turn.invariant.0.same_out), omega (arith, c.row-g.ensures.high, c.capacity-cap.ensures, c.row-g.ensures.same_payloads, c.turn.invariant.0.same_payloads))

pub overflow_add-i : goal.overflow_add-i
overflow_add-i c = omega (arith, c.turn.invariant.0.below, c.turn.invariant.3)

pub clear_slots-requires-then-i-rows : goal.clear_slots-requires-then-i-rows
clear_slots-requires-then-i-rows c = (c.capacity-cap.ensures ∙ same_cap c.args.file.now c.requires.packed.1 c.args.c c.args.k c.args.start c.args.end c.args.kinds.now c.args.args.now c.args.out.now c.requires.mappable.0 c.args.allowance c.args.p.now c.args.t.now c.args.cells.now c.args.table.now c.turn.i c.turn.at c.turn.out c.turn.p c.turn.t c.turn.cells c.turn.table c.turn.invariant.0 _ (slice_is c.args.file.now c.requires.packed.1 c.args.c c.args.k c.args.start c.args.end c.args.kinds.now c.args.args.now c.args.out.now c.requires.mappable.0 c.args.allowance c.args.p.now c.args.t.now c.args.cells.now c.args.table.now c.turn.i c.turn.at c.turn.out c.turn.p c.turn.t c.turn.cells c.turn.table c.turn.invariant.0) _ _ _ _ _ (rw (c.capacity-cap.ensures, c.heap_capacity-size.ensures) at c.row-g.ensures) (λ j. ((c.slice_known-in-turn-1).given j).fits) c.row-g.auto.cells c.row-g.auto.table, c.row-g.ensures.high)

pub shape_of-out-then-i-rows : goal.shape_of-out-then-i-rows
shape_of-out-then-i-rows c = c.put_value.auto.out ∙ c.turn.invariant.0.same_out

pub shape_of-p-then-i-rows : goal.shape_of-p-then-i-rows
shape_of-p-then-i-rows c = c.clear_slots-then-i-rows.auto.p ∙ c.row-g.ensures.same_payloads ∙ c.turn.invariant.0.same_payloads

pub shape_of-t-then-i-rows : goal.shape_of-t-then-i-rows
shape_of-t-then-i-rows c = c.clear_slots-then-i-rows.auto.t ∙ c.row-g.ensures.same_types ∙ c.turn.invariant.0.same_types

pub shape_of-cells-then-i-rows : goal.shape_of-cells-then-i-rows
shape_of-cells-then-i-rows c = c.row-g.auto.cells ∙ c.turn.invariant.0.clear.same_cells

pub shape_of-table-then-i-rows : goal.shape_of-table-then-i-rows
shape_of-table-then-i-rows c = c.row-g.auto.table ∙ c.turn.invariant.0.clear.same_table

pub returns-then-i-rows : goal.returns-then-i-rows
returns-then-i-rows c = (ends_last c.args.file.now c.requires.packed.1 c.args.c c.args.k c.args.start c.args.end c.args.kinds.now c.args.args.now c.args.out.now c.requires.mappable.0 c.args.allowance c.args.p.now c.args.t.now c.args.cells.now c.args.table.now c.turn.i c.turn.at c.turn.out c.turn.p c.turn.t c.turn.cells c.turn.table c.turn.invariant.0 _ (slice_is c.args.file.now c.requires.packed.1 c.args.c c.args.k c.args.start c.args.end c.args.kinds.now c.args.args.now c.args.out.now c.requires.mappable.0 c.args.allowance c.args.p.now c.args.t.now c.args.cells.now c.args.table.now c.turn.i c.turn.at c.turn.out c.turn.p c.turn.t c.turn.cells c.turn.table c.turn.invariant.0) _ _ _ _ _ (rw (c.capacity-cap.ensures, c.heap_capacity-size.ensures) at c.row-g.ensures) (λ j. ((c.slice_known-in-turn-1).given j).fits) c.row-g.auto.cells c.row-g.auto.table (let z : ◌≡◌ {A = Option Exception} c.row-g.result.ended.stop None = cc in ap number_of z) _ c.put_value.ensures c.if-i-rows.true _ _ c.clear_slots-then-i-rows.ensures)

pub overflow_add-after : goal.overflow_add-after
overflow_add-after c = let m : c.turn.i + 1 < length c.args.out.now / 8 = omega (arith, c.turn.invariant.0.below, c.if-i-rows.false) in let z : (c.turn.i + 1) * (length c.args.kinds.now * 8) ≡ c.turn.i * (length c.args.kinds.now * 8) + length c.args.kinds.now * 8 = row_next c.turn.i _ in omega (arith, inside c.args.file.now c.requires.packed.1 c.args.c c.args.k c.args.start c.args.end c.args.kinds.now c.args.args.now c.args.out.now c.requires.mappable.0 (c.turn.i + 1) m, z, c.turn.invariant.0.at_is, c.turn.invariant.2)

pub slice_bounds-admits_row-end : goal.slice_bounds-admits_row-end
slice_bounds-admits_row-end c = let m : c.turn.i + 1 < length c.args.out.now / 8 = omega (arith, c.turn.invariant.0.below, c.if-i-rows.false) in let z : (c.turn.i + 1) * (length c.args.kinds.now * 8) ≡ c.turn.i * (length c.args.kinds.now * 8) + length c.args.kinds.now * 8 = row_next c.turn.i _ in omega (arith, inside c.args.file.now c.requires.packed.1 c.args.c c.args.k c.args.start c.args.end c.args.kinds.now c.args.args.now c.args.out.now c.requires.mappable.0 (c.turn.i + 1) m, z, c.turn.invariant.0.at_is)

pub admits_row-low-requires : goal.admits_row-low-requires
admits_row-low-requires c = let m : c.turn.i + 1 < length c.args.out.now / 8 = omega (arith, c.turn.invariant.0.below, c.if-i-rows.false) in ap length (next_is c.args.file.now c.requires.packed.1 c.args.c c.args.k c.args.start c.args.end c.args.kinds.now c.args.args.now c.args.out.now c.requires.mappable.0 c.args.allowance c.args.p.now c.args.t.now c.args.cells.now c.args.table.now c.turn.i c.turn.at c.turn.out c.turn.p c.turn.t c.turn.cells c.turn.table c.turn.invariant.0) ∙ length_row c.args.file.now c.requires.packed.1 c.args.c c.args.k c.args.start c.args.end c.args.kinds.now c.args.args.now c.args.out.now c.requires.mappable.0 (c.turn.i + 1) m

pub clear_slots-requires-then-not-low : goal.clear_slots-requires-then-not-low
clear_slots-requires-then-not-low c = (c.capacity-cap.ensures ∙ same_cap c.args.file.now c.requires.packed.1 c.args.c c.args.k c.args.start c.args.end c.args.kinds.now c.args.args.now c.args.out.now c.requires.mappable.0 c.args.allowance c.args.p.now c.args.t.now c.args.cells.now c.args.table.now c.turn.i c.turn.at c.turn.out c.turn.p c.turn.t c.turn.cells c.turn.table c.turn.invariant.0 _ (slice_is c.args.file.now c.requires.packed.1 c.args.c c.args.k c.args.start c.args.end c.args.kinds.now c.args.args.now c.args.out.now c.requires.mappable.0 c.args.allowance c.args.p.now c.args.t.now c.args.cells.now c.args.table.now c.turn.i c.turn.at c.turn.out c.turn.p c.turn.t c.turn.cells c.turn.table c.turn.invariant.0) _ _ _ _ _ (rw (c.capacity-cap.ensures, c.heap_capacity-size.ensures) at c.row-g.ensures) (λ j. ((c.slice_known-in-turn-1).given j).fits) c.row-g.auto.cells c.row-g.auto.table, c.row-g.ensures.high)

pub shape_of-out-then-not-low : goal.shape_of-out-then-not-low
shape_of-out-then-not-low c = c.put_value.auto.out ∙ c.turn.invariant.0.same_out

pub shape_of-p-then-not-low : goal.shape_of-p-then-not-low
shape_of-p-then-not-low c = c.clear_slots-then-not-low.auto.p ∙ c.row-g.ensures.same_payloads ∙ c.turn.invariant.0.same_payloads

pub shape_of-t-then-not-low : goal.shape_of-t-then-not-low
shape_of-t-then-not-low c = c.clear_slots-then-not-low.auto.t ∙ c.row-g.ensures.same_types ∙ c.turn.invariant.0.same_types

pub shape_of-cells-then-not-low : goal.shape_of-cells-then-not-low
shape_of-cells-then-not-low c = c.row-g.auto.cells ∙ c.turn.invariant.0.clear.same_cells

pub shape_of-table-then-not-low : goal.shape_of-table-then-not-low
shape_of-table-then-not-low c = c.row-g.auto.table ∙ c.turn.invariant.0.clear.same_table

pub returns-then-not-low : goal.returns-then-not-low
returns-then-not-low c = let m : c.turn.i + 1 < length c.args.out.now / 8 = omega (arith, c.turn.invariant.0.below, c.if-i-rows.false) in (ends_13 c.args.file.now c.requires.packed.1 c.args.c c.args.k c.args.start c.args.end c.args.kinds.now c.args.args.now c.args.out.now c.requires.mappable.0 c.args.allowance c.args.p.now c.args.t.now c.args.cells.now c.args.table.now c.turn.i c.turn.at c.turn.out c.turn.p c.turn.t c.turn.cells c.turn.table c.turn.invariant.0 _ (slice_is c.args.file.now c.requires.packed.1 c.args.c c.args.k c.args.start c.args.end c.args.kinds.now c.args.args.now c.args.out.now c.requires.mappable.0 c.args.allowance c.args.p.now c.args.t.now c.args.cells.now c.args.table.now c.turn.i c.turn.at c.turn.out c.turn.p c.turn.t c.turn.cells c.turn.table c.turn.invariant.0) _ _ _ _ _ (rw (c.capacity-cap.ensures, c.heap_capacity-size.ensures) at c.row-g.ensures) (λ j. ((c.slice_known-in-turn-1).given j).fits) c.row-g.auto.cells c.row-g.auto.table (let z : ◌≡◌ {A = Option Exception} c.row-g.result.ended.stop None = cc in ap number_of z) _ c.put_value.ensures m (subst (λ (u : List ℕ). low_ints u c.args.kinds.now (length c.args.kinds.now) ≡ false) (next_is c.args.file.now c.requires.packed.1 c.args.c c.args.k c.args.start c.args.end c.args.kinds.now c.args.args.now c.args.out.now c.requires.mappable.0 c.args.allowance c.args.p.now c.args.t.now c.args.cells.now c.args.table.now c.turn.i c.turn.at c.turn.out c.turn.p c.turn.t c.turn.cells c.turn.table c.turn.invariant.0) (sym c.admits_row-low.ensures ∙ not-true _ c.if-not-low.true-raw)) _ _ c.clear_slots-then-not-low.ensures)

pub clear_heap-requires : goal.clear_heap-requires
clear_heap-requires c = tt

pub turn-smaller-then-g : goal.turn-smaller-then-g
turn-smaller-then-g c = omega (arith, c.turn.invariant.0.below)

pub turn-preserved-then-g : goal.turn-preserved-then-g
turn-preserved-then-g c = let m : c.turn.i + 1 < length c.args.out.now / 8 = omega (arith, c.turn.invariant.0.below, c.if-i-rows.false) in (goes_on c.args.file.now c.requires.packed.1 c.args.c c.args.k c.args.start c.args.end c.args.kinds.now c.args.args.now c.args.out.now c.requires.mappable.0 c.args.allowance c.args.p.now c.args.t.now c.args.cells.now c.args.table.now c.turn.i c.turn.at c.turn.out c.turn.p c.turn.t c.turn.cells c.turn.table c.turn.invariant.0 _ (slice_is c.args.file.now c.requires.packed.1 c.args.c c.args.k c.args.start c.args.end c.args.kinds.now c.args.args.now c.args.out.now c.requires.mappable.0 c.args.allowance c.args.p.now c.args.t.now c.args.cells.now c.args.table.now c.turn.i c.turn.at c.turn.out c.turn.p c.turn.t c.turn.cells c.turn.table c.turn.invariant.0) _ _ _ _ _ (rw (c.capacity-cap.ensures, c.heap_capacity-size.ensures) at c.row-g.ensures) (λ j. ((c.slice_known-in-turn-1).given j).fits) c.row-g.auto.cells c.row-g.auto.table (let z : ◌≡◌ {A = Option Exception} c.row-g.result.ended.stop None = cc in ap number_of z) _ c.put_value.ensures m (subst (λ (u : List ℕ). low_ints u c.args.kinds.now (length c.args.kinds.now) ≡ true) (next_is c.args.file.now c.requires.packed.1 c.args.c c.args.k c.args.start c.args.end c.args.kinds.now c.args.args.now c.args.out.now c.requires.mappable.0 c.args.allowance c.args.p.now c.args.t.now c.args.cells.now c.args.table.now c.turn.i c.turn.at c.turn.out c.turn.p c.turn.t c.turn.cells c.turn.table c.turn.invariant.0) (sym c.admits_row-low.ensures ∙ not-false _ c.if-not-low.false-raw)) (c.put_value.auto.out ∙ c.turn.invariant.0.same_out) _ _ (used_clear c.args.file.now c.requires.packed.1 c.args.c c.args.k c.args.start c.args.end c.args.kinds.now c.args.args.now c.args.out.now c.requires.mappable.0 c.args.allowance c.args.p.now c.args.t.now c.args.cells.now c.args.table.now c.turn.i c.turn.at c.turn.out c.turn.p c.turn.t c.turn.cells c.turn.table c.turn.invariant.0 _ (slice_is c.args.file.now c.requires.packed.1 c.args.c c.args.k c.args.start c.args.end c.args.kinds.now c.args.args.now c.args.out.now c.requires.mappable.0 c.args.allowance c.args.p.now c.args.t.now c.args.cells.now c.args.table.now c.turn.i c.turn.at c.turn.out c.turn.p c.turn.t c.turn.cells c.turn.table c.turn.invariant.0) _ _ _ _ _ (rw (c.capacity-cap.ensures, c.heap_capacity-size.ensures) at c.row-g.ensures) (λ j. ((c.slice_known-in-turn-1).given j).fits) c.row-g.auto.cells c.row-g.auto.table _ _ c.clear_heap.ensures), c.row-g.auto.f ∙ c.turn.invariant.1, c.turn.invariant.2, c.turn.invariant.3)

pub turn-smaller : goal.turn-smaller
turn-smaller c = omega (arith, c.turn.invariant.0.below)

pub turn-preserved : goal.turn-preserved
turn-preserved c = let m : c.turn.i + 1 < length c.args.out.now / 8 = omega (arith, c.turn.invariant.0.below, c.if-i-rows.false) in (goes_on c.args.file.now c.requires.packed.1 c.args.c c.args.k c.args.start c.args.end c.args.kinds.now c.args.args.now c.args.out.now c.requires.mappable.0 c.args.allowance c.args.p.now c.args.t.now c.args.cells.now c.args.table.now c.turn.i c.turn.at c.turn.out c.turn.p c.turn.t c.turn.cells c.turn.table c.turn.invariant.0 _ (slice_is c.args.file.now c.requires.packed.1 c.args.c c.args.k c.args.start c.args.end c.args.kinds.now c.args.args.now c.args.out.now c.requires.mappable.0 c.args.allowance c.args.p.now c.args.t.now c.args.cells.now c.args.table.now c.turn.i c.turn.at c.turn.out c.turn.p c.turn.t c.turn.cells c.turn.table c.turn.invariant.0) _ _ _ _ _ (rw (c.capacity-cap.ensures, c.heap_capacity-size.ensures) at c.row-g.ensures) (λ j. ((c.slice_known-in-turn-1).given j).fits) c.row-g.auto.cells c.row-g.auto.table (let z : ◌≡◌ {A = Option Exception} c.row-g.result.ended.stop None = cc in ap number_of z) _ c.put_value.ensures m (subst (λ (u : List ℕ). low_ints u c.args.kinds.now (length c.args.kinds.now) ≡ true) (next_is c.args.file.now c.requires.packed.1 c.args.c c.args.k c.args.start c.args.end c.args.kinds.now c.args.args.now c.args.out.now c.requires.mappable.0 c.args.allowance c.args.p.now c.args.t.now c.args.cells.now c.args.table.now c.turn.i c.turn.at c.turn.out c.turn.p c.turn.t c.turn.cells c.turn.table c.turn.invariant.0) (sym c.admits_row-low.ensures ∙ not-false _ c.if-not-low.false-raw)) (c.put_value.auto.out ∙ c.turn.invariant.0.same_out) _ _ (unused_clear c.args.file.now c.requires.packed.1 c.args.c c.args.k c.args.start c.args.end c.args.kinds.now c.args.args.now c.args.out.now c.requires.mappable.0 c.args.allowance c.args.p.now c.args.t.now c.args.cells.now c.args.table.now c.turn.i c.turn.at c.turn.out c.turn.p c.turn.t c.turn.cells c.turn.table c.turn.invariant.0 _ (slice_is c.args.file.now c.requires.packed.1 c.args.c c.args.k c.args.start c.args.end c.args.kinds.now c.args.args.now c.args.out.now c.requires.mappable.0 c.args.allowance c.args.p.now c.args.t.now c.args.cells.now c.args.table.now c.turn.i c.turn.at c.turn.out c.turn.p c.turn.t c.turn.cells c.turn.table c.turn.invariant.0) _ _ _ _ _ (rw (c.capacity-cap.ensures, c.heap_capacity-size.ensures) at c.row-g.ensures) (λ j. ((c.slice_known-in-turn-1).given j).fits) c.row-g.auto.cells c.row-g.auto.table c.if-g.false), c.row-g.auto.f ∙ c.turn.invariant.1, c.turn.invariant.2, c.turn.invariant.3)
