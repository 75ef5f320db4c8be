use Rattle.rows.proofs.Fold.{inside_0, first_13, first_20, on_cleared, still_empty}
use Rattle.rows.proofs.Opening.{part_0}
use Rattle.rows.specs.Rows.{low_ints}
use Rattle.runs.proofs.Waits.{long_enough}
use Rattle.keys.proofs.Files.{file_keyed}
use borrow.Author.Tests.{not-true, not-false}
use lib.ListN.{length}
use mathlib.Core.List.{List}
use mathlib.Core.Path.{sym, ap, ◌∙◌}
use Prim.Native.Nat.{ℕ, ◌*◌}
use native.Mathlib.Omega.{arith}
use Rattle.rows.proofs.start_rows.Goals as goal

pub slice_bounds-admits_row-end : goal.slice_bounds-admits_row-end
slice_bounds-admits_row-end c = omega (arith, inside_0 c.args.file.now c.requires.1 c.args.c c.args.k c.args.start c.args.end c.args.kinds.now c.args.args.now c.args.out.now c.requires.2 c.args.allowance c.args.p.now c.args.t.now c.args.cells.now c.args.table.now)

pub returns-then-not-low : goal.returns-then-not-low
returns-then-not-low c = (first_13 c.args.file.now c.requires.1 c.args.c c.args.k c.args.start c.args.end c.args.kinds.now c.args.args.now c.args.out.now c.requires.2 c.args.allowance c.args.p.now c.args.t.now c.args.cells.now c.args.table.now (ap (λ (u : List ℕ). low_ints u c.args.kinds.now (length c.args.kinds.now)) (sym (part_0 (length c.args.kinds.now * 8) c.args.args.now)) ∙ sym c.admits_row-low.ensures ∙ not-true _ c.if-not-low.true-raw))

pub returns-then-cap-n : goal.returns-then-cap-n
returns-then-cap-n c = (first_20 c.args.file.now c.requires.1 c.args.c c.args.k c.args.start c.args.end c.args.kinds.now c.args.args.now c.args.out.now c.requires.2 c.args.allowance c.args.p.now c.args.t.now c.args.cells.now c.args.table.now (ap (λ (u : List ℕ). low_ints u c.args.kinds.now (length c.args.kinds.now)) (sym (part_0 (length c.args.kinds.now * 8) c.args.args.now)) ∙ sym c.admits_row-low.ensures ∙ not-false _ c.if-not-low.false-raw) _ _ c.clear_heap.ensures (omega (arith, c.capacity-cap.ensures, c.if-cap-n.true)) (λ j. ((c.slice_known-6-1).given j).fits) (λ j. ((c.slice_known-7-1).given j).fits) _ _ c.clear_slots.ensures)

pub word-edition-requires : goal.word-edition-requires
word-edition-requires c = omega (arith, long_enough _ _ c.requires.0)

pub map_old-requires : goal.map_old-requires
map_old-requires c = record { packed = (c.requires.0, c.requires.1, sym c.word-edition.ensures.0 ∙ c.if-edition-eq1.true); mappable = (c.requires.2, ap (λ (u : List ℕ). low_ints u c.args.kinds.now (length c.args.kinds.now)) (sym (part_0 (length c.args.kinds.now * 8) c.args.args.now)) ∙ sym c.admits_row-low.ensures ∙ not-false _ c.if-not-low.false-raw, omega (arith, c.capacity-cap.ensures, c.if-cap-n.false), still_empty c.args.file.now c.requires.1 c.args.c c.args.k c.args.start c.args.end c.args.kinds.now c.args.args.now c.args.out.now c.requires.2 c.args.allowance c.args.p.now c.args.t.now c.args.cells.now c.args.table.now (ap (λ (u : List ℕ). low_ints u c.args.kinds.now (length c.args.kinds.now)) (sym (part_0 (length c.args.kinds.now * 8) c.args.args.now)) ∙ sym c.admits_row-low.ensures ∙ not-false _ c.if-not-low.false-raw) _ _ c.clear_heap.ensures) }

pub returns-then-edition-eq1 : goal.returns-then-edition-eq1
returns-then-edition-eq1 c = on_cleared c.args.file.now c.requires.1 c.args.c c.args.k c.args.start c.args.end c.args.kinds.now c.args.args.now c.args.out.now c.requires.2 c.args.allowance c.args.p.now c.args.t.now c.args.cells.now c.args.table.now (ap (λ (u : List ℕ). low_ints u c.args.kinds.now (length c.args.kinds.now)) (sym (part_0 (length c.args.kinds.now * 8) c.args.args.now)) ∙ sym c.admits_row-low.ensures ∙ not-false _ c.if-not-low.false-raw) _ _ c.clear_heap.ensures _ _ _ _ _ _ c.map_old.ensures

pub map_rows-requires : goal.map_rows-requires
map_rows-requires c = record { packed = (c.requires.0, c.requires.1, file_keyed _ c.requires.1 _ c.requires.0.code_is (λ z. c.if-edition-eq1.false (c.word-edition.ensures.0 ∙ z))); mappable = (c.requires.2, ap (λ (u : List ℕ). low_ints u c.args.kinds.now (length c.args.kinds.now)) (sym (part_0 (length c.args.kinds.now * 8) c.args.args.now)) ∙ sym c.admits_row-low.ensures ∙ not-false _ c.if-not-low.false-raw, omega (arith, c.capacity-cap.ensures, c.if-cap-n.false), still_empty c.args.file.now c.requires.1 c.args.c c.args.k c.args.start c.args.end c.args.kinds.now c.args.args.now c.args.out.now c.requires.2 c.args.allowance c.args.p.now c.args.t.now c.args.cells.now c.args.table.now (ap (λ (u : List ℕ). low_ints u c.args.kinds.now (length c.args.kinds.now)) (sym (part_0 (length c.args.kinds.now * 8) c.args.args.now)) ∙ sym c.admits_row-low.ensures ∙ not-false _ c.if-not-low.false-raw) _ _ c.clear_heap.ensures) }

pub returns : goal.returns
returns c = on_cleared c.args.file.now c.requires.1 c.args.c c.args.k c.args.start c.args.end c.args.kinds.now c.args.args.now c.args.out.now c.requires.2 c.args.allowance c.args.p.now c.args.t.now c.args.cells.now c.args.table.now (ap (λ (u : List ℕ). low_ints u c.args.kinds.now (length c.args.kinds.now)) (sym (part_0 (length c.args.kinds.now * 8) c.args.args.now)) ∙ sym c.admits_row-low.ensures ∙ not-false _ c.if-not-low.false-raw) _ _ c.clear_heap.ensures _ _ _ _ _ _ c.map_rows.ensures
