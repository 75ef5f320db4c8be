use Rattle.runs.proofs.Waits.{waits, no_overflow, not_left, long_enough}
use Rattle.runs.proofs.Returns.{run_12, run_13, run_17, run_20, room, starts_fit, same_slots, run_over, still_empty}
use Rattle.runs.proofs.Resumed.{still, closed_over, closed_deeper}
use Rattle.keys.proofs.Files.{file_keyed}
use borrow.Author.Tests.{not-true, not-false}
use mathlib.Core.Path.{◌≡◌, refl, ◌∙◌}
use native.Mathlib.Omega.{arith}
use Prim.Native.Nat.{◌-◌}
use Rattle.machine.specs.Ends.{number_of}
use Rattle.runs.proofs.run_opened.Goals as goal

pub returns-in_default : goal.returns-in_default
returns-in_default c = run_12 _ _ _ _ _ _ _ _ _ _ c.requires.1 (rw c.in_default.is at c.find.ensures)

pub admits-requires : goal.admits-requires
admits-requires c = let is = (rw c.in-Some.is at c.find.ensures) in (c.requires.0, is.few, is.declares)

pub returns-then-not-admits : goal.returns-then-not-admits
returns-then-not-admits c = run_13 _ _ _ _ _ _ _ _ _ c.in-Some.b (rw c.in-Some.is at c.find.ensures) _ _ c.requires.1 _ c.admits.ensures (not-true _ c.if-not-admits.true-raw)

pub other_profile-requires : goal.other_profile-requires
other_profile-requires c = let is = (rw c.in-Some.is at c.find.ensures) in (c.requires.0, c.requires.1, is.there)

pub returns-then-other_profile : goal.returns-then-other_profile
returns-then-other_profile c = run_17 _ _ _ _ _ _ _ _ _ c.in-Some.b (rw c.in-Some.is at c.find.ensures) _ _ c.requires.1 _ c.admits.ensures (not-false _ c.if-not-admits.false-raw) _ c.other_profile.ensures c.if-other_profile.true

pub returns-then-cap-n : goal.returns-then-cap-n
returns-then-cap-n c = run_20 _ _ c.args.args.now c.args.kinds.now c.args.p.now c.args.t.now c.args.cells.now c.args.table.now _ c.in-Some.b (rw c.in-Some.is at c.find.ensures) _ c.admits.ensures (not-false _ c.if-not-admits.false-raw) _ c.capacity-cap.ensures _ _ c.clear_heap.ensures _ _ c.requires.1 _ c.other_profile.ensures c.if-other_profile.false c.if-cap-n.true (λ i. (c.slice_known-5-1.given i).fits) (λ i. (c.slice_known-6-1.given i).fits) _ _ _ (c.close-tally.ensures 20)

pub copy_arguments-requires : goal.copy_arguments-requires
copy_arguments-requires c = room _ _ c.args.args.now c.args.kinds.now c.args.p.now c.args.t.now c.args.cells.now c.args.table.now _ c.in-Some.b (rw c.in-Some.is at c.find.ensures) _ c.admits.ensures (not-false _ c.if-not-admits.false-raw) _ c.capacity-cap.ensures c.if-cap-n.false

pub first_frame-first-requires : goal.first_frame-first-requires
first_frame-first-requires c = let is = (rw c.in-Some.is at c.find.ensures) in (omega arith, is.body_fits, is.few)

pub word-edition-requires : goal.word-edition-requires
word-edition-requires c = omega (arith, long_enough _ _ c.requires.0)

pub run_rest-requires : goal.run_rest-requires
run_rest-requires c = record { packed = c.requires; standing = record { slots = same_slots _ _ c.args.args.now c.args.kinds.now c.args.p.now c.args.t.now c.args.cells.now c.args.table.now _ c.in-Some.b (rw c.in-Some.is at c.find.ensures) _ c.admits.ensures (not-false _ c.if-not-admits.false-raw) _ c.capacity-cap.ensures c.if-cap-n.false _ _ _ _ _ c.copy_arguments.ensures 96 refl (omega arith) (omega arith) c.first_frame-first.ensures.0 c.first_frame-first.ensures.1; left = omega arith; fits = starts_fit _ _ c.args.args.now c.args.kinds.now c.args.p.now c.args.t.now c.args.cells.now c.args.table.now _ c.in-Some.b (rw c.in-Some.is at c.find.ensures) _ c.admits.ensures (not-false _ c.if-not-admits.false-raw) _ c.capacity-cap.ensures c.if-cap-n.false _ _ _ _ _ c.copy_arguments.ensures 96 refl (omega arith) (omega arith) c.first_frame-first.ensures.0 c.first_frame-first.ensures.1 c.requires.1; empty = still_empty _ _ c.args.args.now c.args.kinds.now c.args.p.now c.args.t.now c.args.cells.now c.args.table.now _ c.in-Some.b (rw c.in-Some.is at c.find.ensures) _ c.admits.ensures (not-false _ c.if-not-admits.false-raw) _ c.capacity-cap.ensures c.clear_heap.new.cells c.clear_heap.new.table c.clear_heap.ensures } }

pub shape_of-cells-then-edition-eq1 : goal.shape_of-cells-then-edition-eq1
shape_of-cells-then-edition-eq1 c = c.run_rest.auto.cells ∙ c.clear_heap.ensures.same_cells

pub shape_of-table-then-edition-eq1 : goal.shape_of-table-then-edition-eq1
shape_of-table-then-edition-eq1 c = c.run_rest.auto.table ∙ c.clear_heap.ensures.same_table

pub returns-then-edition-eq1 : goal.returns-then-edition-eq1
returns-then-edition-eq1 c = let z : c.args.allowance - c.args.allowance ≡ 0 = omega arith in run_over _ _ c.args.args.now c.args.kinds.now c.args.p.now c.args.t.now c.args.cells.now c.args.table.now _ c.in-Some.b (rw c.in-Some.is at c.find.ensures) _ c.admits.ensures (not-false _ c.if-not-admits.false-raw) _ c.capacity-cap.ensures c.if-cap-n.false _ _ _ _ _ c.copy_arguments.ensures 96 refl (omega arith) (omega arith) c.first_frame-first.ensures.0 c.first_frame-first.ensures.1 _ _ c.requires.1 _ c.other_profile.ensures c.if-other_profile.false c.clear_heap.new.cells c.clear_heap.new.table c.clear_heap.ensures _ _ _ _ _ (rw z at c.run_rest.ensures)

pub run_from-e-requires : goal.run_from-e-requires
run_from-e-requires c = record { packed = c.requires; keyed = (file_keyed _ c.requires.1 _ c.requires.0.code_is (λ q. c.if-edition-eq1.false (c.word-edition.ensures.0 ∙ q)), starts_fit _ _ c.args.args.now c.args.kinds.now c.args.p.now c.args.t.now c.args.cells.now c.args.table.now _ c.in-Some.b (rw c.in-Some.is at c.find.ensures) _ c.admits.ensures (not-false _ c.if-not-admits.false-raw) _ c.capacity-cap.ensures c.if-cap-n.false _ _ _ _ _ c.copy_arguments.ensures 96 refl (omega arith) (omega arith) c.first_frame-first.ensures.0 c.first_frame-first.ensures.1 c.requires.1) }

pub run_rest-requires-then-not-is_over : goal.run_rest-requires-then-not-is_over
run_rest-requires-then-not-is_over c = record { packed = c.requires; standing = record { slots = still _ _ _ _ _ _ _ _ _ _ _ (same_slots _ _ c.args.args.now c.args.kinds.now c.args.p.now c.args.t.now c.args.cells.now c.args.table.now _ c.in-Some.b (rw c.in-Some.is at c.find.ensures) _ c.admits.ensures (not-false _ c.if-not-admits.false-raw) _ c.capacity-cap.ensures c.if-cap-n.false _ _ _ _ _ c.copy_arguments.ensures 96 refl (omega arith) (omega arith) c.first_frame-first.ensures.0 c.first_frame-first.ensures.1) c.run_from-e.ensures; left = c.run_from-e.ensures.left; fits = (c.run_from-e.ensures.resumes (waits (number_of c.run_from-e.result.stop) _ c.is_over.ensures (not-true _ c.if-not-is_over.true-raw))).fits; empty = still_empty _ _ c.args.args.now c.args.kinds.now c.args.p.now c.args.t.now c.args.cells.now c.args.table.now _ c.in-Some.b (rw c.in-Some.is at c.find.ensures) _ c.admits.ensures (not-false _ c.if-not-admits.false-raw) _ c.capacity-cap.ensures c.clear_heap.new.cells c.clear_heap.new.table c.clear_heap.ensures } }

pub shape_of-p-then-not-is_over : goal.shape_of-p-then-not-is_over
shape_of-p-then-not-is_over c = c.run_rest-then-not-is_over.auto.p ∙ c.run_from-e.ensures.same_payloads ∙ c.copy_arguments.ensures.same_payloads

pub shape_of-t-then-not-is_over : goal.shape_of-t-then-not-is_over
shape_of-t-then-not-is_over c = c.run_rest-then-not-is_over.auto.t ∙ c.run_from-e.ensures.same_types ∙ c.copy_arguments.ensures.same_types

pub shape_of-cells-then-not-is_over : goal.shape_of-cells-then-not-is_over
shape_of-cells-then-not-is_over c = c.run_rest-then-not-is_over.auto.cells ∙ c.clear_heap.ensures.same_cells

pub shape_of-table-then-not-is_over : goal.shape_of-table-then-not-is_over
shape_of-table-then-not-is_over c = c.run_rest-then-not-is_over.auto.table ∙ c.clear_heap.ensures.same_table

pub returns-then-not-is_over : goal.returns-then-not-is_over
returns-then-not-is_over c = run_over _ _ c.args.args.now c.args.kinds.now c.args.p.now c.args.t.now c.args.cells.now c.args.table.now _ c.in-Some.b (rw c.in-Some.is at c.find.ensures) _ c.admits.ensures (not-false _ c.if-not-admits.false-raw) _ c.capacity-cap.ensures c.if-cap-n.false _ _ _ _ _ c.copy_arguments.ensures 96 refl (omega arith) (omega arith) c.first_frame-first.ensures.0 c.first_frame-first.ensures.1 _ _ c.requires.1 _ c.other_profile.ensures c.if-other_profile.false c.clear_heap.new.cells c.clear_heap.new.table c.clear_heap.ensures _ _ _ _ _ (closed_deeper _ _ _ _ _ _ _ _ _ _ _ (same_slots _ _ c.args.args.now c.args.kinds.now c.args.p.now c.args.t.now c.args.cells.now c.args.table.now _ c.in-Some.b (rw c.in-Some.is at c.find.ensures) _ c.admits.ensures (not-false _ c.if-not-admits.false-raw) _ c.capacity-cap.ensures c.if-cap-n.false _ _ _ _ _ c.copy_arguments.ensures 96 refl (omega arith) (omega arith) c.first_frame-first.ensures.0 c.first_frame-first.ensures.1) c.run_from-e.ensures c.clear_heap.new.cells c.clear_heap.new.table _ _ _ _ _ 0 _ (omega (arith, c.run_from-e.ensures.left)) (waits (number_of c.run_from-e.result.stop) _ c.is_over.ensures (not-true _ c.if-not-is_over.true-raw)) c.run_rest-then-not-is_over.ensures)

pub close-tally-requires-2 : goal.close-tally-requires-2
close-tally-requires-2 c = (still _ _ _ _ _ _ _ _ _ _ _ (same_slots _ _ c.args.args.now c.args.kinds.now c.args.p.now c.args.t.now c.args.cells.now c.args.table.now _ c.in-Some.b (rw c.in-Some.is at c.find.ensures) _ c.admits.ensures (not-false _ c.if-not-admits.false-raw) _ c.capacity-cap.ensures c.if-cap-n.false _ _ _ _ _ c.copy_arguments.ensures 96 refl (omega arith) (omega arith) c.first_frame-first.ensures.0 c.first_frame-first.ensures.1) c.run_from-e.ensures, c.run_from-e.ensures.high)

pub shape_of-p : goal.shape_of-p
shape_of-p c = c.close-tally-2.auto.p ∙ c.run_from-e.ensures.same_payloads ∙ c.copy_arguments.ensures.same_payloads

pub shape_of-t : goal.shape_of-t
shape_of-t c = c.close-tally-2.auto.t ∙ c.run_from-e.ensures.same_types ∙ c.copy_arguments.ensures.same_types

pub shape_of-cells : goal.shape_of-cells
shape_of-cells c = c.clear_heap.ensures.same_cells

pub shape_of-table : goal.shape_of-table
shape_of-table c = c.clear_heap.ensures.same_table

pub returns : goal.returns
returns c = let z = c.close-tally-2.ensures (number_of c.run_from-e.result.stop) in run_over _ _ c.args.args.now c.args.kinds.now c.args.p.now c.args.t.now c.args.cells.now c.args.table.now _ c.in-Some.b (rw c.in-Some.is at c.find.ensures) _ c.admits.ensures (not-false _ c.if-not-admits.false-raw) _ c.capacity-cap.ensures c.if-cap-n.false _ _ _ _ _ c.copy_arguments.ensures 96 refl (omega arith) (omega arith) c.first_frame-first.ensures.0 c.first_frame-first.ensures.1 _ _ c.requires.1 _ c.other_profile.ensures c.if-other_profile.false c.clear_heap.new.cells c.clear_heap.new.table c.clear_heap.ensures _ _ _ _ _ (closed_over _ _ _ _ _ _ _ _ _ _ _ (same_slots _ _ c.args.args.now c.args.kinds.now c.args.p.now c.args.t.now c.args.cells.now c.args.table.now _ c.in-Some.b (rw c.in-Some.is at c.find.ensures) _ c.admits.ensures (not-false _ c.if-not-admits.false-raw) _ c.capacity-cap.ensures c.if-cap-n.false _ _ _ _ _ c.copy_arguments.ensures 96 refl (omega arith) (omega arith) c.first_frame-first.ensures.0 c.first_frame-first.ensures.1) c.run_from-e.ensures c.clear_heap.new.cells c.clear_heap.new.table _ _ _ (still_empty _ _ c.args.args.now c.args.kinds.now c.args.p.now c.args.t.now c.args.cells.now c.args.table.now _ c.in-Some.b (rw c.in-Some.is at c.find.ensures) _ c.admits.ensures (not-false _ c.if-not-admits.false-raw) _ c.capacity-cap.ensures c.clear_heap.new.cells c.clear_heap.new.table c.clear_heap.ensures) (λ i. (c.slice_known-5-1.given i).fits) (λ i. (c.slice_known-6-1.given i).fits) 0 _ (omega (arith, c.run_from-e.ensures.left)) (λ q. absurd (no_overflow (number_of c.run_from-e.result.stop) _ c.is_over.ensures (not-false _ c.if-not-is_over.false-raw) q)) (not_left (number_of c.run_from-e.result.stop) _ c.is_over.ensures (not-false _ c.if-not-is_over.false-raw)) (c.ended.ensures ∙ z.0, z.1))
