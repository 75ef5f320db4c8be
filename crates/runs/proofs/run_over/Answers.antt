use mathlib.Core.Logic.{inr}
use Rattle.runs.proofs.Over.{begins, ended, goes_on, returned, stopped}
use Rattle.access.proofs.Structures.{plain_file}
use Rattle.machine.proofs.Turns.{says}
use Rattle.keys.proofs.Files.{code_part}
use borrow.Author.Tests.{not-true, not-false}
use mathlib.Core.Path.{refl, sym, ◌∙◌}
use native.Mathlib.Omega.{arith}
use Rattle.runs.proofs.run_over.Goals as goal

pub slice_bounds-code-count : goal.slice_bounds-code-count
slice_bounds-code-count c = omega (arith, c.requires.packed.2.inside)

pub slice_bounds-code-start : goal.slice_bounds-code-start
slice_bounds-code-start c = omega (arith, c.requires.packed.2.inside)

pub slice_bounds-code-end : goal.slice_bounds-code-end
slice_bounds-code-end c = omega (arith, c.requires.packed.2.inside)

pub loop-code-init : goal.loop-code-init
loop-code-init c = begins _ _ _ _ _ _ _ _ _ _ _ (plain_file _ c.requires.packed.1) c.requires.fits.0 c.requires.fits.1 (λ i. (c.slice_known-4-1.given i).fits) (λ i. (c.slice_known-5-1.given i).fits) refl refl

pub run_from-g-requires : goal.run_from-g-requires
run_from-g-requires c = record { packed = (c.requires.packed.0, c.requires.packed.1); keyed = (c.requires.packed.2, c.loop-code.invariant.fits) }

pub shape_of-p-then-not-left : goal.shape_of-p-then-not-left
shape_of-p-then-not-left c = c.run_from-g.ensures.same_payloads ∙ c.loop-code.invariant.same_payloads

pub shape_of-t-then-not-left : goal.shape_of-t-then-not-left
shape_of-t-then-not-left c = c.run_from-g.ensures.same_types ∙ c.loop-code.invariant.same_types

pub shape_of-f-then-not-left : goal.shape_of-f-then-not-left
shape_of-f-then-not-left c = c.run_from-g.ensures.same_words ∙ c.loop-code.invariant.same_words

pub shape_of-cells-then-not-left : goal.shape_of-cells-then-not-left
shape_of-cells-then-not-left c = c.loop-code.invariant.same_cells

pub shape_of-table-then-not-left : goal.shape_of-table-then-not-left
shape_of-table-then-not-left c = c.loop-code.invariant.same_table

pub returns-then-not-left : goal.returns-then-not-left
returns-then-not-left c = ended _ c.requires.packed.1 _ _ _ _ _ _ _ _ _ _ _ _ _ _ _ _ _ c.loop-code.invariant _ _ _ _ c.run_from-g.ensures c.requires.fits.2 (sym c.left.ensures ∙ not-true _ c.if-not-left.true-raw)

pub step-requires : goal.step-requires
step-requires c =
    let yes = sym c.left.ensures ∙ not-false _ c.if-not-left.false-raw in
    let waits = c.run_from-g.ensures.deferred yes in
    let there = (c.run_from-g.ensures.resumes (inr yes)).fits in
    let said = says _ c.requires.packed.1 _ _ _ _ _ there _ _ c.requires.packed.2 _ (code_part c.args.source.now c.args.from) waits.inside waits.instruction.instruction waits.instruction.found in
    record { packed = (c.requires.packed.0, c.requires.packed.1); place_lt_stop = (waits.inside, (_, said, waits.instruction.needs)); ready_on = ((_, there.ready), there.fit.slots); heap_ready = c.loop-code.invariant.heap_ready }

pub overflow_sub-rest : goal.overflow_sub-rest
overflow_sub-rest c = omega (arith, (c.run_from-g.ensures.deferred (sym c.left.ensures ∙ not-false _ c.if-not-left.false-raw)).more)

pub loop-code-smaller : goal.loop-code-smaller
loop-code-smaller c = omega (arith, (c.run_from-g.ensures.deferred (sym c.left.ensures ∙ not-false _ c.if-not-left.false-raw)).more, c.run_from-g.ensures.left)

pub loop-code-preserved : goal.loop-code-preserved
loop-code-preserved c =
    let yes = sym c.left.ensures ∙ not-false _ c.if-not-left.false-raw in
    let waits = c.run_from-g.ensures.deferred yes in
    let there = (c.run_from-g.ensures.resumes (inr yes)).fits in
    let said = says _ c.requires.packed.1 _ _ _ _ _ there _ _ c.requires.packed.2 _ (code_part c.args.source.now c.args.from) waits.inside waits.instruction.instruction waits.instruction.found in
    goes_on _ c.requires.packed.1 _ _ _ _ _ _ _ _ _ _ _ _ _ _ _ _ _ c.loop-code.invariant _ _ _ _ c.run_from-g.ensures yes _ _ _ _ _ (λ i. (c.slice_known-in-loop-code-6-1.given i).fits) (λ i. (c.slice_known-in-loop-code-7-1.given i).fits) _
    (rw c.in-Goes.is at (c.step.ensures _ said _ there.ready))

pub overflow_sub-result : goal.overflow_sub-result
overflow_sub-result c = omega (arith, (c.run_from-g.ensures.deferred (sym c.left.ensures ∙ not-false _ c.if-not-left.false-raw)).more)

pub shape_of-p-in-Finishes : goal.shape_of-p-in-Finishes
shape_of-p-in-Finishes c = c.step.auto.p ∙ c.run_from-g.ensures.same_payloads ∙ c.loop-code.invariant.same_payloads

pub shape_of-t-in-Finishes : goal.shape_of-t-in-Finishes
shape_of-t-in-Finishes c = c.step.auto.t ∙ c.run_from-g.ensures.same_types ∙ c.loop-code.invariant.same_types

pub shape_of-f-in-Finishes : goal.shape_of-f-in-Finishes
shape_of-f-in-Finishes c = c.run_from-g.ensures.same_words ∙ c.loop-code.invariant.same_words

pub shape_of-cells-in-Finishes : goal.shape_of-cells-in-Finishes
shape_of-cells-in-Finishes c = c.step.auto.cells ∙ c.loop-code.invariant.same_cells

pub shape_of-table-in-Finishes : goal.shape_of-table-in-Finishes
shape_of-table-in-Finishes c = c.step.auto.table ∙ c.loop-code.invariant.same_table

pub returns-in-Finishes : goal.returns-in-Finishes
returns-in-Finishes c =
    let yes = sym c.left.ensures ∙ not-false _ c.if-not-left.false-raw in
    let waits = c.run_from-g.ensures.deferred yes in
    let there = (c.run_from-g.ensures.resumes (inr yes)).fits in
    let said = says _ c.requires.packed.1 _ _ _ _ _ there _ _ c.requires.packed.2 _ (code_part c.args.source.now c.args.from) waits.inside waits.instruction.instruction waits.instruction.found in
    (returned _ c.requires.packed.1 _ _ _ _ _ _ _ _ _ _ _ _ _ _ _ _ _ c.loop-code.invariant _ _ _ _ c.run_from-g.ensures yes _ _ _ _ _ (λ i. (c.slice_known-in-loop-code-6-1.given i).fits) (λ i. (c.slice_known-in-loop-code-7-1.given i).fits) _
    (rw c.in-Finishes.is at (c.step.ensures _ said _ there.ready)))

pub shape_of-p-in-Stops : goal.shape_of-p-in-Stops
shape_of-p-in-Stops c = c.step.auto.p ∙ c.run_from-g.ensures.same_payloads ∙ c.loop-code.invariant.same_payloads

pub shape_of-t-in-Stops : goal.shape_of-t-in-Stops
shape_of-t-in-Stops c = c.step.auto.t ∙ c.run_from-g.ensures.same_types ∙ c.loop-code.invariant.same_types

pub shape_of-f-in-Stops : goal.shape_of-f-in-Stops
shape_of-f-in-Stops c = c.run_from-g.ensures.same_words ∙ c.loop-code.invariant.same_words

pub shape_of-cells-in-Stops : goal.shape_of-cells-in-Stops
shape_of-cells-in-Stops c = c.step.auto.cells ∙ c.loop-code.invariant.same_cells

pub shape_of-table-in-Stops : goal.shape_of-table-in-Stops
shape_of-table-in-Stops c = c.step.auto.table ∙ c.loop-code.invariant.same_table

pub returns-in-Stops : goal.returns-in-Stops
returns-in-Stops c =
    let yes = sym c.left.ensures ∙ not-false _ c.if-not-left.false-raw in
    let waits = c.run_from-g.ensures.deferred yes in
    let there = (c.run_from-g.ensures.resumes (inr yes)).fits in
    let said = says _ c.requires.packed.1 _ _ _ _ _ there _ _ c.requires.packed.2 _ (code_part c.args.source.now c.args.from) waits.inside waits.instruction.instruction waits.instruction.found in
    (stopped _ c.requires.packed.1 _ _ _ _ _ _ _ _ _ _ _ _ _ _ _ _ _ c.loop-code.invariant _ _ _ _ c.run_from-g.ensures yes _ _ _ _ _ (λ i. (c.slice_known-in-loop-code-6-1.given i).fits) (λ i. (c.slice_known-in-loop-code-7-1.given i).fits) _
    (rw c.in-Stops.is at (c.step.ensures _ said _ there.ready)))
