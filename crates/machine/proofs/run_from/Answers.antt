-- The proof of `machine::run_from`.
use native.Mathlib.Omega.{arith}
use mathlib.Core.Path.{sym, ◌∙◌}
use Rattle.keys.proofs.Places.{at_end_lem, at_key}
use Rattle.keys.proofs.Files.{code_part}
use Rattle.machine.proofs.Turns.{starts, stop_there, stands, stepped, computes, ends, used_up, goes_on, returned, stopped}
use Rattle.machine.proofs.run_from.Goals as goal

pub slice_bounds-code-count : goal.slice_bounds-code-count
slice_bounds-code-count c = omega (arith, c.requires.keyed.0.inside)

pub slice_bounds-code-start : goal.slice_bounds-code-start
slice_bounds-code-start c = omega (arith, c.requires.keyed.0.inside)

pub slice_bounds-code-end : goal.slice_bounds-code-end
slice_bounds-code-end c = omega (arith, c.requires.keyed.0.inside)

pub slice_bounds-pool-count : goal.slice_bounds-pool-count
slice_bounds-pool-count c = omega (arith, c.requires.packed.0.whole, c.requires.packed.0.code_is, c.requires.packed.0.pool_is)

pub slice_bounds-pool-start : goal.slice_bounds-pool-start
slice_bounds-pool-start c = omega (arith, c.requires.packed.0.whole, c.requires.packed.0.code_is, c.requires.packed.0.pool_is)

pub slice_bounds-pool-end : goal.slice_bounds-pool-end
slice_bounds-pool-end c = omega (arith, c.requires.packed.0.whole, c.requires.packed.0.code_is, c.requires.packed.0.pool_is)

pub loop-key-init : goal.loop-key-init
loop-key-init c = starts _ _ _ _ _ _ _ _ c.requires.packed c.requires.keyed.1

pub decode-requires : goal.decode-requires
decode-requires c = stop_there _ c.loop-key.invariant.module_is.1 _ _ _ _ _ c.loop-key.invariant.fits _ _ c.requires.keyed.0 _ (code_part c.args.source.now c.args.from)

pub at_end-requires : goal.at_end-requires
at_end-requires c = omega (arith, c.loop-key.invariant.fits.ready.words)

pub shape_of-p-in_default : goal.shape_of-p-in_default
shape_of-p-in_default c = c.loop-key.invariant.same_p

pub shape_of-t-in_default : goal.shape_of-t-in_default
shape_of-t-in_default c = c.loop-key.invariant.same_t

pub shape_of-f-in_default : goal.shape_of-f-in_default
shape_of-f-in_default c = c.loop-key.invariant.same_f

pub returns-in_default : goal.returns-in_default
returns-in_default c = ends _ _ _ _ _ _ _ _ _ _ _ _ _ c.loop-key.invariant _ c.at_end.ensures (at_end_lem _ _ _ (sym c.decode.ensures ∙ c.in_default.is))

pub shape_of-p-then-rest-eq0 : goal.shape_of-p-then-rest-eq0
shape_of-p-then-rest-eq0 c = c.loop-key.invariant.same_p

pub shape_of-t-then-rest-eq0 : goal.shape_of-t-then-rest-eq0
shape_of-t-then-rest-eq0 c = c.loop-key.invariant.same_t

pub shape_of-f-then-rest-eq0 : goal.shape_of-f-then-rest-eq0
shape_of-f-then-rest-eq0 c = c.loop-key.invariant.same_f

pub returns-then-rest-eq0 : goal.returns-then-rest-eq0
returns-then-rest-eq0 c = let k = at_key _ _ _ _ (sym c.decode.ensures ∙ c.in-Some.is) in (used_up _ _ _ _ _ _ _ _ _ _ _ _ _ c.loop-key.invariant k.0 c.if-rest-eq0.true)

pub step-requires : goal.step-requires
step-requires c = let k = at_key _ _ _ _ (sym c.decode.ensures ∙ c.in-Some.is) in record { packed = (c.requires.packed.0, c.requires.packed.1, code_part c.args.file.now c.args.c.pool); place_lt_stop = (k.0, stands _ c.loop-key.invariant.module_is.1 _ _ _ _ _ c.loop-key.invariant.fits _ _ c.requires.keyed.0 _ (code_part c.args.source.now c.args.from) k.0 _ k.1); ready = (c.loop-key.invariant.fits.ready, computes _ c.loop-key.invariant.module_is.1 _ _ _ _ _ c.loop-key.invariant.fits k.0) }

pub overflow_sub-rest : goal.overflow_sub-rest
overflow_sub-rest c = omega (arith, c.if-rest-eq0.false)

pub loop-key-smaller : goal.loop-key-smaller
loop-key-smaller c = omega (arith, c.if-rest-eq0.false)

pub loop-key-preserved : goal.loop-key-preserved
loop-key-preserved c = let k = at_key _ _ _ _ (sym c.decode.ensures ∙ c.in-Some.is) in goes_on _ _ _ _ _ _ _ _ _ _ _ _ _ c.loop-key.invariant k.0 c.if-rest-eq0.false _ _ _ c.step.auto.f _ (rw c.in-Goes.is at (stepped _ c.loop-key.invariant.module_is.1 _ _ _ _ _ c.loop-key.invariant.fits _ _ c.requires.keyed.0 _ (code_part c.args.source.now c.args.from) k.0 _ _ _ _ c.step.ensures))

pub overflow_sub-result : goal.overflow_sub-result
overflow_sub-result c = omega (arith, c.if-rest-eq0.false)

pub shape_of-p-in-Finishes : goal.shape_of-p-in-Finishes
shape_of-p-in-Finishes c = c.step.auto.p ∙ c.loop-key.invariant.same_p

pub shape_of-t-in-Finishes : goal.shape_of-t-in-Finishes
shape_of-t-in-Finishes c = c.step.auto.t ∙ c.loop-key.invariant.same_t

pub shape_of-f-in-Finishes : goal.shape_of-f-in-Finishes
shape_of-f-in-Finishes c = c.step.auto.f ∙ c.loop-key.invariant.same_f

pub returns-in-Finishes : goal.returns-in-Finishes
returns-in-Finishes c = let k = at_key _ _ _ _ (sym c.decode.ensures ∙ c.in-Some.is) in (returned _ _ _ _ _ _ _ _ _ _ _ _ _ c.loop-key.invariant k.0 c.if-rest-eq0.false _ _ _ c.step.auto.f _ (rw c.in-Finishes.is at (stepped _ c.loop-key.invariant.module_is.1 _ _ _ _ _ c.loop-key.invariant.fits _ _ c.requires.keyed.0 _ (code_part c.args.source.now c.args.from) k.0 _ _ _ _ c.step.ensures)))

pub shape_of-p-in-Stops : goal.shape_of-p-in-Stops
shape_of-p-in-Stops c = c.step.auto.p ∙ c.loop-key.invariant.same_p

pub shape_of-t-in-Stops : goal.shape_of-t-in-Stops
shape_of-t-in-Stops c = c.step.auto.t ∙ c.loop-key.invariant.same_t

pub shape_of-f-in-Stops : goal.shape_of-f-in-Stops
shape_of-f-in-Stops c = c.step.auto.f ∙ c.loop-key.invariant.same_f

pub returns-in-Stops : goal.returns-in-Stops
returns-in-Stops c = let k = at_key _ _ _ _ (sym c.decode.ensures ∙ c.in-Some.is) in (stopped _ _ _ _ _ _ _ _ _ _ _ _ _ c.loop-key.invariant k.0 c.if-rest-eq0.false _ _ _ c.step.auto.f _ (rw c.in-Stops.is at (stepped _ c.loop-key.invariant.module_is.1 _ _ _ _ _ c.loop-key.invariant.fits _ _ c.requires.keyed.0 _ (code_part c.args.source.now c.args.from) k.0 _ _ _ _ c.step.ensures)))
