use Rattle.runs.proofs.Resumed.{finished_over}
use mathlib.Core.Path.{◌∙◌}
use native.Mathlib.Omega.{arith}
use Rattle.machine.specs.Ends.{number_of}
use Rattle.runs.proofs.finish.Goals as goal

pub run_over-g-requires : goal.run_over-g-requires
run_over-g-requires c = record { packed = c.requires.packed; fits = (c.requires.standing.0.fits, rw c.heap_capacity-size.ensures c.requires.standing.0.empty, c.requires.standing.1) }

pub overflow_sub-allowance : goal.overflow_sub-allowance
overflow_sub-allowance c = omega (arith, c.run_over-g.ensures.left, c.requires.standing.0.left)

pub close-tally-requires : goal.close-tally-requires
close-tally-requires c = (rw (c.run_over-g.ensures.same_payloads, c.run_over-g.ensures.same_types) c.requires.standing.0.slots, c.run_over-g.ensures.high)

pub returns : goal.returns
returns c = let z = c.close-tally.ensures (number_of c.run_over-g.result.stop) in finished_over _ _ _ c.args.e _ _ _ _ _ _ _ _ _ _ _ c.requires.standing.0.slots c.heap_capacity-size.ensures c.requires.standing.0.left c.run_over-g.ensures _ _ _ (c.ended.ensures ∙ z.0, z.1)
