-- The proof of `formula::emit::put_negations`.
use Rattle.formula.proofs.EmitLaws.{run_none, run_more, run_all}
use lib.ListN.{length-set}
use native.Mathlib.Omega.{arith}
use mathlib.Core.Path.{refl, ◌∙◌}
use Rattle.formula.proofs.emit.put_negations.Goals as goal

pub loop-i-init : goal.loop-i-init
loop-i-init c = (omega arith, refl, run_none c.args.code.now c.args.at 19)

pub loop-i-preserved : goal.loop-i-preserved
loop-i-preserved c = (omega arith, length-set c.loop-i.code _ _ ∙ c.loop-i.invariant.1, run_more c.args.code.now c.loop-i.code c.args.at c.loop-i.i 19 (omega arith) c.loop-i.invariant.2)

pub shape_of-code : goal.shape_of-code
shape_of-code c = c.loop-i.invariant.1

pub returns : goal.returns
returns c = run_all c.args.code.now c.loop-i.code c.args.at c.args.n c.loop-i.i 19 (omega arith) c.loop-i.invariant.2
