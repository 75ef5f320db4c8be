-- The proof of `formula::write_module`.
use Rattle.formula.proofs.LineLaws.{module_short, module_written}
use native.Mathlib.Omega.{arith}
use Rattle.formula.proofs.write_module.Goals as goal

pub returns-then-out-length : goal.returns-then-out-length
returns-then-out-length c = module_short c.args.constants.now c.args.code.now c.args.out.now c.if-out-length.true

pub returns : goal.returns
returns c = module_written c.args.constants.now c.args.code.now c.args.out.now _ _ (omega arith) c.store32.ensures c.put.ensures
