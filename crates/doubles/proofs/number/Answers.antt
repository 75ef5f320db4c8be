-- `doubles::number` meets its contract. Assumes nothing.
use Rattle.std.proofs.Common.{arith}
use Rattle.doubles.proofs.Nan.{doubled}
use Rattle.doubles.proofs.number.Goals as goal

pub returns : goal.returns
returns c = rw c.wrapping_add_u64-d.ensures.value (doubled c.args.p (omega arith))
