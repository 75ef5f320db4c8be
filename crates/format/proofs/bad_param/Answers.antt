-- The proof of `format::bad_param`.
use Prim.Native.Nat.{◌+◌}
use native.Mathlib.Omega.{arith}
use Rattle.rules.specs.Tables.{bad_param}
use Rattle.format.proofs.bad_param.Goals as goal

pub overflow_cast-n : goal.overflow_cast-n
overflow_cast-n c = omega (arith, c.shared_slice_known-2-1.given (c.args.at + 8))

pub returns : goal.returns
unfolding bad_param
returns c = cc
