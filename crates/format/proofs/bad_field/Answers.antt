-- The proof of `format::bad_field`.
use native.Mathlib.Omega.{arith}
use Rattle.rules.specs.Tables.{bad_field}
use Rattle.format.proofs.bad_field.Goals as goal

pub overflow_cast-n : goal.overflow_cast-n
overflow_cast-n c = omega (arith, c.shared_slice_known-2-1.given c.args.at)

pub returns : goal.returns
unfolding bad_field
returns c = cc
