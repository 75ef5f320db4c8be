use Rattle.rows.proofs.Types.{part_row, no_arguments, quotient}
use native.Mathlib.Omega.{arith}
use Rattle.rows.proofs.same_rows.Goals as goal

pub returns-then-out-ne0 : goal.returns-then-out-ne0
returns-then-out-ne0 c = part_row c.args.n c.args.args c.args.out c.if-out-ne0.true

pub returns-then-n-eq0 : goal.returns-then-n-eq0
returns-then-n-eq0 c = no_arguments c.args.n c.args.args c.args.out c.if-out-ne0.false c.if-n-eq0.true

pub returns : goal.returns
returns c = quotient c.args.n c.args.args c.args.out (omega arith) c.if-out-ne0.false
