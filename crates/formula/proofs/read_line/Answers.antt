use Rattle.formula.proofs.LineLaws.{line_bad, line_room, line_left, line_read}
use native.Mathlib.Omega.{arith}
use mathlib.Core.List.{[]}
use Rattle.formula.proofs.read_line.Goals as goal

pub returns-in_err-c : goal.returns-in_err-c
returns-in_err-c c = rw c.from_residual.ensures (line_bad c.args.line.now c.args.code.now c.args.pool.now c.skip-at.result c.skip-at.ensures c.requires.0 [] [] [] [] c.in_err-c.ensures)

pub returns-then-c-line : goal.returns-then-c-line
returns-then-c-line c = line_left c.args.line.now c.args.code.now c.args.pool.now c.skip-at.result c.skip-at.ensures c.requires.0 c.sum.new.code c.sum.new.pool _ c.in_ok-c.ensures [] [] c.if-c-line.true

pub operated-requires : goal.operated-requires
operated-requires c = line_room c.args.line.now c.args.code.now c.args.pool.now c.skip-at.result c.skip-at.ensures c.requires.0 c.sum.new.code c.sum.new.pool _ c.in_ok-c.ensures c.requires.1

pub returns : goal.returns
returns c = line_read c.args.line.now c.args.code.now c.args.pool.now c.skip-at.result c.skip-at.ensures c.requires.0 c.sum.new.code c.sum.new.pool _ c.in_ok-c.ensures _ c.operated.result (omega arith) c.operated.ensures
