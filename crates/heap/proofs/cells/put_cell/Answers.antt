use Rattle.heap.proofs.Stores.{put_cell}
use native.Mathlib.Omega.{arith}
use Rattle.heap.proofs.cells.put_cell.Goals as goal

pub returns : goal.returns
returns c = rw c.store64.ensures (put_cell c.args.p.now c.args.c c.args.x (omega arith) (omega arith))
