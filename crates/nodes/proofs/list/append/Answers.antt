use native.Mathlib.Omega.{arith}
use mathlib.Core.Path.{ap}
use Prim.Native.Nat.{ℕ, ◌+◌}
use lib.ListN.{set, length-set}
use Rattle.nodes.proofs.list.append.Goals as goal

pub bounds-marks-n : goal.bounds-marks-n
bounds-marks-n c = omega (arith, length-set c.args.marks.now c.args.k 1, c.requires.0, c.requires.2, c.from-n.ensures)

pub returns : goal.returns
returns c = ap (λ (n : ℕ). set (set (set c.args.marks.now c.args.k 1) (256 + n) c.args.k) 512 (n + 1)) c.from-n.ensures
