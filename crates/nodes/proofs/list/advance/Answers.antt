use mathlib.Core.Path.{ap}
use Prim.Native.Nat.{ℕ, ◌+◌}
use lib.ListN.{set}
use Rattle.nodes.proofs.list.advance.Goals as goal

pub returns : goal.returns
returns c = ap (λ (n : ℕ). set c.args.marks.now 513 (n + 1)) c.from-i.ensures
