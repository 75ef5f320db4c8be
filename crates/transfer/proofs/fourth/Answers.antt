-- The proof of `transfer::fourth`.
use Rattle.transfer.proofs.Structures.{header_long}
use lib.Dec.{eqb}
use Prim.Native.Nat.{ℕ}
use mathlib.Core.Path.{ap}
use native.Mathlib.Omega.{arith}
use Rattle.transfer.proofs.fourth.Goals as goal

pub word-requires : goal.word-requires
word-requires c = omega (arith, header_long _ (c.requires))

pub returns : goal.returns
returns c = ap (λ (n : ℕ). eqb n 4) c.word.ensures.0
