-- The invariants and measures of `beside::high_byte`.
use Rattle.rules.specs.Bytes.{byte, some_below}
use lib.Dec.{ltb}
use Prim.Native.Nat.{◌+◌}
use mathlib.Core.Path.{◌≡◌}
use Rattle.beside.proofs.high_byte.Given as goal

abbrev pub invariant-loop-i : goal.invariant-loop-i
invariant-loop-i l = l.high ≡ some_below l.i (λ i. ltb 1 (byte l.beside (8 + i)))
