-- The proof of `heap::collect::sweep_in`.
use Rattle.heap.proofs.Sweeps.{blank}
use lib.ListN.{length-replicate}
use Prim.Native.Nat.{ℕ}
use native.Mathlib.Omega.{arith}
use Rattle.heap.proofs.collect.sweep_in.Goals as goal

pub hold-requires : goal.hold-requires
hold-requires g c =
    let s = c.requires.sane.0 in record { count_in_bounds = (omega (arith, s.few, s.room_table), omega (arith, s.few, s.small), s.rising, c.requires.sane.1, c.requires.sane.2); count_in_bounds_2 = (omega (arith, length-replicate {A = ℕ} g.row.N 0, c.requires.count_in_bounds.0), (λ x. blank g.row.N x)) }
