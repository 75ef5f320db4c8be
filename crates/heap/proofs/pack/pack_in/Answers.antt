-- The proof of `heap::pack::pack_in`.
use mathlib.Core.Path.{refl}
use native.Mathlib.Omega.{arith}
use Prim.Native.Nat.{ℕ}
use lib.ListN.{length-replicate}
use Rattle.heap.proofs.Packing.{packing}
use Rattle.heap.proofs.Stores.{zero_cells}
use Rattle.heap.proofs.pack.pack_in.Goals as goal

pub gather-top-requires : goal.gather-top-requires
gather-top-requires g c =
    record { sane = c.requires.sane; size_in_bounds = (omega (arith, length-replicate {A = ℕ} g.row.N 0, c.requires.size_in_bounds.0), (λ x. zero_cells g.row.N x)) }

pub returns : goal.returns
returns g c =
    (packing _ _ _ _ _ c.requires.sane _ _ _ _ c.gather-top.ensures c.copy.ensures, refl)
