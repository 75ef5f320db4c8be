-- The proof of `checker::with_table`.
use Prim.Native.Nat.{ℕ}
use native.Mathlib.Omega.{arith}
use lib.ListN.{length-replicate}
use Rattle.nodes.proofs.Copies.{zeros_at}
use Rattle.checker.proofs.with_table.Goals as goal

pub check_with-requires : goal.check_with-requires
check_with-requires g c = record { packed = (c.requires.packed.0, c.requires.packed.1, c.requires.packed.2); extent_in_bounds = (omega (arith, length-replicate {A = ℕ} g.row.N 0, c.requires.packed.3), zeros_at _); keyed = c.requires.keyed }
