-- The proof of `reporter::with_table`.
use Prim.Native.Nat.{ℕ}
use native.Mathlib.Omega.{arith}
use lib.ListN.{length-replicate}
use Rattle.nodes.proofs.Copies.{zeros_at}
use Rattle.reporter.proofs.with_table.Goals as goal

pub report_with-requires : goal.report_with-requires
report_with-requires g c = record { checkable = c.requires.checkable.0; extent_in_bounds = (omega (arith, length-replicate {A = ℕ} g.row.N 0, c.requires.checkable.1), zeros_at _); keyed = c.requires.keyed }
