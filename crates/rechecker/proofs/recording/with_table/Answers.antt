-- The proof of `rechecker::recording::with_table`.
use Prim.Native.Nat.{ℕ}
use native.Mathlib.Omega.{arith}
use lib.ListN.{length-replicate}
use Rattle.nodes.proofs.Copies.{zeros_at}
use Rattle.rechecker.proofs.recording.with_table.Goals as goal

pub record_with-requires : goal.record_with-requires
record_with-requires g c = record { recordable = c.requires.recordable.0; extent_in_bounds = (omega (arith, length-replicate {A = ℕ} g.row.N 0, c.requires.recordable.1), zeros_at _); keyed = c.requires.keyed }
