-- The proof of `rechecker::flags::with_table`.
use Prim.Native.Nat.{ℕ}
use native.Mathlib.Omega.{arith}
use lib.ListN.{length-replicate}
use Rattle.nodes.proofs.Copies.{zeros_at}
use Rattle.rechecker.proofs.flags.with_table.Goals as goal

pub with_places-requires : goal.with_places-requires
with_places-requires g c = record { lends = c.requires.lends; extent_in_bounds = (omega (arith, length-replicate {A = ℕ} g.row.N 0, c.requires.size.0), zeros_at _); keyed = c.requires.keyed }
