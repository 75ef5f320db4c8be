-- The invariants and measures of `rows::map_rows`.
use Rattle.rows.proofs.Fold.{Going}
use Rattle.rows.proofs.Fold.{Going}
use lib.ListN.{length}
use mathlib.Core.Path.{◌≡◌}
use Prim.Native.Nat.{◌-◌, ◌/◌, ◌<◌}
use Rattle.rows.proofs.map_rows.Given as goal

abbrev pub invariant-turn : goal.invariant-turn
invariant-turn l = Going l.file l.k l.kinds l.args l.initial.out l.allowance l.initial.p l.initial.t l.initial.cells l.initial.table l.i l.«at» l.out l.p l.t l.cells l.table × (length l.f ≡ 1536) × (length l.args < 18446744073709551616) × (length l.initial.out < 18446744073709551616)

abbrev pub decreases-turn : goal.decreases-turn
decreases-turn l = length l.initial.out / 8 - l.i
