-- The invariants and measures of `rows::admits_row`.
use Rattle.rows.specs.Rows.{low_ints}
use lib.ListN.{length}
use mathlib.Core.Path.{◌≡◌}
use Rattle.rows.proofs.admits_row.Given as goal

abbrev pub invariant-loop-j : goal.invariant-loop-j
invariant-loop-j l = low_ints l.args l.kinds (length l.kinds) ≡ low_ints l.args l.kinds l.j
