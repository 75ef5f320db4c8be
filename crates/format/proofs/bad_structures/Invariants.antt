-- The invariant of `format::bad_structures`.
use mathlib.Core.Path.{◌≡◌}
use mathlib.Core.Bool.{false}
use Rattle.rules.specs.Bytes.{some_below}
use Rattle.rules.specs.Tables.{bad_structure}
use Rattle.format.proofs.bad_structures.Given as goal

abbrev pub invariant-loop-i : goal.invariant-loop-i
invariant-loop-i l = false ≡ some_below l.i (bad_structure l.table)
