-- The invariant of `format::bad_constants`.
use mathlib.Core.Path.{◌≡◌}
use Rattle.rules.specs.Bytes.{some_below}
use Rattle.rules.specs.Tables.{bad_constant}
use Rattle.format.proofs.bad_constants.Given as goal

abbrev pub invariant-loop-i : goal.invariant-loop-i
invariant-loop-i l = l.bad ≡ some_below l.i (bad_constant l.table)
