-- The invariant of `format::bad_fields`.
use mathlib.Core.Path.{◌≡◌}
use Rattle.rules.specs.Bytes.{some_below}
use Rattle.rules.specs.Tables.{bad_field}
use Rattle.format.proofs.bad_fields.Given as goal

abbrev pub invariant-loop-j : goal.invariant-loop-j
invariant-loop-j l = l.bad ≡ some_below l.j (bad_field l.table l.«at»)
