-- The invariant of `format::bad_params`.
use mathlib.Core.Path.{◌≡◌}
use Rattle.rules.specs.Bytes.{some_below}
use Rattle.rules.specs.Tables.{bad_param}
use Rattle.format.proofs.bad_params.Given as goal

abbrev pub invariant-loop-j : goal.invariant-loop-j
invariant-loop-j l = l.bad ≡ some_below l.j (bad_param l.types l.structures l.file l.«at»)
