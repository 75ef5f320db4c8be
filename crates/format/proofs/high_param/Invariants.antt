-- The invariant of `format::high_param`.
use mathlib.Core.Path.{◌≡◌}
use Rattle.rules.specs.Bytes.{some_below}
use Rattle.format.specs.Layout.{high_param}
use Rattle.format.proofs.high_param.Given as goal

abbrev pub invariant-loop-j : goal.invariant-loop-j
invariant-loop-j l = l.high ≡ some_below l.j (high_param l.table l.«at»)
