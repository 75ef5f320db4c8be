-- The invariant of `format::high_params`.
use mathlib.Core.Path.{◌≡◌}
use Rattle.rules.specs.Bytes.{some_below}
use Rattle.rules.specs.Tables.{function_at}
use Rattle.format.specs.Layout.{high_param}
use Rattle.format.proofs.high_params.Given as goal

abbrev pub invariant-loop-i : goal.invariant-loop-i
invariant-loop-i l = l.high ≡ some_below l.i (λ k. some_below 8 (high_param l.table (function_at 1 k)))
