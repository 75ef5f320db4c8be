-- The invariant of `reader::labels::bad_labels`.
use mathlib.Core.List.{[]}
use mathlib.Core.Path.{◌≡◌}
use Rattle.rules.specs.Bytes.{some_below}
use Rattle.rules.specs.Tables.{bodies, bad_label}
use Rattle.reader.proofs.labels.bad_labels.Given as goal

abbrev pub invariant-loop-i : goal.invariant-loop-i
invariant-loop-i l = l.bad ≡ some_below l.i (bad_label (bodies l.edition l.functions [] l.code l.entry) l.labels)
