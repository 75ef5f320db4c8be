-- The invariant of `format::bad_records`.
use Prim.Native.Nat.{◌≤◌, ◌+◌, ◌*◌}
use mathlib.Core.Path.{◌≡◌}
use mathlib.Core.List.{[]}
use Rattle.rules.specs.Bytes.{some_below}
use Rattle.rules.specs.Tables.{bodies, function_at, bad_record, end_before}
use Rattle.format.specs.Layout.{types_of}
use Rattle.format.proofs.bad_records.Given as goal

abbrev pub invariant-loop-i : goal.invariant-loop-i
invariant-loop-i l = (l.i ≤ l.n) × (l.bad ≡ some_below l.i (λ k. bad_record (types_of l.edition) l.structures l.table (function_at l.edition k) (end_before (bodies l.edition l.table [] l.code l.entry) k))) × (l.end ≡ end_before (bodies l.edition l.table [] l.code l.entry) l.i) × (l.end ≤ 16384 + l.i * 4294967296)
