-- The invariants and measures of `reader::code::bad_code`.
use Prim.Native.Nat.{◌-◌, ◌≤◌}
use mathlib.Core.Bool.{false}
use mathlib.Core.List.{[]}
use mathlib.Core.Path.{◌≡◌}
use lib.ListN.{length}
use Rattle.reader.specs.Cut.{Cut}
use Rattle.rules.specs.Bytes.{some_below}
use Rattle.rules.specs.Tables.{bodies, crossed, end_before}
use Rattle.reader.proofs.code.bad_code.Given as goal

abbrev pub invariant-loop-edition : goal.invariant-loop-edition
invariant-loop-edition l = (l.i ≤ l.n) × (l.end ≡ end_before (bodies l.edition l.functions [] l.code l.entry) l.i) × (l.from ≤ l.end) × Cut l.edition l.code l.from l.starts × (length l.starts ≡ length l.initial.starts) × (some_below l.i (crossed (bodies l.edition l.functions [] l.code l.entry)) ≡ false)

abbrev pub decreases-loop-edition : goal.decreases-loop-edition
decreases-loop-edition l = l.n - l.i
