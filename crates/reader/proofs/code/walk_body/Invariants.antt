-- The invariants and measures of `reader::code::walk_body`.
use Prim.Native.Nat.{◌-◌, ◌<◌, ◌≤◌}
use mathlib.Core.Bool.{true}
use mathlib.Core.Path.{◌≡◌}
use lib.ListN.{length}
use Rattle.reader.specs.Cut.{Cut}
use Rattle.rules.specs.Tables.{due, differs}
use Rattle.reader.proofs.code.walk_body.Given as goal

abbrev pub invariant-loop-p : goal.invariant-loop-p
invariant-loop-p l = Cut l.edition l.code l.p l.starts × (length l.starts ≡ length l.initial.starts) × (l.to < l.p → differs (due l.edition l.code l.to) 0 ≡ true) × (1 ≤ l.wait) × (l.wait ≤ 8)

abbrev pub decreases-loop-p : goal.decreases-loop-p
decreases-loop-p l = l.to - l.p
