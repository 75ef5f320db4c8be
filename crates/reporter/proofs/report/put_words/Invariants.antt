-- The invariants and measures of `reporter::report::put_words`.
use Rattle.reporter.specs.Told.{row_words}
use lib.ListN.{length, drop}
use mathlib.Core.List.{◌++◌}
use mathlib.Core.Path.{◌≡◌}
use Prim.Native.Nat.{◌*◌}
use Rattle.reporter.proofs.report.put_words.Given as goal

abbrev pub invariant-loop-b : goal.invariant-loop-b
invariant-loop-b l = (l.out ≡ row_words l.need l.frames l.b ++ drop (8 * l.b) l.initial.out) × (length l.out ≡ length l.initial.out)
