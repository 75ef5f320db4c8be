-- The invariant of `reader::blocks::all_bare`.
use mathlib.Core.Path.{◌≡◌}
use Rattle.reader.specs.Cut.{all_bare}
use Rattle.reader.proofs.blocks.all_bare.Given as goal

abbrev pub invariant-loop-i : goal.invariant-loop-i
invariant-loop-i l = l.good ≡ all_bare l.edition l.code l.p l.i
