-- The proof of `reader::labels::bad_labels`.
use native.Mathlib.Omega.{arith}
use mathlib.Core.Path.{refl}
use Rattle.format.proofs.Gathered.{some_none, some_more, some_end}
use Rattle.rules.specs.Tables.{bad_labels}
use Rattle.reader.proofs.labels.bad_labels.Goals as goal

pub loop-i-init : goal.loop-i-init
loop-i-init c = some_none _

pub bad_label-b-requires : goal.bad_label-b-requires
bad_label-b-requires c = record { filled = c.requires.filled; i_in_bounds = (omega arith, c.requires.code_in_bounds (omega arith)); starts_exactly = c.requires.starts_exactly }

pub loop-i-preserved : goal.loop-i-preserved
loop-i-preserved c = some_more _ _ _ _ c.loop-i.invariant c.bad_label-b.ensures

pub returns : goal.returns
unfolding bad_labels
returns c = some_end _ _ _ _ _ c.loop-i.invariant (omega arith) (omega arith) refl
