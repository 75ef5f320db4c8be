use Rattle.desk.proofs.Needing.{word_put, entry_line_lem}
use lib.ListN.{length-set}
use native.Mathlib.Omega.{arith}
use mathlib.Core.Path.{◌∙◌}
use Rattle.desk.proofs.needs.put_entry.Goals as goal

pub bounds-out-1 : goal.bounds-out-1
bounds-out-1 c = simp length-set (omega arith)

pub bounds-out-2 : goal.bounds-out-2
bounds-out-2 c = simp length-set (omega arith)

pub bounds-out-3 : goal.bounds-out-3
bounds-out-3 c = simp length-set (omega arith)

pub bounds-out-4 : goal.bounds-out-4
bounds-out-4 c = simp length-set (omega arith)

pub bounds-out-5 : goal.bounds-out-5
bounds-out-5 c = simp length-set (omega arith)

pub shape_of-out : goal.shape_of-out
shape_of-out c = c.put_line2.auto.out ∙ simp length-set

pub returns : goal.returns
returns c = entry_line_lem c.args.out.now _ _ _ _ _ (word_put c.args.out.now 101 110 116 114 121 32 (omega arith)) c.put_line2.ensures
