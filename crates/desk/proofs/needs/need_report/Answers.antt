use Rattle.desk.proofs.Needing.{length_is}
use native.Mathlib.Omega.{arith}
use Rattle.desk.proofs.needs.need_report.Goals as goal

pub overflow_sub-functions : goal.overflow_sub-functions
overflow_sub-functions c = omega (arith, (length_is _ _ _ _ c.in-Ok.ensures.same).0)

pub needs_text-requires : goal.needs_text-requires
needs_text-requires c = let w = length_is _ _ _ _ c.in-Ok.ensures.same in (omega (arith, w.3), omega (arith, w.2), omega arith)
