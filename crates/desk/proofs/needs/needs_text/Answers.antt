use Rattle.desk.proofs.Needing.{lines_fill}
use native.Mathlib.Omega.{arith}
use Rattle.desk.proofs.needs.needs_text.Goals as goal

pub returns : goal.returns
returns c = lines_fill c.args.report.now _ _ _ _ _ _ _ _ c.load32-need.ensures.0 c.load32-frames.ensures.0 c.requires.0 (omega (arith, c.requires.2)) c.put_entry-at.ensures c.put_functions.ensures
