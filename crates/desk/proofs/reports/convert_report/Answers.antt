-- The proof of `desk::reports::convert_report`.
use mathlib.Core.Path.{refl}
use Rattle.desk.proofs.Compiling.{conversion_written}
use Rattle.desk.proofs.reports.convert_report.Goals as goal

pub returns-in-Ok : goal.returns-in-Ok
returns-in-Ok c = conversion_written c.args.up c.args.file.now c.args.out.now _ _ _ c.in-Ok.ensures refl
