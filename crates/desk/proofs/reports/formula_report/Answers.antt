-- The proof of `desk::reports::formula_report`.
use mathlib.Core.Path.{refl}
use Rattle.desk.proofs.Compiling.{formula_holds, reports_module}
use Rattle.rules.specs.Formula.{formula}
use Rattle.desk.specs.Commands.{Refuses}
use Rattle.desk.proofs.reports.formula_report.Goals as goal

pub returns-in-Ok : goal.returns-in-Ok
returns-in-Ok c = reports_module (formula c.args.line.now c.args.out.now) (Refuses c.args.line.now) (formula_holds _ _) _ _ _ c.in-Ok.ensures.same refl
