use Rattle.formula.proofs.LineLaws.{formula_41, formula_42}
use Rattle.formula.proofs.refusal.Goals as goal

pub returns-in-Err : goal.returns-in-Err
returns-in-Err c = formula_41 c.args.line.now c.requires.0 _ c.in-Err.ensures

pub returns-in-Ok : goal.returns-in-Ok
returns-in-Ok c = formula_42 c.args.line.now c.requires.0 _ c.in-Ok.ensures c.requires.1
