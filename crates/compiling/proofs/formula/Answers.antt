-- The proof of `compiling::formula`.
use Rattle.promises.specs.FormulaPromised.{formula_keeps}
use Rattle.compiling.proofs.formula.Goals as goal

pub returns : goal.returns
returns c = formula_keeps _ _ _ _ c.compile.ensures
