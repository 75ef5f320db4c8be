-- The proof of `limpetskein::host::limpetskein_formula`.
use Rattle.promises.specs.FormulaPromised.{host_formula_keeps}
use Rattle.compiling.proofs.host.host_formula.Goals as goal

pub returns : goal.returns
returns c = host_formula_keeps _ _ _ _ c.formula-answer.ensures _ _ _ c.write_number.ensures.0 c.write_number.ensures.1
