-- The proof of `format::over_limit`.
use Rattle.rules.specs.ModuleFile.{over_limit}
use Rattle.format.proofs.over_limit.Goals as goal

pub returns : goal.returns
unfolding over_limit
returns c = cc
