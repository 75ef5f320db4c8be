-- The proof of `format::bad_constant`.
use Rattle.rules.specs.Tables.{bad_constant}
use Rattle.format.proofs.bad_constant.Goals as goal

pub returns : goal.returns
unfolding bad_constant
returns c = cc
