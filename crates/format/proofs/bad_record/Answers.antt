-- The proof of `format::bad_record`.
use Rattle.rules.specs.Tables.{bad_record}
use Rattle.format.proofs.bad_record.Goals as goal

pub returns : goal.returns
unfolding bad_record
returns c = cc
