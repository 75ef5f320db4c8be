-- The proof of `format::bad_structure`.
use Rattle.rules.specs.Tables.{bad_structure, bad_structure_record}
use Rattle.format.proofs.bad_structure.Goals as goal

pub returns : goal.returns
unfolding bad_structure bad_structure_record
returns c = cc
