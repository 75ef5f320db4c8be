use Rattle.rows.proofs.Types.{number_byte}
use mathlib.Core.Path.{sym}
use Rattle.rows.proofs.is_number.Goals as goal

pub returns : goal.returns
returns c = sym (number_byte c.args.b)
