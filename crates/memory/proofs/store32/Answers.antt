-- The proof of `memory::store32`.
use mathlib.Core.Path.{◌∙◌}
use Rattle.memory.proofs.Words.{stored, low_4}
use Rattle.memory.proofs.store32.Goals as goal

pub returns : goal.returns
returns c = stored 4 c.args.s.now c.args.at c.args.v _ (c.copy_from_slice.ensures.after ∙ c.to_le_bytes.ensures ∙ low_4 c.args.v)
