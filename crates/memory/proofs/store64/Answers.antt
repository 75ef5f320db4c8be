-- The proof of `memory::store64`.
use mathlib.Core.Path.{◌∙◌}
use Rattle.memory.proofs.Words.{stored, low_8}
use Rattle.memory.proofs.store64.Goals as goal

pub returns : goal.returns
returns c = stored 8 c.args.s.now c.args.at c.args.v _ (c.copy_from_slice.ensures.after ∙ c.to_le_bytes.ensures ∙ low_8 c.args.v)
