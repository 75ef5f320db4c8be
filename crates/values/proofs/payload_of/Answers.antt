-- `values::payload_of` meets its contract. Assumes nothing.
use mathlib.Core.Path.{sym, ap, ◌∙◌}
use Rattle.values.specs.Values.{payload_of}
use Rattle.values.proofs.payload_of.Goals as goal

pub returns-in-Double : goal.returns-in-Double
returns-in-Double c = c.encode.ensures ∙ ap payload_of (sym c.in-Double.is)
