-- `values::slot_of` meets its contract. Assumes nothing.
use mathlib.Core.Path.{ap₂}
use Rattle.rules.specs.Stack.{slot}
use Rattle.values.proofs.slot_of.Goals as goal

pub returns : goal.returns
returns c = ap₂ slot c.kind_of-kind.ensures c.payload_of-payload.ensures
