-- The proof of `state::put_slot`.
use mathlib.Core.Path.{refl}
use Rattle.state.specs.Slots.{payloads_with, types_with}
use Rattle.state.proofs.put_slot.Goals as goal

pub returns : goal.returns
unfolding payloads_with types_with
returns c = (c.store64.ensures, refl)
