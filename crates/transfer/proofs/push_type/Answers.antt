-- The proof of `transfer::push_type`.
use Rattle.transfer.proofs.Flows.{push_full, push_goes}
use Rattle.transfer.proofs.push_type.Goals as goal

pub returns-then-st-ge32 : goal.returns-then-st-ge32
returns-then-st-ge32 c = push_full c.args.t _ _ c.requires.0 c.if-st-ge32.true

pub returns : goal.returns
returns c = push_goes _ _ _ _ c.push.ensures
