-- The proof of `state::slot_at`.
use Rattle.rules.specs.Stack.{slot_at}
use Rattle.state.proofs.slot_at.Goals as goal

pub returns : goal.returns
unfolding slot_at
returns c = cc
