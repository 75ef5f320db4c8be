-- The proof of `control::calls::restored`.
use Rattle.control.proofs.calls.restored.Goals as goal

pub returns : goal.returns
returns c = cc
