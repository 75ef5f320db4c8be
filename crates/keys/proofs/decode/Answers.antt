use Rattle.keys.proofs.Places.{decoded_end, decoded_key}
use Rattle.keys.proofs.decode.Goals as goal

pub returns-then-stop-place : goal.returns-then-stop-place
returns-then-stop-place c = decoded_end _ _ _ c.if-stop-place.true

pub returns : goal.returns
returns c = decoded_key _ _ _ c.if-stop-place.false
