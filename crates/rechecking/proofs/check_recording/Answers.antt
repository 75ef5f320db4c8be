use Rattle.promises.specs.RecordingPromised.{recording_keeps}
use Rattle.rechecking.proofs.check_recording.Goals as goal

pub returns : goal.returns
returns c = recording_keeps _ _ _ _ _ _ c.check_recording.ensures
