use Rattle.promises.specs.RecordingPromised.{host_recording_keeps}
use Rattle.rechecking.proofs.host.host_check_recording.Goals as goal

pub returns : goal.returns
returns c = host_recording_keeps _ _ _ _ _ _ c.check_recording-answer.ensures _ _ _ _ _ c.recording_number.ensures.value c.recording_number.ensures.body_after c.recording_number.ensures.written_after
