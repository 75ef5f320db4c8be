-- The proof of `limpetskein::host::limpetskein_check`.
use Rattle.promises.proofs.Promised.{host_check_keeps}
use Rattle.checking.proofs.host.host_check.Goals as goal

pub returns : goal.returns
returns c = host_check_keeps _ _ _ _ c.check-answer.ensures _ _ _ c.check_number.ensures.0 c.check_number.ensures.1
