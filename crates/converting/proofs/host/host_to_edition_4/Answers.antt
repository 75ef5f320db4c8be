-- The proof of `limpetskein::host::limpetskein_to_edition_4`.
use Rattle.promises.specs.ConvertPromised.{host_delivers}
use Rattle.converting.proofs.host.host_to_edition_4.Goals as goal

pub returns : goal.returns
returns c = host_delivers _ _ _ _ c.to_edition_4-answer.ensures _ _ _ c.write_number.ensures.0 c.write_number.ensures.1
