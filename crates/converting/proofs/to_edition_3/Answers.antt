-- The proof of `converting::to_edition_3`.
use Rattle.promises.specs.ConvertPromised.{lowered_so, delivers}
use Rattle.converting.proofs.to_edition_3.Goals as goal

pub returns : goal.returns
returns c = delivers _ _ (lowered_so c.args.file.now c.args.out.now) _ _ c.to_edition_3.ensures
