-- The proof of `converting::to_edition_4`.
use Rattle.promises.specs.ConvertPromised.{raised_so, delivers}
use Rattle.converting.proofs.to_edition_4.Goals as goal

pub returns : goal.returns
returns c = delivers _ _ (raised_so c.args.file.now c.args.out.now) _ _ c.to_edition_4.ensures
