-- `doubles::unordered` meets its contract. Assumes nothing.
use Rattle.std.proofs.Common.{refl}
use Rattle.doubles.proofs.Nan.{nan_test}
use Rattle.doubles.proofs.unordered.Goals as goal

pub returns : goal.returns
returns c = rw (nan_test c.args.x, nan_test c.args.y) refl
