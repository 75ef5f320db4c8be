-- `doubles::tod_long` meets its contract. Assumes nothing.
use Rattle.std.proofs.Common.{ap}
use Rattle.rules.specs.Doubles.{encode_of}
use Rattle.doubles.proofs.Halves.{halves}
use Rattle.doubles.proofs.tod_long.Goals as goal

pub returns : goal.returns
returns c = ap encode_of (halves c.args.a c.ranges.a.fits)
