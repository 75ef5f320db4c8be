-- `doubles::decode` meets its contract. Assumes nothing.
use Rattle.std.proofs.Common.{T, sym, ◌∙◌, subst}
use lib.Ieee.{of_bits, div}
use Rattle.doubles.proofs.Nan.{nan_pattern}
use Rattle.doubles.proofs.decode.Goals as goal

pub float_from_bits-result : goal.float_from_bits-result
float_from_bits-result c = subst T (sym c.if-number.true ∙ c.number.ensures) tt

pub returns : goal.returns
unfolding of_bits div
returns c = sym (nan_pattern _ (sym c.number.ensures ∙ c.if-number.false))
