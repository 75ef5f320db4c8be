-- `values::single::tod_value` meets its contract. Assumes nothing.
use Rattle.rules.specs.Operations.{converted}
use Rattle.values.proofs.Cases.{int_kind, long_kind, double_kind, pointer_told}
use Rattle.values.proofs.single.tod_value.Goals as goal

pub returns-in-Int : goal.returns-in-Int
unfolding converted
returns-in-Int c = λ s k n e. let f = int_kind s k e c.in-Int.is in rw (c.tod_int.ensures, f.1, f.0)

pub returns-in-Long : goal.returns-in-Long
unfolding converted
returns-in-Long c = λ s k n e. let f = long_kind s k e c.in-Long.is in rw (c.tod_long.ensures, f.1, f.0)

pub returns-in-Double : goal.returns-in-Double
returns-in-Double c = λ s k n e. let f = double_kind s k e c.in-Double.is in absurd (n f.0)

pub returns-in-Pointer : goal.returns-in-Pointer
returns-in-Pointer c = λ s k n e. rw (pointer_told s k e c.in-Pointer.is)
