-- `arithmetic::unlike` meets its contract. Assumes nothing.
use mathlib.Core.Path.{sym}
use borrow.Author.Tests.{ne_eqb}
use Rattle.arithmetic.specs.Arithmetic.{unlike_of}
use Rattle.soundness.specs.Invariant.{ptr_is_pointer}
use Rattle.values.specs.Values.{kind_of_value}
use Rattle.values.proofs.Cases.{apart, but_pointer}
use borrow.Enum.Refused.{opened}
use Rattle.arithmetic.proofs.unlike.Goals as goal

pub returns-in_default : goal.returns-in_default
unfolding unlike_of
returns-in_default c =
    rw (ne_eqb (kind_of_value c.args.b) 7 (λ e. apart 7 but_pointer c.args.b tt (opened c.in_default.in_default-own.keys2) (sym e)), ne_eqb (kind_of_value c.args.b) 8 (λ e. apart 8 but_pointer c.args.b tt (opened c.in_default.in_default-own.keys2) (sym e)))

pub returns : goal.returns
unfolding unlike_of
returns c = rw (c.in-Pointer.is, ptr_is_pointer c.in-Pointer.field-0)
