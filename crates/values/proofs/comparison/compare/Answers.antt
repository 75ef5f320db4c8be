-- `values::comparison::compare` meets its contract. Assumes nothing.
use mathlib.Core.Path.{refl, sym, ap, ◌∙◌}
use Rattle.values.specs.Values.{gives}
use Rattle.values.proofs.Cases.{int_apart, long_apart, double_apart, pointer_apart}
use Rattle.values.proofs.Order.{cmp_unlike, cmp_ints, cmp_longs, cmp_doubles, cmp_nan, cmp_across, cmp_pointers}
use borrow.Enum.Refused.{opened}
use Rattle.values.proofs.comparison.compare.Goals as goal

pub returns-in_default : goal.returns-in_default
returns-in_default g c =
    cmp_unlike _ (int_apart c.args.b c.in-Int.is (opened c.in_default.in_default-own.keys2)) refl

pub returns-in_default-b : goal.returns-in_default-b
returns-in_default-b g c =
    cmp_unlike _ (long_apart c.args.b c.in-Long.is (opened c.in_default-b.in_default-b-own.keys2)) refl

pub returns-in_default-b-2 : goal.returns-in_default-b-2
returns-in_default-b-2 g c =
    cmp_unlike _ (double_apart c.args.b c.in-Double.is (opened c.in_default-b-2.in_default-b-2-own.keys2)) refl

pub returns-then-unordered : goal.returns-then-unordered
returns-then-unordered g c =
    cmp_nan _ c.in-Double.is c.in-Double-b.is (sym c.unordered-unordered.ensures ∙ c.if-unordered.true) refl

pub returns-in_default-b-3 : goal.returns-in_default-b-3
returns-in_default-b-3 g c =
    cmp_unlike _ (pointer_apart c.args.b c.in-Pointer.is (opened c.in_default-b-3.in_default-b-3-own.keys2)) refl

pub returns-then-g-h : goal.returns-then-g-h
returns-then-g-h g c =
    cmp_across _ c.in-Pointer.is c.in-Pointer-b.is c.if-g-h.true refl

pub returns-in-Int-b : goal.returns-in-Int-b
returns-in-Int-b g c =
    cmp_ints _ c.in-Int.is c.in-Int-b.is (ap (gives 3) c.order.ensures)

pub returns-in-Long-b : goal.returns-in-Long-b
returns-in-Long-b g c =
    cmp_longs _ c.in-Long.is c.in-Long-b.is (ap (gives 3) c.order-in-Long.ensures)

pub returns-else-unordered : goal.returns-else-unordered
returns-else-unordered g c =
    cmp_doubles _ c.in-Double.is c.in-Double-b.is (sym c.unordered-unordered.ensures ∙ c.if-unordered.false)
    (ap (gives 3) c.compare.ensures)

pub returns-else-g-h : goal.returns-else-g-h
returns-else-g-h g c =
    cmp_pointers _ c.in-Pointer.is c.in-Pointer-b.is c.if-g-h.false (ap (gives 3) c.cmp.ensures)
