-- The proof of `desk::text::put_digits`, which calls itself.
use native.Mathlib.Omega.{arith}
use Rattle.desk.proofs.Texts.{digits_0, digits_1, digits_2}
use Rattle.desk.proofs.text.+put_digits.Goals as goal

pub returns-then-d-eq0 : goal.returns-then-d-eq0
returns-then-d-eq0 t c = digits_0 _ _ _ _ c.if-d-eq0.true

pub bounds-out-at : goal.bounds-out-at
bounds-out-at t c = omega (arith, c.requires)

pub overflow_add-result : goal.overflow_add-result
overflow_add-result t c = omega (arith, c.requires)

pub returns-then-n-lt10 : goal.returns-then-n-lt10
returns-then-n-lt10 t c = digits_1 _ _ _ _ c.if-d-eq0.false c.if-n-lt10.true c.requires

pub overflow_sub-d : goal.overflow_sub-d
overflow_sub-d t c = omega (arith, c.if-d-eq0.false)

pub put_digits-e-requires : goal.put_digits-e-requires
put_digits-e-requires t c = (omega (arith, c.decreases, c.if-d-eq0.false), omega (arith, c.requires))

pub bounds-out-e : goal.bounds-out-e
bounds-out-e t c = omega (arith, c.requires, c.put_digits-e.ensures.within, c.put_digits-e.auto.out, c.if-d-eq0.false, c.well_formed.1.1.0.0)

pub overflow_add-result-2 : goal.overflow_add-result-2
overflow_add-result-2 t c = omega (arith, c.requires, c.put_digits-e.ensures.within, c.put_digits-e.auto.out, c.if-d-eq0.false, c.well_formed.1.1.0.0)

pub returns : goal.returns
returns t c = digits_2 _ _ _ _ _ _ c.if-d-eq0.false c.if-n-lt10.false c.requires c.put_digits-e.auto.out c.put_digits-e.ensures
