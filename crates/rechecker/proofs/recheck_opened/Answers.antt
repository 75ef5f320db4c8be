use Rattle.rechecker.proofs.Laws.{recheck_missing, recheck_bad, recheck_good, lends_one, record_long}
use native.Mathlib.Omega.{arith}
use Rattle.rechecker.proofs.recheck_opened.Goals as goal

pub overflow_add-bodies : goal.overflow_add-bodies
overflow_add-bodies c = omega (arith, c.requires.0.few_functions)

pub returns-then-bodies-index : goal.returns-then-bodies-index
returns-then-bodies-index c = recheck_missing _ c.requires.1 _ c.requires.0 _ _ _ c.index_of-index.ensures (omega (arith, c.if-bodies-index.true))

pub differs-requires : goal.differs-requires
differs-requires c = (omega arith, omega (arith, c.requires.0.few_functions))

pub returns-then-differs : goal.returns-then-differs
returns-then-differs c = recheck_bad _ c.requires.1 _ c.requires.0 _ _ _ c.index_of-index.ensures (λ h. omega arith) (rw c.if-differs.true at c.differs.ensures)

pub overflow_add-index : goal.overflow_add-index
overflow_add-index c = omega (arith, c.requires.0.few_functions)

pub set_flags-requires : goal.set_flags-requires
set_flags-requires c = lends_one _ c.requires.1 _ c.requires.0 _ _ (λ h. omega arith) (rw c.if-differs.false at c.differs.ensures)

pub first_zero-requires : goal.first_zero-requires
first_zero-requires c = (omega arith, omega (arith, c.requires.0.few_functions), omega (arith, record_long _ c.requires.1 _ c.requires.0 _ (rw c.if-differs.false at c.differs.ensures)))

pub returns : goal.returns
returns c = recheck_good _ c.requires.1 _ c.requires.0 _ _ _ c.index_of-index.ensures (λ h. omega arith) (rw c.if-differs.false at c.differs.ensures) _ c.set_flags.ensures _ c.first_zero.ensures
