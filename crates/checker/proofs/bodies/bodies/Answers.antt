use native.Mathlib.Omega.{arith}
use mathlib.Core.Path.{refl, ◌∙◌}
use borrow.Author.Rules.{rules}
use borrow.Author.Tests.{not-true, not-false}
use Rattle.checker.proofs.Starting.{entry_first, function_next, more_left, all_settled}
use Rattle.checker.proofs.bodies.bodies.Goals as goal

pub loop-c-init : goal.loop-c-init
loop-c-init c = (entry_first _ _ _ _ _ c.requires.packed.0 c.requires.packed.1 c.requires.packed.2 c.requires.fits.0 c.requires.fits.1, refl)

pub check_body-typed-requires : goal.check_body-typed-requires
check_body-typed-requires c = record { working = c.loop-c.invariant.0.works; st_len = c.loop-c.invariant.1 ∙ c.requires.fits.2; keyed = c.requires.keyed }

pub shape_of-room-then-not-typed : goal.shape_of-room-then-not-typed
shape_of-room-then-not-typed c = c.check_body-typed.ensures.grows.long ∙ c.loop-c.invariant.0.grows.long

pub shape_of-marks-then-not-typed : goal.shape_of-marks-then-not-typed
shape_of-marks-then-not-typed c = c.check_body-typed.ensures.grows.many ∙ c.loop-c.invariant.0.grows.many

pub returns-then-not-typed : goal.returns-then-not-typed
returns-then-not-typed c = c.loop-c.invariant.0.refutes _ _ (rw (not-true c.check_body-typed.result c.if-not-typed.true-raw) at c.check_body-typed.ensures)

pub shape_of-room-then-i-n : goal.shape_of-room-then-i-n
shape_of-room-then-i-n c = c.check_body-typed.ensures.grows.long ∙ c.loop-c.invariant.0.grows.long

pub shape_of-marks-then-i-n : goal.shape_of-marks-then-i-n
shape_of-marks-then-i-n c = c.check_body-typed.ensures.grows.many ∙ c.loop-c.invariant.0.grows.many

pub returns-then-i-n : goal.returns-then-i-n
returns-then-i-n c = all_settled _ _ _ _ _ c.requires.packed.0 c.requires.packed.1 c.requires.packed.2 c.requires.fits.0 _ _ _ (c.loop-c.invariant.0.settles _ _ (rw (not-false c.check_body-typed.result c.if-not-typed.false-raw) at c.check_body-typed.ensures)) (omega (arith, c.if-i-n.true, c.requires.packed.0.functions_is))

pub overflow_add-i : goal.overflow_add-i
overflow_add-i c = omega (arith, c.loop-c.invariant.0.few, c.requires.packed.0.functions_is, c.requires.packed.0.few_functions)

pub loop-c-smaller : goal.loop-c-smaller
loop-c-smaller c = omega (arith, more_left _ _ _ _ _ c.requires.packed.0 c.requires.packed.1 c.requires.packed.2 c.requires.fits.0 _ c.loop-c.invariant.0.few c.if-i-n.false, c.requires.packed.0.functions_is)

pub loop-c-preserved : goal.loop-c-preserved
loop-c-preserved c = (function_next _ _ _ _ _ c.requires.packed.0 c.requires.packed.1 c.requires.packed.2 c.requires.fits.0 _ _ _ (c.loop-c.invariant.0.settles _ _ (rw (not-false c.check_body-typed.result c.if-not-typed.false-raw) at c.check_body-typed.ensures)) (more_left _ _ _ _ _ c.requires.packed.0 c.requires.packed.1 c.requires.packed.2 c.requires.fits.0 _ c.loop-c.invariant.0.few c.if-i-n.false), search rules)
