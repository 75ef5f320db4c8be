use native.Mathlib.Omega.{arith}
use mathlib.Core.Path.{refl, ap}
use Prim.Native.Nat.{ℕ, ◌*◌}
use Rattle.nodes.proofs.Copies.{zeros_at}
use Rattle.checker.proofs.Growth.{fits_grows}
use Rattle.checker.proofs.Verdicts.{room_enough, fits_first, typed_check, untyped_check}
use borrow.Author.Rules.{rules}
use Rattle.checker.proofs.check_with.Goals as goal

pub bodies-verdict-requires : goal.bodies-verdict-requires
bodies-verdict-requires c = record { packed = (c.requires.packed.0, c.requires.packed.1, c.fill.ensures); fits = (fits_first _ _ _ c.requires.packed.0 c.requires.packed.2, zeros_at 514, refl); keyed = c.requires.keyed }

pub finish-requires : goal.finish-requires
finish-requires c = record { packed = (c.requires.packed.0, c.requires.packed.1, c.fill.ensures); fits = (fits_grows _ _ _ _ _ (fits_first _ _ _ c.requires.packed.0 c.requires.packed.2) c.bodies-verdict.ensures.grows, search rules) }

pub overflow_cast-result : goal.overflow_cast-result
overflow_cast-result c = let v = rw c.in-Err.is at c.bodies-verdict.ensures in omega (arith, v.decides.2)

pub returns-in-Ok : goal.returns-in-Ok
returns-in-Ok c = record { check_is = typed_check _ c.requires.packed.1 _ (room_enough _ _ c.args.room.now c.requires.packed.0 c.requires.packed.2) _ _ _ _ c.fill.ensures (rw c.in-Ok.is at c.bodies-verdict.ensures) _ c.finish.ensures; tabled = c.fill.ensures }

pub returns-in-Err : goal.returns-in-Err
returns-in-Err c = record { check_is = untyped_check _ c.requires.packed.1 _ (room_enough _ _ c.args.room.now c.requires.packed.0 c.requires.packed.2) _ _ _ _ _ (rw c.in-Err.is at c.bodies-verdict.ensures) _ (ap (λ (k : ℕ). 64 * k) c.requires.packed.0.labels_is) _ c.zero.ensures; tabled = c.fill.ensures }
