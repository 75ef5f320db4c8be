-- The proof of `access::pointers::put_back`.
use Rattle.state.specs.declared.Progress.TheVariants.{Goes}
use native.Mathlib.Omega.{arith}
use Prim.Native.Nat.{ℕ, ◌<◌, ◌^◌}
use mathlib.Core.Path.{refl, ap, subst}
use Rattle.access.proofs.pointers.put_back.Goals as goal

pub returns-in-Ok : goal.returns-in-Ok
returns-in-Ok c =
    rw c.in-Ok.is (ap Goes c.moved.ensures, rw (← c.payload_of.ensures) c.put.ensures, subst (λ (n : ℕ). n < 2 ^ 64) c.payload_of.ensures (omega (arith, c.payload_of.type_inv)))

pub returns-in-Err : goal.returns-in-Err
returns-in-Err c =
    rw c.in-Err.is (refl, refl, refl)
