-- `operands::pointers::put_back` meets its contract. Assumes nothing.
use mathlib.Core.Path.{refl, ap, ◌∙◌, subst}
use Prim.Native.Nat.{ℕ, ◌^◌, ◌<◌}
use native.Mathlib.Omega.{arith}
use Rattle.state.specs.declared.Progress.TheVariants.{Goes}
use Rattle.state.specs.Slots.{payloads_with}
use Rattle.rules.specs.Bytes.{written}
use Rattle.operands.proofs.pointers.put_back.Goals as goal

pub returns-in-Ok : goal.returns-in-Ok
unfolding payloads_with
returns-in-Ok c =
    rw c.in-Ok.is (
      ap Goes c.moved.ensures,
      (
        c.store64.ensures ∙ ap (written 8 _ _) c.payload_of.ensures,
        subst (λ (n : ℕ). n < 2 ^ 64)
            c.payload_of.ensures (omega (arith, c.payload_of.type_inv)),
      ),
    )

pub returns-in-Err : goal.returns-in-Err
returns-in-Err c = rw c.in-Err.is (refl, refl)
