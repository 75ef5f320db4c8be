-- `operands::results::replaced` meets its contract. Assumes nothing.
use mathlib.Core.Path.{refl, ap, ◌∙◌, subst}
use Prim.Native.Nat.{◌^◌, ◌<◌}
use native.Mathlib.Omega.{arith}
use Rattle.rules.specs.declared.Slot.{Slot}
use Rattle.state.specs.declared.Progress.TheVariants.{Goes}
use Rattle.state.specs.Slots.{payloads_with, types_with}
use Rattle.operands.proofs.results.replaced.Goals as goal

pub returns-in-Ok : goal.returns-in-Ok
returns-in-Ok c =
    rw c.in-Ok.is (
      (
        ap Goes c.moved.ensures,
        (
          c.put_slot.ensures.0 ∙ ap (payloads_with _ _) c.slot_of.ensures,
          subst (λ (s : Slot). s.payload < 2 ^ 64)
              c.slot_of.ensures (omega (arith, c.slot_of.type_inv)),
        ),
      ),
      c.put_slot.ensures.1 ∙ ap (types_with _ _)
          c.slot_of.ensures,
    )

pub returns-in-Err : goal.returns-in-Err
returns-in-Err c = rw c.in-Err.is ((refl, refl), refl)
