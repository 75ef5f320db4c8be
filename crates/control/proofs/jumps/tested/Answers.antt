-- The proof of `control::jumps::tested`.
use native.Mathlib.Omega.{arith}
use mathlib.Core.Path.{◌≡◌, sym, ap, ◌∙◌}
use Rattle.control.proofs.JumpLaws.{branch_27, branch_21, branch_22, branch_goes, popped_int, popped_other}
use Rattle.control.specs.Control.{place_of}
use Rattle.std.specs.Prelude.{None}
use borrow.Enum.Refused.{opened}
use Rattle.control.proofs.jumps.tested.Goals as goal

pub returns-in_default : goal.returns-in_default
returns-in_default c = λ o cap k. let z : ◌≡◌ c.target.result None = cc in
    branch_27 cap _ _ _ _ k _ _ o (sym c.target.ensures ∙ ap place_of z)

pub returns-then-h-r : goal.returns-then-h-r
returns-then-h-r c = λ o cap k. branch_21 cap _ _ _ _ k _ _ o _ (sym c.target.ensures ∙ ap place_of c.in-Some.is) c.if-h-r.true

pub returns-in_default-value_of : goal.returns-in_default-value_of
returns-in_default-value_of c = λ o cap k. branch_22 cap _ _ _ _ k _ _ o _ (sym c.target.ensures ∙ ap place_of c.in-Some.is) _ c.if-h-r.false c.slot_at.ensures (popped_other _ _ c.value_of.ensures (opened c.in_default-value_of.in_default-value_of-own.keys2))

pub returns : goal.returns
returns c = let v = popped_int _ _ (sym c.value_of.ensures ∙ c.in-Int.is) in
    (omega (arith, c.if-h-r.false), λ o cap k. rw v.1 (branch_goes cap _ _ _ _ k _ _ o _ (sym c.target.ensures ∙ ap place_of c.in-Some.is) _ c.if-h-r.false c.slot_at.ensures v.0))
