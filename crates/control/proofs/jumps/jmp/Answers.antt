-- The proof of `control::jumps::jmp`.
use mathlib.Core.Path.{◌≡◌, sym, ap, ◌∙◌}
use Rattle.control.proofs.JumpLaws.{jmp_27, jmp_goes}
use Rattle.control.specs.Control.{place_of}
use Rattle.std.specs.Prelude.{None}
use Rattle.control.proofs.jumps.jmp.Goals as goal

pub returns-in_default : goal.returns-in_default
returns-in_default c = λ cap p t k. let z : ◌≡◌ c.target.result None = cc in
    jmp_27 cap _ p t _ k _ _ (sym c.target.ensures ∙ ap place_of z)

pub returns : goal.returns
returns c = λ cap p t k. rw c.moved.ensures (jmp_goes cap _ p t _ k _ _ _ (sym c.target.ensures ∙ ap place_of c.in-Some.is))
