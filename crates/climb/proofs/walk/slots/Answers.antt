use mathlib.Core.Path.{◌∙◌}
use Rattle.soundness.specs.Tests.{none_some}
use Rattle.climb.proofs.Laws.{slots_params, slots_none, slots_one}
use Rattle.climb.proofs.walk.slots.Goals as goal

pub returns-in_default : goal.returns-in_default
returns-in_default c = λ F e. none_some (c.in_default.ensures ∙ e)

pub returns-then-f-eq0 : goal.returns-then-f-eq0
returns-then-f-eq0 c = let is = c.in-Some.ensures in λ F e. (slots_params _ _ c.in-Some.f is F e, slots_none _ _ c.in-Some.f is F e c.if-f-eq0.true)

pub returns : goal.returns
returns c = let is = c.in-Some.ensures in λ F e. (slots_params _ _ c.in-Some.f is F e, slots_one _ _ c.in-Some.f is F e c.if-f-eq0.false)
