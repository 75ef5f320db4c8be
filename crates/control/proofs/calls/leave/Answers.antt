-- The proof of `control::calls::leave`.
use mathlib.Core.Path.{ap, ◌∙◌}
use Rattle.state.specs.declared.Progress.TheVariants.{Goes, Finishes}
use Rattle.control.proofs.ReturnLaws.{past_frame_lem, past_first}
use Rattle.control.proofs.calls.leave.Goals as goal

pub returns-then-frame-eq0 : goal.returns-then-frame-eq0
returns-then-frame-eq0 c = ap Finishes c.moved.ensures ∙ past_first c.args.r c.args.f.now c.args.height c.requires.1 c.if-frame-eq0.true

pub returns : goal.returns
returns c = ap Goes c.restored.ensures ∙ past_frame_lem _ _ _ c.requires.1 c.if-frame-eq0.false
