-- The proof of `convert::down_refusal`.
use mathlib.Core.Path.{sym, ◌∙◌, refl}
use Rattle.reader.proofs.Opening.{opened_refused}
use Rattle.convert.proofs.Refusals.{same_refusal, down_early, down_newer}
use Rattle.convert.proofs.down_refusal.Goals as goal

pub returns-in-Err : goal.returns-in-Err
returns-in-Err c = down_early _ _ (opened_refused _ _ c.in-Err.ensures ∙ sym (same_refusal 4 _ refl c.requires.1))

pub returns-in-Ok : goal.returns-in-Ok
returns-in-Ok c = let r = same_refusal 4 _ refl c.requires.1 ∙ c.in-Ok.ensures.0 in down_newer _ r (c.requires.0 r)
