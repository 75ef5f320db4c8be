-- The proof of `words::magnitude`.
use Rattle.std.proofs.Common.{sym, ◌∙◌}
use Rattle.words.proofs.Laws.{magnitude_low, magnitude_high, negative_high, positive_low}
use Rattle.words.proofs.magnitude.Goals as goal

pub returns-then-negative : goal.returns-then-negative
returns-then-negative g c =
    c.neg.ensures
    ∙ sym (magnitude_high g.W.Word.width _ (negative_high g.W.Word.width _ (sym c.negative.ensures.0 ∙ c.if-negative.true)) c.negative.ensures.1)

pub returns-else-negative : goal.returns-else-negative
returns-else-negative g c = sym (magnitude_low g.W.Word.width _ (positive_low g.W.Word.width _ (sym c.negative.ensures.0 ∙ c.if-negative.false)))
