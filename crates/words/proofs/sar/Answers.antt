-- The proof of `words::sar`.
use Rattle.std.proofs.Common.{sym, ◌∙◌}
use Rattle.words.proofs.Laws.{sar_low, sar_high, negative_high, positive_low}
use Rattle.words.proofs.sar.Goals as goal

pub returns-then-negative : goal.returns-then-negative
returns-then-negative g c =
    c.complement-then-negative.ensures
    ∙ rw (c.shr.ensures, c.complement.ensures) (sym (sar_high g.W.Word.width _ _ (negative_high g.W.Word.width _ (sym c.negative.ensures.0 ∙ c.if-negative.true)) c.negative.ensures.1))

pub returns-else-negative : goal.returns-else-negative
returns-else-negative g c =
    c.shr-else-negative.ensures
    ∙ sym (sar_low g.W.Word.width _ _ (positive_low g.W.Word.width _ (sym c.negative.ensures.0 ∙ c.if-negative.false)) c.negative.ensures.1)
