-- The proof of `words::neg`.
use Rattle.std.proofs.Common.{◌∙◌}
use Rattle.words.proofs.Laws.{cut_neg}
use Rattle.words.proofs.neg.Goals as goal

pub returns : goal.returns
returns g c =
    c.cut.ensures ∙ rw (c.wide.ensures.0) (cut_neg g.W.Word.width g.met.W.Word.bits.1 _ c.wide.ensures.1)
