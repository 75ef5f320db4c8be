-- The proof of `words::sub`.
use Rattle.std.proofs.Common.{◌∙◌}
use Rattle.words.proofs.Laws.{cut_sub}
use Rattle.words.proofs.sub.Goals as goal

pub returns : goal.returns
returns g c =
    c.cut.ensures ∙ rw (c.wide.ensures.0, c.wide-2.ensures.0) (cut_sub g.W.Word.width g.met.W.Word.bits.1 _ _ c.wide-2.ensures.1)
