-- The proof of `words::mul`.
use Rattle.std.proofs.Common.{◌∙◌}
use Rattle.words.proofs.Laws.{cut_mod}
use Rattle.words.proofs.mul.Goals as goal

pub returns : goal.returns
returns g c =
    c.cut.ensures ∙ rw (c.wide.ensures.0, c.wide-2.ensures.0) (cut_mod g.W.Word.width g.met.W.Word.bits.1 _)
