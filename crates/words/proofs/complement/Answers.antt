-- The proof of `words::complement`.
use Rattle.std.proofs.Common.{◌∙◌}
use Rattle.rules.specs.Words.{not_of}
use Rattle.words.proofs.Laws.{cut_not}
use Rattle.words.proofs.complement.Goals as goal

pub returns : goal.returns
unfolding not_of
returns g c = c.cut.ensures ∙ rw c.wide.ensures.0 (cut_not g.W.Word.width g.met.W.Word.bits.1 _ c.wide.ensures.1)
