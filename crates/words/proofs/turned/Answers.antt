-- The proof of `words::turned`.
use Rattle.std.proofs.Common.{◌∙◌}
use Rattle.words.proofs.Laws.{cut_mod}
use Rattle.words.proofs.turned.Goals as goal

pub returns : goal.returns
returns g c = (c.cut.ensures ∙ rw (c.wide.ensures.0, c.top.ensures) (cut_mod g.W.Word.width g.met.W.Word.bits.1 _), c.wide.ensures.1)
