-- The proof of `words::negative`.
use Rattle.std.proofs.Common.{not, sym, ap}
use Rattle.words.proofs.Laws.{sign}
use Rattle.words.proofs.negative.Goals as goal

pub returns : goal.returns
returns g c = (rw (c.wide-n.ensures.0, c.top-top.ensures) (ap not (sym (sign g.W.Word.width _))), c.wide-n.ensures.1)
