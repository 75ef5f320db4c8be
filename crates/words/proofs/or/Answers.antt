-- The proof of `words::or`.
use Rattle.std.proofs.Common.{◌∙◌, mod-eq_of_lt}
use Rattle.std.proofs.lemmas.Nat.{or_lt}
use Rattle.words.proofs.or.Goals as goal

pub returns : goal.returns
returns g c = c.cut.ensures ∙ rw (c.wide.ensures.0, c.wide-2.ensures.0) (mod-eq_of_lt (or_lt g.W.Word.width _ _ c.wide.ensures.1 c.wide-2.ensures.1))
