-- The proof of `words::xor`.
use Rattle.std.proofs.Common.{◌∙◌, mod-eq_of_lt}
use Rattle.std.proofs.lemmas.Nat.{xor_lt}
use Rattle.words.proofs.xor.Goals as goal

pub returns : goal.returns
returns g c = c.cut.ensures ∙ rw (c.wide.ensures.0, c.wide-2.ensures.0) (mod-eq_of_lt (xor_lt g.W.Word.width _ _ c.wide.ensures.1 c.wide-2.ensures.1))
