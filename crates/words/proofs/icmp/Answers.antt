-- The proof of `words::icmp`.
use Rattle.std.proofs.Common.{sym, ap₂, ◌∙◌}
use Rattle.rules.specs.Words.{cmp_of}
use Rattle.words.proofs.Laws.{icmp_law}
use Rattle.words.proofs.icmp.Goals as goal

pub returns : goal.returns
returns g c =
    c.cmp.ensures ∙ ap₂ cmp_of c.turned.ensures.0 c.turned-2.ensures.0
    ∙ sym (icmp_law g.W.Word.width g.met.W.Word.bits.0 _ _ c.turned.ensures.1 c.turned-2.ensures.1)
