-- The proof of `words::shr`.
use Rattle.std.proofs.Common.{sym, ◌∙◌, arith}
use Rattle.words.proofs.Laws.{cut_shr, shr_out, gone}
use Rattle.words.proofs.shr.Goals as goal

pub returns-then-n-lt64 : goal.returns-then-n-lt64
returns-then-n-lt64 g c = c.cut.ensures ∙ rw (c.wide-x.ensures.0, c.wide-n.ensures.0) (cut_shr g.W.Word.width _ _ c.wide-x.ensures.1)

pub returns-else-n-lt64 : goal.returns-else-n-lt64
returns-else-n-lt64 g c =
    c.cut-else-n-lt64.ensures ∙ gone g.W.Word.width
    ∙ sym (shr_out g.W.Word.width _ _ c.wide-x.ensures.1 (omega (arith, c.if-n-lt64.false, c.wide-n.ensures.0, g.met.W.Word.bits.1)))
