-- The proof of `words::shl`.
use Rattle.std.proofs.Common.{sym, ◌∙◌, arith}
use Rattle.words.proofs.Laws.{cut_shl, shl_out, gone}
use Rattle.words.proofs.shl.Goals as goal

pub returns-then-n-lt64 : goal.returns-then-n-lt64
returns-then-n-lt64 g c = c.cut.ensures ∙ rw (c.wide-x.ensures.0, c.wide-n.ensures.0) (cut_shl g.W.Word.width g.met.W.Word.bits.1 _ _)

pub returns-else-n-lt64 : goal.returns-else-n-lt64
returns-else-n-lt64 g c =
    c.cut-else-n-lt64.ensures ∙ gone g.W.Word.width ∙ sym (shl_out g.W.Word.width _ _ (omega (arith, c.if-n-lt64.false, c.wide-n.ensures.0, g.met.W.Word.bits.1)))
