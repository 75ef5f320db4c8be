-- The proof of `words::imod`.
use Rattle.words.proofs.Laws.{imod_law}
use Rattle.words.proofs.imod.Goals as goal

pub returns-then-negative : goal.returns-then-negative
returns-then-negative g c =
    rw (
      imod_law g.W.Word.width _ (g.W.Word.value c.args.b) c.negative.ensures.1,
      ← c.negative.ensures.0,
      c.if-negative.true,
      ← c.magnitude.ensures,
      ← c.magnitude-2.ensures,
      ← c.modulo-m.ensures,
    ) c.neg.ensures

pub returns-else-negative : goal.returns-else-negative
returns-else-negative g c =
    rw (
      imod_law g.W.Word.width _ (g.W.Word.value c.args.b) c.negative.ensures.1,
      ← c.negative.ensures.0,
      c.if-negative.false,
      ← c.magnitude.ensures,
      ← c.magnitude-2.ensures,
      ← c.modulo-m.ensures,
    )
