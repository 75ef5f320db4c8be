-- The proof of `words::idiv`.
use Rattle.words.proofs.Laws.{idiv_law}
use Rattle.words.proofs.idiv.Goals as goal

pub returns-then-signs_differ : goal.returns-then-signs_differ
returns-then-signs_differ g c =
    rw (
      idiv_law g.W.Word.width _ (g.W.Word.value c.args.b) c.signs_differ.ensures.1,
      ← c.signs_differ.ensures.0,
      c.if-signs_differ.true,
      ← c.magnitude.ensures,
      ← c.magnitude-2.ensures,
      ← c.div-q.ensures,
    ) c.neg.ensures

pub returns-else-signs_differ : goal.returns-else-signs_differ
returns-else-signs_differ g c =
    rw (
      idiv_law g.W.Word.width _ (g.W.Word.value c.args.b) c.signs_differ.ensures.1,
      ← c.signs_differ.ensures.0,
      c.if-signs_differ.false,
      ← c.magnitude.ensures,
      ← c.magnitude-2.ensures,
      ← c.div-q.ensures,
    )
