use Rattle.beside.proofs.Laws.{other_length, other_count, other_offset, good_head}
use mathlib.Core.Path.{sym, ◌∙◌}
use Rattle.beside.proofs.differs.Goals as goal

pub returns-then-beside-bodies : goal.returns-then-beside-bodies
returns-then-beside-bodies c = other_length _ _ c.requires.0 c.if-beside-bodies.true

pub returns-then-count-bodies : goal.returns-then-count-bodies
returns-then-count-bodies c = other_count _ _ c.requires.0 (λ e. c.if-count-bodies.true (c.load32-count.ensures.0 ∙ e))

pub returns-then-offset-ne8 : goal.returns-then-offset-ne8
returns-then-offset-ne8 c = other_offset _ _ c.requires.0 (λ e. c.if-offset-ne8.true (c.load32-offset.ensures.0 ∙ e))

pub returns : goal.returns
returns c = c.high_byte.ensures ∙ good_head _ _ c.requires.0 c.if-beside-bodies.false (sym c.load32-count.ensures.0 ∙ c.if-count-bodies.false) (sym c.load32-offset.ensures.0 ∙ c.if-offset-ne8.false)
