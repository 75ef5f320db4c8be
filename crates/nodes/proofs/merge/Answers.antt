use mathlib.Core.Path.{refl}
use Rattle.nodes.proofs.merge.Goals as goal

pub append-requires : goal.append-requires
append-requires c = (c.requires.whole.0, c.requires.k_in_bounds.1, c.requires.whole.1 c.if-mark-eq0.true)

pub returns-then-mark-eq0 : goal.returns-then-mark-eq0
returns-then-mark-eq0 c = record { first = λ e. (refl, c.save.ensures, c.append.ensures); later = λ n. absurd (n c.if-mark-eq0.true) }

pub returns : goal.returns
returns c = record { first = λ e. absurd (c.if-mark-eq0.false e); later = λ n. (refl, refl, c.is_same.ensures.room_value, c.is_same.ensures.fact) }
