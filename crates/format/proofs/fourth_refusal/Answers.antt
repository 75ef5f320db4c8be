-- The proof of `format::fourth_refusal`.
use mathlib.Core.Path.{refl, sym, ◌∙◌}
use Rattle.rules.specs.Tables.{first_of}
use Rattle.format.proofs.Rows.{short_fourth, long_fourth, from_sizes, fourth_declares}
use Rattle.format.proofs.fourth_refusal.Goals as goal

pub returns-then-file-lt56 : goal.returns-then-file-lt56
unfolding first_of
returns-then-file-lt56 c = simp (short_fourth _ c.requires c.if-file-lt56.true)

pub sizes_refusal-requires : goal.sizes_refusal-requires
sizes_refusal-requires c = fourth_declares _ _ _ c.if-file-lt56.false c.requires c.word-structures.ensures.0 c.word-structures.ensures.1 c.word-structures_at.ensures.0

pub returns : goal.returns
returns c = let e = c.requires in
    c.sizes_refusal.ensures ∙ sym (from_sizes _ (long_fourth _ e c.if-file-lt56.false) (rw e refl))
