-- The proof of `moves::locals::push`.
use mathlib.Core.Path.{◌≡◌, sym, ap, ◌∙◌}
use Rattle.std.specs.Prelude.{None}
use Rattle.reader.specs.Answers.{slot_in}
use Rattle.moves.proofs.LocalLaws.{pool_long, pool_is, push_23, push_is}
use Rattle.moves.proofs.locals.push.Goals as goal

pub pooled-found-requires : goal.pooled-found-requires
pooled-found-requires c = pool_long _ _ c.requires.packed.0 _ c.requires.packed.1

pub returns-in_default : goal.returns-in_default
returns-in_default c = let e : c.pooled-found.result ≡ None = cc in
    λ f k. rw (← c.operand-n.ensures) (push_23 _ _ _ _ f k _ _ (sym (c.pooled-found.ensures ∙ pool_is _ _ c.requires.packed.0 _ c.requires.packed.1 _) ∙ ap slot_in e))

pub returns : goal.returns
returns c = λ f k. rw (← c.operand-n.ensures)
    (push_is _ _ _ _ f k _ _ _ _ _ _ (sym (c.pooled-found.ensures ∙ pool_is _ _ c.requires.packed.0 _ c.requires.packed.1 _) ∙ ap slot_in c.in-Some.is) (c.pushed.ensures f k))
