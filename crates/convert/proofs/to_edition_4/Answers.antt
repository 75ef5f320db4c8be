-- The proof of `convert::to_edition_4`.
use mathlib.Core.Path.{refl, sym, ◌∙◌}
use Rattle.std.proofs.lemmas.Result.{err_from_is_err_and}
use Rattle.reader.proofs.Opening.{refusal_some, opened_refused, opened_packed}
use Rattle.convert.proofs.Refusals.{same_refusal, refused_up}
use Rattle.convert.proofs.to_edition_4.Goals as goal

pub returns-in_err-other_edition : goal.returns-in_err-other_edition
returns-in_err-other_edition c = let p = err_from_is_err_and c.from_residual.result c.from_residual.ensures.1 in
    rw (p.1, p.2) (refused_up c.args.file.now c.args.out.now _ (c.in_err-other_edition.ensures.refuses (refusal_some _)))

pub returns-in_err-c : goal.returns-in_err-c
returns-in_err-c c = let p = err_from_is_err_and c.from_residual-in_err-c.result c.from_residual-in_err-c.ensures.1 in
    rw (p.1, p.2) (refused_up c.args.file.now c.args.out.now _ (opened_refused _ _ c.in_err-c.ensures ∙ sym (same_refusal 3 _ refl (c.in_ok-other_edition.ensures.passes refl))))

pub deliver_fourth-requires : goal.deliver_fourth-requires
deliver_fourth-requires c = (opened_packed _ _ c.in_ok-c.ensures, same_refusal 3 _ refl (c.in_ok-other_edition.ensures.passes refl) ∙ c.in_ok-c.ensures.0)
