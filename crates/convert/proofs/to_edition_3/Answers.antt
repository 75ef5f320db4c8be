-- The proof of `convert::to_edition_3`.
use native.Mathlib.Omega.{arith}
use mathlib.Core.Path.{◌≡◌, refl, sym, ◌∙◌, subst}
use Rattle.std.proofs.lemmas.Result.{err_from_is_err_and}
use Rattle.reader.proofs.Opening.{refusal_some, fourth_header}
use Rattle.format.proofs.Rows.{header_of_lem, packed_of}
use Rattle.format.specs.Layout.{Packed}
use Rattle.format.specs.declared.Sections.{Sections}
use Rattle.rules.specs.ModuleFile.{edition}
use Rattle.convert.proofs.Refusals.{same_refusal, early_refusal, down_early, refused_down}
use Rattle.convert.proofs.to_edition_3.Goals as goal

pub returns-in_err-other_edition : goal.returns-in_err-other_edition
returns-in_err-other_edition c = let p = err_from_is_err_and c.from_residual.result c.from_residual.ensures.1 in
    rw (p.1, p.2) (refused_down c.args.file.now c.args.out.now _ (down_early c.args.file.now _ (c.in_err-other_edition.ensures.refuses (refusal_some _))))

pub fourth_refusal-requires : goal.fourth_refusal-requires
fourth_refusal-requires c = c.in_ok-other_edition.ensures.passes refl

pub returns-in_err-fourth_refusal : goal.returns-in_err-fourth_refusal
returns-in_err-fourth_refusal c = let p = err_from_is_err_and c.from_residual-in_err-fourth_refusal.result c.from_residual-in_err-fourth_refusal.ensures.1 in
    rw (p.1, p.2) (refused_down c.args.file.now c.args.out.now _ (down_early c.args.file.now _ (early_refusal c.args.file.now _ c.in_err-fourth_refusal.ensures ∙ sym (same_refusal 4 c.args.file.now refl (c.in_ok-other_edition.ensures.passes refl)))))

pub word-structures-requires : goal.word-structures-requires
word-structures-requires c = let l = fourth_header c.args.file.now (c.in_ok-other_edition.ensures.passes refl) (header_of_lem c.args.file.now (sym c.in_ok-fourth_refusal.ensures)) in omega arith

pub header-c-requires : goal.header-c-requires
header-c-requires c = let q : edition c.args.file.now ≡ 4 = (c.in_ok-other_edition.ensures.passes refl) in
    let l = fourth_header c.args.file.now q (header_of_lem c.args.file.now (sym c.in_ok-fourth_refusal.ensures)) in
    record { in_bounds = (omega arith, rw q refl, omega arith, rw q c.word-structures.ensures.0); stride_value = (rw q refl, omega arith) }

pub in_third-goes-requires : goal.in_third-goes-requires
in_third-goes-requires c = record { packed = (subst (λ (x : Sections). Packed c.args.file.now x) (sym c.header-c.ensures) (packed_of c.args.file.now (header_of_lem c.args.file.now (sym c.in_ok-fourth_refusal.ensures)))); fourth = (c.in_ok-other_edition.ensures.passes refl); rows = sym c.in_ok-fourth_refusal.ensures }

pub deliver_third-requires : goal.deliver_third-requires
deliver_third-requires c = ((subst (λ (x : Sections). Packed c.args.file.now x) (sym c.header-c.ensures) (packed_of c.args.file.now (header_of_lem c.args.file.now (sym c.in_ok-fourth_refusal.ensures)))), (c.in_ok-other_edition.ensures.passes refl), c.in_third-goes.ensures.bare c.if-goes.true, c.in_third-goes.ensures.allowed c.if-goes.true)

pub down_refusal-requires : goal.down_refusal-requires
down_refusal-requires c = (c.in_third-goes.ensures.newer c.if-goes.false, (c.in_ok-other_edition.ensures.passes refl))

pub returns : goal.returns
returns c = refused_down c.args.file.now c.args.out.now _ c.down_refusal.ensures
