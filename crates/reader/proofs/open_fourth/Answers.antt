-- The proof of `reader::open_fourth`.
use Rattle.reader.proofs.Opening.{refused_first, refused_later, not_refused, fourth_header}
use Rattle.format.specs.declared.Sections.{Sections}
use Rattle.format.specs.Layout.{Packed}
use Rattle.format.proofs.Rows.{header_of_lem, packed_of}
use mathlib.Core.Path.{refl, sym, subst}
use native.Mathlib.Omega.{arith}
use Rattle.std.proofs.lemmas.Result.{err_from_is_err_and}
use Rattle.reader.proofs.open_fourth.Goals as goal

pub returns-in_err-fourth_refusal : goal.returns-in_err-fourth_refusal
returns-in_err-fourth_refusal c = let p = err_from_is_err_and c.from_residual.result c.from_residual.ensures.1 in rw (p.1, p.2) (refused_first c.args.file.now _ c.in_err-fourth_refusal.ensures)

pub word-structures-requires : goal.word-structures-requires
word-structures-requires c = let l = fourth_header c.args.file.now c.requires (header_of_lem c.args.file.now (sym c.in_ok-fourth_refusal.ensures)) in omega arith

pub header-c-requires : goal.header-c-requires
header-c-requires c = let l = fourth_header c.args.file.now c.requires (header_of_lem c.args.file.now (sym c.in_ok-fourth_refusal.ensures)) in record { in_bounds = (omega arith, rw c.requires refl, omega arith, rw c.requires c.word-structures.ensures.0); stride_value = (rw c.requires refl, omega arith) }

pub fourth_refusal-requires-2 : goal.fourth_refusal-requires-2
fourth_refusal-requires-2 c = (subst (λ (x : Sections). Packed c.args.file.now x) (sym c.header-c.ensures) (packed_of c.args.file.now (header_of_lem c.args.file.now (sym c.in_ok-fourth_refusal.ensures))), c.requires)

pub returns-in_err-fourth_refusal-2 : goal.returns-in_err-fourth_refusal-2
returns-in_err-fourth_refusal-2 c = let p = err_from_is_err_and c.from_residual-in_err-fourth_refusal-2.result c.from_residual-in_err-fourth_refusal-2.ensures.1 in
    rw (p.1, p.2) (refused_later c.args.file.now _ (header_of_lem c.args.file.now (sym c.in_ok-fourth_refusal.ensures)) c.in_err-fourth_refusal-2.ensures)

pub returns : goal.returns
returns c = not_refused c.args.file.now (header_of_lem c.args.file.now (sym c.in_ok-fourth_refusal.ensures)) c.in_ok-fourth_refusal-2.ensures _ c.header-c.ensures
