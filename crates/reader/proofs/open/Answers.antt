-- The proof of `reader::open`.
use Rattle.reader.proofs.Opening.{too_short, old_header, refused_first, opens}
use Rattle.format.specs.declared.Sections.{Sections}
use Rattle.format.specs.Layout.{Packed}
use Rattle.format.proofs.Rows.{header_of_lem, packed_of}
use Rattle.std.specs.Prelude.{IfOk}
use mathlib.Core.Path.{◌≡◌, sym, ◌∙◌, subst}
use native.Mathlib.Omega.{arith}
use Rattle.std.proofs.lemmas.Result.{err_from_is_err_and}
use Rattle.reader.proofs.open.Goals as goal

pub returns-then-file-lt48 : goal.returns-then-file-lt48
returns-then-file-lt48 c = too_short c.args.file.now c.if-file-lt48.true

pub returns-in_err-header_refusal : goal.returns-in_err-header_refusal
returns-in_err-header_refusal c = let p = err_from_is_err_and c.from_residual.result c.from_residual.ensures.1 in rw (p.1, p.2) (refused_first c.args.file.now _ c.in_err-header_refusal.ensures)

pub header-c-requires : goal.header-c-requires
header-c-requires c = let old = old_header c.args.file.now (λ q. c.if-edition-eq4.false (c.word-edition.ensures.0 ∙ q)) in record { in_bounds = (c.if-file-lt48.false, old.0, omega arith, old.1); stride_value = (old.2, omega arith) }

pub file_refusal-requires : goal.file_refusal-requires
file_refusal-requires c = (subst (λ (x : Sections). Packed c.args.file.now x) (sym c.header-c.ensures) (packed_of c.args.file.now (header_of_lem c.args.file.now (sym c.in_ok-header_refusal.ensures))), (λ q. c.if-edition-eq4.false (c.word-edition.ensures.0 ∙ q)))

pub returns : goal.returns
returns c = opens c.args.file.now (header_of_lem c.args.file.now (sym c.in_ok-header_refusal.ensures)) _ c.file_refusal.ensures.value (subst (λ (x : Sections). IfOk c.file_refusal.result (λ y. y ≡ x)) c.header-c.ensures c.file_refusal.ensures.sections)
