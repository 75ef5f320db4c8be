-- The proof of `reader::file_refusal`.
use Rattle.reader.proofs.Opening.{sixth, from_bodies, seventh, from_code, from_code_alone, functions_lent_lem, third_rows}
use Rattle.reader.proofs.Bodies.{filled_of}
use Rattle.reader.proofs.Records.{few_rest, old_pool, structures_rest, labels_length, lent_tables, lent_fits, lent_count}
use Rattle.rules.specs.Tables.{Tables, label_count}
use Rattle.rules.specs.ModuleFile.{edition, structures_in, labels_in}
use Rattle.format.specs.declared.Sections.{Sections}
use Rattle.format.specs.Layout.{Packed}
use Prim.Native.Nat.{ℕ, ◌-◌}
use lib.ListN.{take, drop}
use mathlib.Core.List.{List}
use mathlib.Core.Path.{◌≡◌, refl, sym, ap, ◌∙◌}
use native.Mathlib.Omega.{arith}
use Rattle.std.proofs.lemmas.Result.{err_from_is_err_and}
use Rattle.reader.proofs.file_refusal.Goals as goal

-- the table of labels that is lent has none where the file has none
no_label : (s : List ℕ) (c : Sections) (p : Packed s c) → (edition s ≡ 4 → ⊥) → 3 ≡ edition s → c.labels ≡ 0 → label_count (take (c.code - c.targets) (drop c.targets s)) ≡ 0
no_label s c p h third none =
    let lent = lent_tables s c p 3 48 (structures_in s) third (old_pool s c p h) refl in
    let read : label_count (labels_in s) ≡ 0 = omega (arith, labels_length s c p, none) in
    ap (λ (t : Tables). label_count t.labels) lent ∙ read

pub slice_bounds-bad_constants-count : goal.slice_bounds-bad_constants-count
slice_bounds-bad_constants-count c = omega (arith, old_pool c.args.file.now c.args.c c.requires.0 c.requires.1)

pub slice_bounds-bad_constants-start : goal.slice_bounds-bad_constants-start
slice_bounds-bad_constants-start c = omega (arith, old_pool c.args.file.now c.args.c c.requires.0 c.requires.1)

pub returns-then-sixth-clause-value : goal.returns-then-sixth-clause-value
returns-then-sixth-clause-value c = sixth _ _ (lent_tables c.args.file.now c.args.c c.requires.0 _ 48 (structures_in c.args.file.now) refl (old_pool c.args.file.now c.args.c c.requires.0 c.requires.1) refl) _ c.bad_constants-sixth.ensures c.if-sixth.true

pub word-edition-requires : goal.word-edition-requires
word-edition-requires c = omega (arith, old_pool c.args.file.now c.args.c c.requires.0 c.requires.1)

pub bodies_refusal-requires : goal.bodies_refusal-requires
bodies_refusal-requires c = (lent_fits c.args.file.now c.args.c c.requires.0 _ c.word-edition.ensures.0, rw c.word-edition.ensures.0 c.requires.0.known, few_rest c.args.file.now c.args.c c.requires.0 _ c.word-edition.ensures.0)

pub bad_records-seventh-requires : goal.bad_records-seventh-requires
bad_records-seventh-requires c = let third = (sym c.word-edition.ensures.0 ∙ c.if-edition-ne3.false) in (omega arith, lent_fits c.args.file.now c.args.c c.requires.0 3 (sym third), lent_count c.args.file.now c.args.c c.requires.0 3 (sym third))

pub returns-then-seventh-clause-value : goal.returns-then-seventh-clause-value
returns-then-seventh-clause-value c = let third = (sym c.word-edition.ensures.0 ∙ c.if-edition-ne3.false) in third_rows c.args.file.now c.args.c c.requires.0 third _ c.bad_constants-sixth.ensures c.if-sixth.false _ (seventh _ _ _ _ _ _ _ (functions_lent_lem c.args.file.now c.args.c c.requires.0 third _ c.bad_records-seventh.ensures) c.if-seventh.true)

pub without_labels-requires : goal.without_labels-requires
without_labels-requires c = let third = (sym c.word-edition.ensures.0 ∙ c.if-edition-ne3.false) in (filled_of _ _ _ 3 _ (structures_in c.args.file.now) (lent_count c.args.file.now c.args.c c.requires.0 3 (sym third)) (lent_fits c.args.file.now c.args.c c.requires.0 3 (sym third)) (sym (functions_lent_lem c.args.file.now c.args.c c.requires.0 third _ c.bad_records-seventh.ensures) ∙ c.if-seventh.false), refl)

pub sized_refusal-requires : goal.sized_refusal-requires
sized_refusal-requires c = let third = (sym c.word-edition.ensures.0 ∙ c.if-edition-ne3.false) in (filled_of _ _ _ 3 _ (structures_in c.args.file.now) (lent_count c.args.file.now c.args.c c.requires.0 3 (sym third)) (lent_fits c.args.file.now c.args.c c.requires.0 3 (sym third)) (sym (functions_lent_lem c.args.file.now c.args.c c.requires.0 third _ c.bad_records-seventh.ensures) ∙ c.if-seventh.false), refl)

pub returns-in_err-bodies_refusal-clause-value : goal.returns-in_err-bodies_refusal-clause-value
returns-in_err-bodies_refusal-clause-value c = let p = err_from_is_err_and c.from_residual.result c.from_residual.ensures.1 in
    rw (p.1, p.2) (from_bodies _ _ (lent_tables c.args.file.now c.args.c c.requires.0 _ 48 _ c.word-edition.ensures.0 (old_pool c.args.file.now c.args.c c.requires.0 c.requires.1) (structures_rest c.args.file.now c.args.c c.requires.0)) _ c.bad_constants-sixth.ensures c.if-sixth.false _ c.in_err-bodies_refusal.ensures)

pub returns-then-edition-ne3-clause-value : goal.returns-then-edition-ne3-clause-value
returns-then-edition-ne3-clause-value c = from_bodies _ _ (lent_tables c.args.file.now c.args.c c.requires.0 _ 48 _ c.word-edition.ensures.0 (old_pool c.args.file.now c.args.c c.requires.0 c.requires.1) (structures_rest c.args.file.now c.args.c c.requires.0)) _ c.bad_constants-sixth.ensures c.if-sixth.false _ c.in_ok-bodies_refusal.ensures

pub returns-in_err-without_labels-clause-value : goal.returns-in_err-without_labels-clause-value
returns-in_err-without_labels-clause-value c = let p = err_from_is_err_and c.from_residual-in_err-without_labels.result c.from_residual-in_err-without_labels.ensures.1 in
    let third = (sym c.word-edition.ensures.0 ∙ c.if-edition-ne3.false) in
    rw (p.1, p.2) (third_rows c.args.file.now c.args.c c.requires.0 third _ c.bad_constants-sixth.ensures c.if-sixth.false _ (from_code_alone _ _ _ _ _ _ _ (functions_lent_lem c.args.file.now c.args.c c.requires.0 third _ c.bad_records-seventh.ensures) c.if-seventh.false _ (no_label c.args.file.now c.args.c c.requires.0 c.requires.1 (sym third) c.if-c-eq0.true) c.in_err-without_labels.ensures))

pub returns-then-c-eq0-clause-value : goal.returns-then-c-eq0-clause-value
returns-then-c-eq0-clause-value c = let third = (sym c.word-edition.ensures.0 ∙ c.if-edition-ne3.false) in
    third_rows c.args.file.now c.args.c c.requires.0 third _ c.bad_constants-sixth.ensures c.if-sixth.false _ (from_code_alone _ _ _ _ _ _ _ (functions_lent_lem c.args.file.now c.args.c c.requires.0 third _ c.bad_records-seventh.ensures) c.if-seventh.false _ (no_label c.args.file.now c.args.c c.requires.0 c.requires.1 (sym third) c.if-c-eq0.true) c.in_ok-without_labels.ensures)

pub returns-in_err-sized_refusal-clause-value : goal.returns-in_err-sized_refusal-clause-value
returns-in_err-sized_refusal-clause-value c = let p = err_from_is_err_and c.from_residual-in_err-sized_refusal.result c.from_residual-in_err-sized_refusal.ensures.1 in
    let third = (sym c.word-edition.ensures.0 ∙ c.if-edition-ne3.false) in
    rw (p.1, p.2) (third_rows c.args.file.now c.args.c c.requires.0 third _ c.bad_constants-sixth.ensures c.if-sixth.false _ (from_code _ _ _ _ _ _ _ (functions_lent_lem c.args.file.now c.args.c c.requires.0 third _ c.bad_records-seventh.ensures) c.if-seventh.false _ c.in_err-sized_refusal.ensures))

pub returns-clause-value : goal.returns-clause-value
returns-clause-value c = let third = (sym c.word-edition.ensures.0 ∙ c.if-edition-ne3.false) in
    third_rows c.args.file.now c.args.c c.requires.0 third _ c.bad_constants-sixth.ensures c.if-sixth.false _ (from_code _ _ _ _ _ _ _ (functions_lent_lem c.args.file.now c.args.c c.requires.0 third _ c.bad_records-seventh.ensures) c.if-seventh.false _ c.in_ok-sized_refusal.ensures)
