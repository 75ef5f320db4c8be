-- The proof of `convert::in_third_with`.
use native.Mathlib.Omega.{arith}
use mathlib.Core.Path.{refl, sym, ◌∙◌}
use Rattle.reader.proofs.Opening.{tables_same}
use Rattle.rules.specs.ModuleFile.{tables_in}
use Rattle.convert.proofs.Parts.{third_places, third_lent, third_fits, profiles_lent}
use Rattle.convert.proofs.Down.{has_profile, not_down, goes_down}
use Rattle.convert.proofs.in_third_with.Goals as goal

pub lower-profiles-requires : goal.lower-profiles-requires
lower-profiles-requires c = (omega (arith, (third_places c.args.file.now c.args.c c.requires.0.packed c.requires.0.fourth).table), omega arith)

pub returns-then-profiles : goal.returns-then-profiles
returns-then-profiles c = not_down c.args.file.now c.args.c (has_profile (tables_in c.args.file.now) (sym (profiles_lent c.args.file.now c.args.c c.requires.0.packed c.requires.0.fourth _ c.lower-profiles.ensures.value) ∙ c.if-profiles.true))

pub slice_bounds-content_refusal-count : goal.slice_bounds-content_refusal-count
slice_bounds-content_refusal-count c = (third_places c.args.file.now c.args.c c.requires.0.packed c.requires.0.fourth).records_at

pub slice_bounds-content_refusal-start : goal.slice_bounds-content_refusal-start
slice_bounds-content_refusal-start c = (third_places c.args.file.now c.args.c c.requires.0.packed c.requires.0.fourth).records_at

pub content_refusal-content-requires : goal.content_refusal-content-requires
content_refusal-content-requires c = let f = third_fits c.args.file.now c.args.c c.requires.0.packed c.requires.0.fourth _ (third_lent c.args.file.now c.args.c c.requires.0.packed c.requires.0.fourth c.args.table.now _ c.lower-profiles.ensures.out_after) in (f.0, refl, f.1)

pub returns : goal.returns
returns c = goes_down c.args.file.now c.args.c c.requires.0 c.requires.1 _ (profiles_lent c.args.file.now c.args.c c.requires.0.packed c.requires.0.fourth _ c.lower-profiles.ensures.value) c.if-profiles.false c.content_refusal-content.result (tables_same _ _ (third_lent c.args.file.now c.args.c c.requires.0.packed c.requires.0.fourth c.args.table.now _ c.lower-profiles.ensures.out_after) _ c.content_refusal-content.ensures) _ c.is_ok.ensures.value
