-- The proof of `convert::put_fourth`.
use native.Mathlib.Omega.{arith}
use Prim.Native.Nat.{ℕ, ◌+◌, ◌*◌, ◌≤◌}
use mathlib.Core.Path.{sym, ◌∙◌, subst}
use Rattle.convert.proofs.Parts.{up_places, up_parts}
use Rattle.convert.proofs.put_fourth.Goals as goal

pub slice_bounds-put_header-end : goal.slice_bounds-put_header-end
slice_bounds-put_header-end c = (up_places c.args.file.now c.args.c c.requires.0 c.requires.1 _ c.requires.2).header

pub slice_bounds-put_section-count : goal.slice_bounds-put_section-count
slice_bounds-put_section-count c = (up_places c.args.file.now c.args.c c.requires.0 c.requires.1 _ c.requires.2).functions_at_lem

pub slice_bounds-put_section-start : goal.slice_bounds-put_section-start
slice_bounds-put_section-start c = (up_places c.args.file.now c.args.c c.requires.0 c.requires.1 _ c.requires.2).functions_at_lem

pub slice_bounds-put_section-count-2 : goal.slice_bounds-put_section-count-2
slice_bounds-put_section-count-2 c = (up_places c.args.file.now c.args.c c.requires.0 c.requires.1 _ c.requires.2).records_at

pub slice_bounds-put_section-start-2 : goal.slice_bounds-put_section-start-2
slice_bounds-put_section-start-2 c = (up_places c.args.file.now c.args.c c.requires.0 c.requires.1 _ c.requires.2).records_at

pub slice_bounds-raise-end : goal.slice_bounds-raise-end
slice_bounds-raise-end c = subst (λ (n : ℕ). c.args.c.records + 8 + 24 * c.args.c.functions ≤ n) (sym (c.out-2-1.given.1 ∙ c.out-1.given.1)) (up_places c.args.file.now c.args.c c.requires.0 c.requires.1 _ c.requires.2).labels_end

pub raise-requires : goal.raise-requires
raise-requires c = (omega (arith, (up_places c.args.file.now c.args.c c.requires.0 c.requires.1 _ c.requires.2).table), omega (arith, (up_places c.args.file.now c.args.c c.requires.0 c.requires.1 _ c.requires.2).room))

pub slice_bounds-put_section-count-3 : goal.slice_bounds-put_section-count-3
slice_bounds-put_section-count-3 c = (up_places c.args.file.now c.args.c c.requires.0 c.requires.1 _ c.requires.2).rest_at

pub slice_bounds-put_section-start-3 : goal.slice_bounds-put_section-start-3
slice_bounds-put_section-start-3 c = (up_places c.args.file.now c.args.c c.requires.0 c.requires.1 _ c.requires.2).rest_at

pub slice_bounds-put_section-count-4 : goal.slice_bounds-put_section-count-4
slice_bounds-put_section-count-4 c = (up_places c.args.file.now c.args.c c.requires.0 c.requires.1 _ c.requires.2).rest_from

pub slice_bounds-put_section-start-4 : goal.slice_bounds-put_section-start-4
slice_bounds-put_section-start-4 c = (up_places c.args.file.now c.args.c c.requires.0 c.requires.1 _ c.requires.2).rest_from

pub put_section-requires-2 : goal.put_section-requires-2
put_section-requires-2 c = omega (arith, (up_places c.args.file.now c.args.c c.requires.0 c.requires.1 _ c.requires.2).rest)

pub shape_of-out : goal.shape_of-out
shape_of-out c = c.out-4-1.given.1 ∙ c.out-3-1.given.1 ∙ c.out-2-1.given.1 ∙ c.out-1.given.1

pub returns : goal.returns
returns c = up_parts c.args.file.now c.args.c c.requires.0 c.args.out.now _ _ _ _ c.put_section-2.ensures c.requires.1 c.put_header.ensures c.put_section.ensures c.raise.ensures
