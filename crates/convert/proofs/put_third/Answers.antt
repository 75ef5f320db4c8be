-- The proof of `convert::put_third`.
use native.Mathlib.Omega.{arith}
use Prim.Native.Nat.{ℕ, ◌+◌, ◌-◌, ◌*◌, ◌≤◌}
use mathlib.Core.Path.{sym, ◌∙◌, subst}
use lib.ListN.{length}
use Rattle.convert.proofs.Parts.{down_places, down_parts}
use Rattle.convert.proofs.put_third.Goals as goal

pub overflow_sub-functions_at : goal.overflow_sub-functions_at
overflow_sub-functions_at c = (down_places c.args.file.now c.args.c c.requires.0 c.requires.1 _ c.requires.3).before

pub overflow_sub-end : goal.overflow_sub-end
overflow_sub-end c = (down_places c.args.file.now c.args.c c.requires.0 c.requires.1 _ c.requires.3).length_over

pub overflow_sub-end-2 : goal.overflow_sub-end-2
overflow_sub-end-2 c = (down_places c.args.file.now c.args.c c.requires.0 c.requires.1 _ c.requires.3).length_left

pub slice_bounds-put_header-end : goal.slice_bounds-put_header-end
slice_bounds-put_header-end c = (down_places c.args.file.now c.args.c c.requires.0 c.requires.1 _ c.requires.3).header

pub slice_bounds-put_section-count : goal.slice_bounds-put_section-count
slice_bounds-put_section-count c = (down_places c.args.file.now c.args.c c.requires.0 c.requires.1 _ c.requires.3).functions_at_lem

pub slice_bounds-put_section-start : goal.slice_bounds-put_section-start
slice_bounds-put_section-start c = (down_places c.args.file.now c.args.c c.requires.0 c.requires.1 _ c.requires.3).functions_at_lem

pub slice_bounds-put_section-end : goal.slice_bounds-put_section-end
slice_bounds-put_section-end c = subst (λ (n : ℕ). c.args.c.records - 8 ≤ n) (sym c.out-1.given.1) (down_places c.args.file.now c.args.c c.requires.0 c.requires.1 _ c.requires.3).functions_end

pub slice_bounds-put_section-count-2 : goal.slice_bounds-put_section-count-2
slice_bounds-put_section-count-2 c = (down_places c.args.file.now c.args.c c.requires.0 c.requires.1 _ c.requires.3).records_at

pub slice_bounds-put_section-start-2 : goal.slice_bounds-put_section-start-2
slice_bounds-put_section-start-2 c = (down_places c.args.file.now c.args.c c.requires.0 c.requires.1 _ c.requires.3).records_at

pub slice_bounds-lower-end : goal.slice_bounds-lower-end
slice_bounds-lower-end c = subst (λ (n : ℕ). c.args.c.records - 8 + 20 * c.args.c.functions ≤ n) (sym (c.out-2-1.given.1 ∙ c.out-1.given.1)) (down_places c.args.file.now c.args.c c.requires.0 c.requires.1 _ c.requires.3).labels_end

pub lower-requires : goal.lower-requires
lower-requires c = (omega (arith, (down_places c.args.file.now c.args.c c.requires.0 c.requires.1 _ c.requires.3).table), omega (arith, (down_places c.args.file.now c.args.c c.requires.0 c.requires.1 _ c.requires.3).room))

pub slice_bounds-put_section-count-3 : goal.slice_bounds-put_section-count-3
slice_bounds-put_section-count-3 c = (down_places c.args.file.now c.args.c c.requires.0 c.requires.1 _ c.requires.3).rest_at

pub slice_bounds-put_section-start-3 : goal.slice_bounds-put_section-start-3
slice_bounds-put_section-start-3 c = (down_places c.args.file.now c.args.c c.requires.0 c.requires.1 _ c.requires.3).rest_at

pub slice_bounds-put_section-end-3 : goal.slice_bounds-put_section-end-3
slice_bounds-put_section-end-3 c = subst (λ (n : ℕ). length c.args.file.now - 8 - 4 * c.args.c.functions ≤ n) (sym (c.out-3-1.given.1 ∙ c.out-2-1.given.1 ∙ c.out-1.given.1)) (down_places c.args.file.now c.args.c c.requires.0 c.requires.1 _ c.requires.3).rest_end

pub slice_bounds-put_section-count-4 : goal.slice_bounds-put_section-count-4
slice_bounds-put_section-count-4 c = (down_places c.args.file.now c.args.c c.requires.0 c.requires.1 _ c.requires.3).rest_from

pub slice_bounds-put_section-start-4 : goal.slice_bounds-put_section-start-4
slice_bounds-put_section-start-4 c = (down_places c.args.file.now c.args.c c.requires.0 c.requires.1 _ c.requires.3).rest_from

pub put_section-requires-2 : goal.put_section-requires-2
put_section-requires-2 c = omega (arith, (down_places c.args.file.now c.args.c c.requires.0 c.requires.1 _ c.requires.3).rest)

pub shape_of-out : goal.shape_of-out
shape_of-out c = c.out-4-1.given.1 ∙ c.out-3-1.given.1 ∙ c.out-2-1.given.1 ∙ c.out-1.given.1

pub returns : goal.returns
returns c = down_parts c.args.file.now c.args.c c.requires.0 c.args.out.now _ _ _ _ c.put_section-2.ensures c.requires.1 c.requires.2 c.put_header.ensures c.put_section.ensures c.lower.ensures.out_after
