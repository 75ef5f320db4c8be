-- The proof of `writer::put`.
use Prim.Native.Nat.{ℕ, ◌+◌}
use native.Mathlib.Omega.{arith}
use mathlib.Core.List.{◌++◌}
use mathlib.Core.Path.{◌≡◌, sym, ◌∙◌, ap}
use lib.ListN.{length, drop}
use Rattle.rules.specs.Writing.{header_of, file_of}
use Rattle.rules.specs.Tables.{tables, header_size}
use Rattle.writer.proofs.Laws.{sections, header_length}
use Rattle.writer.proofs.put.Goals as goal

pub slice_bounds-put_section-end-4 : goal.slice_bounds-put_section-end-4
slice_bounds-put_section-end-4 c = omega (arith, c.header_size-constants_at.ensures.0, c.out-1.given.1, c.out-2-1.given.1, c.out-3-1.given.1, c.out-4-1.given.1)

pub slice_bounds-put_section-end-5 : goal.slice_bounds-put_section-end-5
slice_bounds-put_section-end-5 c = omega (arith, c.header_size-constants_at.ensures.0, c.out-1.given.1, c.out-2-1.given.1, c.out-3-1.given.1, c.out-4-1.given.1, c.out-5-1.given.1)

pub shape_of-out : goal.shape_of-out
shape_of-out c = omega (arith, c.out-1.given.1, c.out-2-1.given.1, c.out-3-1.given.1, c.out-4-1.given.1, c.out-5-1.given.1, c.out-6-1.given.1)

pub returns : goal.returns
unfolding file_of
returns c = let h = header_of (tables c.args.edition c.args.constants.now c.args.functions.now c.args.labels.now c.args.structures.now c.args.code.now c.args.entry) in
    let size : c.header_size-constants_at.result ≡ header_size c.args.edition = c.header_size-constants_at.ensures.0 in
    let l = header_length c.args.edition (length c.args.constants.now) (length c.args.functions.now) (length c.args.labels.now) (length c.args.code.now) (length c.args.structures.now) c.args.entry in
    sections c.args.out.now h c.args.constants.now c.args.functions.now c.args.labels.now c.args.code.now c.args.structures.now _ _ _ _ _ _ c.header_size-constants_at.result (l ∙ sym size) c.put_header.ensures c.put_section.ensures c.put_section-2.ensures c.put_section-3.ensures c.put_section-4.ensures c.put_section-5.ensures
    ∙ ap (λ (x : ℕ). (h ++ (c.args.constants.now ++ (c.args.functions.now ++ (c.args.labels.now ++ (c.args.code.now ++ c.args.structures.now))))) ++ drop (x + length c.args.constants.now + length c.args.functions.now + length c.args.labels.now + length c.args.code.now + length c.args.structures.now) c.args.out.now) size
