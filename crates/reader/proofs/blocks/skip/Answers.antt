-- The proof of `reader::blocks::skip`.
use Prim.Native.Nat.{ℕ, ◌+◌}
use native.Mathlib.Omega.{arith}
use mathlib.Core.List.{List}
use mathlib.Core.Path.{◌≡◌, refl, sym, ◌∙◌, ap, subst}
use lib.ListN.{length}
use borrow.Author.Tests.{not-true, not-false}
use Rattle.reader.proofs.BareRuns.{length_marks, cut_run}
use Rattle.reader.specs.Cut.{Cut, marks}
use Rattle.reader.proofs.blocks.skip.Goals as goal

pub loop-p-init : goal.loop-p-init
loop-p-init c = (omega arith, omega arith, refl, c.requires.cut)

pub all_bare-good-requires : goal.all_bare-good-requires
all_bare-good-requires c = (omega arith, c.requires.from_le_to.3)

pub shape_of-starts-then-not-good : goal.shape_of-starts-then-not-good
shape_of-starts-then-not-good c = c.loop-p.invariant.2

pub returns-then-not-good : goal.returns-then-not-good
returns-then-not-good c = record { lower_bound = (c.loop-p.invariant.0, c.loop-p.invariant.1); starts_len_unchanged = c.loop-p.invariant.2; cut_2 = c.loop-p.invariant.3 }

pub shape_of-starts-then-not-marked : goal.shape_of-starts-then-not-marked
shape_of-starts-then-not-marked c = ap length (c.mark_block-marked.ensures.starts_unchanged (not-true c.mark_block-marked.result c.if-not-marked.true-raw)) ∙ c.loop-p.invariant.2

pub returns-then-not-marked : goal.returns-then-not-marked
returns-then-not-marked c = let e = c.mark_block-marked.ensures.starts_unchanged (not-true c.mark_block-marked.result c.if-not-marked.true-raw) in
    let cut = subst (λ (x : List ℕ). Cut c.args.edition c.args.code.now c.loop-p.p x) (sym e) c.loop-p.invariant.3 in
    record { lower_bound = (c.loop-p.invariant.0, c.loop-p.invariant.1); starts_len_unchanged = ap length e ∙ c.loop-p.invariant.2; cut_2 = cut }

pub loop-p-preserved : goal.loop-p-preserved
loop-p-preserved c = let a = sym c.all_bare-good.ensures ∙ not-false c.all_bare-good.result c.if-not-good.false-raw in
    let e : c.mark_block-marked.new.starts ≡ marks c.loop-p.starts c.loop-p.p 16 = c.mark_block-marked.ensures.starts_after (not-false c.mark_block-marked.result c.if-not-marked.false-raw) in (
      omega arith,
      omega arith,
      ap length e ∙ length_marks c.loop-p.starts c.loop-p.p 16 ∙ c.loop-p.invariant.2,
      subst (λ (x : List ℕ). Cut c.args.edition c.args.code.now (c.loop-p.p + 16) x) (sym e) (cut_run c.args.edition c.args.code.now c.loop-p.p c.loop-p.starts c.loop-p.invariant.3 16 a),
    )

pub shape_of-starts : goal.shape_of-starts
shape_of-starts c = c.loop-p.invariant.2

pub returns : goal.returns
returns c = record { lower_bound = (c.loop-p.invariant.0, c.loop-p.invariant.1); starts_len_unchanged = c.loop-p.invariant.2; cut_2 = c.loop-p.invariant.3 }
