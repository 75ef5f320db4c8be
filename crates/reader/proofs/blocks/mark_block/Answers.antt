-- The proof of `reader::blocks::mark_block`.
use native.Mathlib.Omega.{arith}
use mathlib.Core.Bool.{true≢false}
use mathlib.Core.Path.{◌≡◌, refl, sym, ◌∙◌, ap}
use lib.ListN.{length}
use Rattle.reader.proofs.BareRuns.{length_marks, marks_none, marks_next, marks_out}
use Rattle.reader.specs.Cut.{marks}
use Rattle.reader.proofs.blocks.mark_block.Goals as goal

pub returns-then-starts-p : goal.returns-then-starts-p
returns-then-starts-p c = record { starts_after = λ e. marks_out _ _ 16 c.if-starts-p.true; starts_unchanged = λ e. absurd (true≢false e) }

pub returns-then-starts-p-2 : goal.returns-then-starts-p-2
returns-then-starts-p-2 c = record { starts_after = λ e. absurd (true≢false (sym e)); starts_unchanged = λ e. refl }

pub loop-i-init : goal.loop-i-init
loop-i-init c = (marks_none _ _, refl)

pub bounds-starts-p : goal.bounds-starts-p
bounds-starts-p c = omega (arith, c.loop-i.invariant.1)

pub loop-i-preserved : goal.loop-i-preserved
loop-i-preserved c = let e = marks_next c.args.starts.now c.loop-i.starts c.args.p c.loop-i.i c.loop-i.invariant.0 in
    (e, ap length e ∙ length_marks _ _ _)

pub shape_of-starts : goal.shape_of-starts
shape_of-starts c = c.loop-i.invariant.1

pub returns : goal.returns
returns c = let n : c.loop-i.i ≡ 16 = omega arith in
    record { starts_after = λ e. c.loop-i.invariant.0 ∙ ap (marks c.args.starts.now c.args.p) n; starts_unchanged = λ e. absurd (true≢false e) }
