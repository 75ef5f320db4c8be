-- The proof of `reader::code::bad_code`.
use Prim.Native.Nat.{ℕ, ◌+◌, ◌*◌}
use native.Mathlib.Omega.{arith}
use mathlib.Core.Bool.{true≢false}
use mathlib.Core.List.{[]}
use mathlib.Core.Path.{◌≡◌, refl, ap, ◌∙◌}
use borrow.Author.Tests.{not-true, not-false}
use Rattle.format.proofs.Strides.{stride_under, record_from}
use Rattle.reader.proofs.Bodies.{cut_none, failed, passed, end_first, end_next, end_inside, bad_body, at_end_lem, good_bodies, crossed_more}
use Rattle.reader.proofs.Starts.{starts_exactly}
use Rattle.rules.specs.Bytes.{word, some_below}
use Rattle.rules.specs.Tables.{Bodies, bodies, function_count, end_before}
use Rattle.reader.proofs.code.bad_code.Goals as goal

pub loop-edition-init : goal.loop-edition-init
unfolding some_below
loop-edition-init c = let B : Bodies = bodies c.args.edition c.args.functions.now [] c.args.code.now c.args.entry in
    (omega arith, end_first B, omega arith, cut_none _ _ _ c.requires.blank, refl, refl)

pub walk_body-whole-requires : goal.walk_body-whole-requires
walk_body-whole-requires c = let l = end_inside c.args.edition _ _ _ _ c.requires.filled.0 c.loop-edition.i (omega arith) in
    record { from_le_to = (c.loop-edition.invariant.2, omega arith, c.requires.filled.0.fits.little_code, c.requires.filled.1); cut = c.loop-edition.invariant.3 }

pub shape_of-starts-then-not-whole : goal.shape_of-starts-then-not-whole
shape_of-starts-then-not-whole c = c.walk_body-whole.ensures.starts_len_unchanged ∙ c.loop-edition.invariant.4

pub returns-then-not-whole : goal.returns-then-not-whole
returns-then-not-whole c = record { starts_len_unchanged = c.walk_body-whole.ensures.starts_len_unchanged ∙ c.loop-edition.invariant.4; value = bad_body c.args.edition _ _ _ _ c.requires.filled.0 c.loop-edition.i (omega arith) (failed _ _ _ _ _ _ (not-true c.walk_body-whole.result c.if-not-whole.true-raw) c.loop-edition.invariant.1 c.walk_body-whole.ensures.walked); starts_exactly = λ e. absurd (true≢false e) }

pub shape_of-starts-then-i-n : goal.shape_of-starts-then-i-n
shape_of-starts-then-i-n c = c.walk_body-whole.ensures.starts_len_unchanged ∙ c.loop-edition.invariant.4

pub returns-then-i-n : goal.returns-then-i-n
returns-then-i-n c = let B : Bodies = bodies c.args.edition c.args.functions.now [] c.args.code.now c.args.entry in let e : c.loop-edition.i ≡ function_count B.edition B.functions = omega arith in
    let cut = passed _ _ _ _ c.walk_body-whole.new.starts _ (not-false c.walk_body-whole.result c.if-not-whole.false-raw) c.loop-edition.invariant.1 c.walk_body-whole.ensures.walked in record { starts_len_unchanged = c.walk_body-whole.ensures.starts_len_unchanged ∙ c.loop-edition.invariant.4; value = good_bodies c.args.edition _ _ _ _ c.requires.filled.0 c.loop-edition.i c.walk_body-whole.new.starts e cut (crossed_more c.args.edition _ _ _ _ c.requires.filled.0 c.loop-edition.i c.walk_body-whole.new.starts c.loop-edition.invariant.5 cut); starts_exactly = λ z. starts_exactly B.edition B.code c.walk_body-whole.new.starts (at_end_lem c.args.edition _ _ _ _ c.requires.filled.0 c.loop-edition.i c.walk_body-whole.new.starts e cut) }

pub overflow_mul-at : goal.overflow_mul-at
overflow_mul-at c = let f = record_from c.args.edition _ c.loop-edition.i _ _ c.function_size-size.ensures.0 c.requires.filled.0.counted (omega arith) in
    let m = stride_under _ c.loop-edition.i c.function_size-size.ensures.2 in omega arith

pub overflow_add-at : goal.overflow_add-at
overflow_add-at c = let f = record_from c.args.edition _ c.loop-edition.i _ _ c.function_size-size.ensures.0 c.requires.filled.0.counted (omega arith) in
    let m = stride_under _ c.loop-edition.i c.function_size-size.ensures.2 in omega arith

pub word-end-requires : goal.word-end-requires
word-end-requires c = let f = record_from c.args.edition _ c.loop-edition.i _ _ c.function_size-size.ensures.0 c.requires.filled.0.counted (omega arith) in
    let m = stride_under _ c.loop-edition.i c.function_size-size.ensures.2 in omega arith

pub overflow_add-end : goal.overflow_add-end
overflow_add-end c = omega (arith, end_inside c.args.edition _ _ _ _ c.requires.filled.0 c.loop-edition.i (omega arith))

pub loop-edition-preserved : goal.loop-edition-preserved
loop-edition-preserved c = let B : Bodies = bodies c.args.edition c.args.functions.now [] c.args.code.now c.args.entry in let n : c.loop-edition.end + c.word-end.result ≡ end_before B (c.loop-edition.i + 1) = end_next B c.loop-edition.i _ _ c.loop-edition.invariant.1 (c.word-end.ensures.0 ∙ ap (λ (z : ℕ). word 4 B.functions (z * c.loop-edition.i + 4)) c.function_size-size.ensures.0) in
    let whole = not-false c.walk_body-whole.result c.if-not-whole.false-raw in (
      omega arith,
      n,
      omega arith,
      passed _ _ _ _ c.walk_body-whole.new.starts _ whole refl c.walk_body-whole.ensures.walked,
      c.walk_body-whole.ensures.starts_len_unchanged ∙ c.loop-edition.invariant.4,
      crossed_more c.args.edition _ _ _ _ c.requires.filled.0 c.loop-edition.i c.walk_body-whole.new.starts c.loop-edition.invariant.5 (passed _ _ _ _ c.walk_body-whole.new.starts _ whole c.loop-edition.invariant.1 c.walk_body-whole.ensures.walked),
    )
