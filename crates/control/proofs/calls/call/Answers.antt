-- The proof of `control::calls::call`.
use native.Mathlib.Omega.{arith}
use mathlib.Core.Logic.{inl}
use mathlib.Core.Path.{◌≡◌, sym, ap, ◌∙◌}
use lib.ListN.{length}
use borrow.Author.Tests.{not-true, not-false}
use Rattle.reader.specs.Answers.{function_found}
use Rattle.std.specs.Prelude.{None}
use Rattle.reader.proofs.Records.{function_count_lem}
use Rattle.control.proofs.CallLaws.{call_28, call_21, call_22, call_20, call_goes}
use Rattle.control.proofs.Files.{callee}
use Rattle.control.proofs.Frames.{length_saved}
use Rattle.control.proofs.calls.call.Goals as goal

pub returns-in_default : goal.returns-in_default
returns-in_default c = λ cap p k. let z : ◌≡◌ c.function.result None = cc in
    rw (← c.operand-k.ensures) (inl (call_28 cap _ p _ _ k _ _ (sym c.function.ensures ∙ ap (function_found _ _) z)))

pub overflow_add-n : goal.overflow_add-n
overflow_add-n c = let q = callee c.args.file.now c.requires.packed.1 c.operand-k.result c.in-Some.g (sym (ap (function_found _ _) c.in-Some.is) ∙ c.function.ensures) in
    omega (arith, q.1, c.requires.place_in_bounds.2.1.1.over, c.requires.place_in_bounds.2.1.1.high, c.requires.place_in_bounds.2.1.1.small)

pub returns-then-h-n : goal.returns-then-h-n
returns-then-h-n c = λ cap p k. rw (← c.operand-k.ensures) (inl (call_21 cap _ p _ _ k _ _ c.in-Some.g (sym (ap (function_found _ _) c.in-Some.is) ∙ c.function.ensures) c.if-h-n.true))

pub alike-requires : goal.alike-requires
alike-requires c = let q = callee c.args.file.now c.requires.packed.1 c.operand-k.result c.in-Some.g (sym (ap (function_found _ _) c.in-Some.is) ∙ c.function.ensures) in
    record { packed = c.requires.packed; k_lt_functions = (omega (arith, q.0, function_count_lem _ _ c.requires.packed.0), q.3, omega (arith, c.requires.place_in_bounds.2.1.1.types, c.requires.place_in_bounds.2.1.1.high, c.if-h-n.false)) }

pub returns-then-not-alike : goal.returns-then-not-alike
returns-then-not-alike c = λ cap p k. rw (← c.operand-k.ensures) (inl (call_22 cap _ p _ _ k _ _ c.in-Some.g (sym (ap (function_found _ _) c.in-Some.is) ∙ c.function.ensures) c.if-h-n.false (sym (c.alike.ensures p) ∙ not-true _ c.if-not-alike.true-raw)))

pub returns-then-f-frame : goal.returns-then-f-frame
returns-then-f-frame c = λ cap p k. rw (← c.operand-k.ensures) (call_20 cap _ p _ _ k _ _ c.in-Some.g (sym (ap (function_found _ _) c.in-Some.is) ∙ c.function.ensures) c.if-h-n.false (sym (c.alike.ensures p) ∙ not-false _ c.if-not-alike.false-raw) c.if-f-frame.true)

pub overflow_add-frame-2 : goal.overflow_add-frame-2
overflow_add-frame-2 c = omega (arith, c.requires.place_in_bounds.2.1.1.words, c.requires.place_in_bounds.2.1.1.most)

pub open_frame-requires : goal.open_frame-requires
open_frame-requires c = let q = callee c.args.file.now c.requires.packed.1 c.operand-k.result c.in-Some.g (sym (ap (function_found _ _) c.in-Some.is) ∙ c.function.ensures) in
    (omega (arith, ap length c.save.ensures ∙ length_saved _ _, c.if-f-frame.false), omega (arith, q.0, function_count_lem _ _ c.requires.packed.0, c.requires.packed.0.few_functions), q.1, omega (arith, c.requires.place_in_bounds.2.1.1.high, c.requires.place_in_bounds.2.1.1.small, c.if-h-n.false))

pub overflow_add-frame-3 : goal.overflow_add-frame-3
overflow_add-frame-3 c = omega (arith, c.requires.place_in_bounds.2.1.1.words, c.requires.place_in_bounds.2.1.1.most)

pub entered-requires : goal.entered-requires
entered-requires c = let q = callee c.args.file.now c.requires.packed.1 c.operand-k.result c.in-Some.g (sym (ap (function_found _ _) c.in-Some.is) ∙ c.function.ensures) in
    (c.requires.packed.0, omega (arith, q.0, function_count_lem _ _ c.requires.packed.0))

pub returns : goal.returns
returns c = let q = callee c.args.file.now c.requires.packed.1 c.operand-k.result c.in-Some.g (sym (ap (function_found _ _) c.in-Some.is) ∙ c.function.ensures) in
    λ cap p k. rw (← c.operand-k.ensures, c.entered.ensures, c.open_frame.ensures, c.save.ensures)
    (inl (call_goes cap _ p _ _ k _ _ c.in-Some.g (sym (ap (function_found _ _) c.in-Some.is) ∙ c.function.ensures) c.if-h-n.false (sym (c.alike.ensures p) ∙ not-false _ c.if-not-alike.false-raw) c.if-f-frame.false q.0 (omega (arith, function_count_lem _ _ c.requires.packed.0, c.requires.packed.0.few_functions)) q.1 q.2))
