-- The proof of `runs::admits`.
use Prim.Native.Nat.{◌+◌}
use native.Mathlib.Omega.{arith}
use mathlib.Core.Path.{refl, ◌∙◌}
use borrow.Author.Tests.{not-true, not-false}
use Rattle.rules.specs.Tables.{function_at}
use Rattle.rules.specs.ModuleFile.{edition, functions_in}
use Rattle.runs.proofs.Arguments.{declared_next, declared_not, declared_end, admitted_other, admitted_part, admitted_is}
use Rattle.runs.proofs.admits.Goals as goal

pub returns-then-kinds-n : goal.returns-then-kinds-n
returns-then-kinds-n c =
    admitted_other (functions_in c.args.file.now) (function_at (edition c.args.file.now) c.args.k + 10) c.args.args.now c.args.kinds.now _ c.if-kinds-n.true

pub returns-then-args-n : goal.returns-then-args-n
returns-then-args-n c =
    admitted_part (functions_in c.args.file.now) (function_at (edition c.args.file.now) c.args.k + 10) c.args.args.now c.args.kinds.now _ c.if-kinds-n.false c.if-args-n.true

pub loop-j-init : goal.loop-j-init
loop-j-init c = refl

pub param-b-requires : goal.param-b-requires
param-b-requires c =
    record { packed = c.requires.0; k_lt_functions = (c.requires.2 (omega arith), omega arith) }

pub slot_at-v-requires : goal.slot_at-v-requires
slot_at-v-requires c = (omega arith, omega arith)

pub takes-requires : goal.takes-requires
takes-requires c = tt

pub returns-then-not-takes : goal.returns-then-not-takes
returns-then-not-takes c =
    admitted_is (functions_in c.args.file.now) (function_at (edition c.args.file.now) c.args.k + 10) c.args.args.now c.args.kinds.now _ c.if-kinds-n.false c.if-args-n.false _ (c.loop-j.invariant ∙ declared_not (functions_in c.args.file.now) (function_at (edition c.args.file.now) c.args.k + 10) c.args.args.now c.args.kinds.now c.loop-j.j (omega arith) _ _ _ c.param-b.ensures.0 c.slot_at-v.ensures c.takes.ensures (not-true _ c.if-not-takes.true-raw))

pub loop-j-preserved : goal.loop-j-preserved
loop-j-preserved c =
    (c.loop-j.invariant ∙ declared_next (functions_in c.args.file.now) (function_at (edition c.args.file.now) c.args.k + 10) c.args.args.now c.args.kinds.now c.loop-j.j (omega arith) _ _ _ c.param-b.ensures.0 c.slot_at-v.ensures c.takes.ensures (not-false _ c.if-not-takes.false-raw))

pub returns : goal.returns
returns c =
    admitted_is (functions_in c.args.file.now) (function_at (edition c.args.file.now) c.args.k + 10) c.args.args.now c.args.kinds.now _ c.if-kinds-n.false c.if-args-n.false _ (c.loop-j.invariant ∙ declared_end (functions_in c.args.file.now) (function_at (edition c.args.file.now) c.args.k + 10) c.args.args.now c.args.kinds.now c.loop-j.j (omega arith))
