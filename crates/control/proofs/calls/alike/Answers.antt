-- The proof of `control::calls::alike`.
use Prim.Native.Nat.{ℕ, ◌+◌}
use native.Mathlib.Omega.{arith}
use mathlib.Core.Path.{refl, sym, ap, ◌∙◌}
use Rattle.rules.specs.Instructions.{ty_of, kind_of}
use Rattle.rules.specs.Tables.{function_at}
use Rattle.rules.specs.ModuleFile.{edition, bodies_in, functions_in}
use Rattle.reader.proofs.Records.{function_count_lem}
use Rattle.control.proofs.CallLaws.{kinds_end, kinds_same, kinds_other}
use Rattle.soundness.specs.Readable.{few_parameters, parameter_type}
use Rattle.soundness.specs.Cutting.{functions_good}
use Rattle.control.proofs.calls.alike.Goals as goal

pub loop-j-init : goal.loop-j-init
loop-j-init c = λ p. refl

pub param-requires : goal.param-requires
param-requires c = record { packed = c.requires.packed.0; k_lt_functions = (c.requires.k_lt_functions.0, omega (arith, few_parameters (bodies_in c.args.file.now) (functions_good c.args.file.now c.requires.packed.1) c.args.k (omega (arith, c.requires.k_lt_functions.0, function_count_lem _ _ c.requires.packed.0)), c.requires.k_lt_functions.1)) }

pub kind_of-wanted-requires : goal.kind_of-wanted-requires
kind_of-wanted-requires c = rw c.param.ensures.0 (parameter_type (bodies_in _) (functions_good _ c.requires.packed.1) _ _ (omega (arith, c.requires.k_lt_functions.0, function_count_lem _ _ c.requires.packed.0)) (omega (arith, c.loop-j-test.true, c.requires.k_lt_functions.1)))

pub returns-then-t-base : goal.returns-then-t-base
returns-then-t-base c = λ p. sym (c.loop-j.invariant p ∙ kinds_other (functions_in c.args.file.now) (function_at (edition c.args.file.now) c.args.k + 10) p _ _ c.loop-j.j (omega arith) (λ q. c.if-t-base.true (q ∙ sym (c.kind_of-wanted.ensures ∙ ap (λ (b : ℕ). kind_of (ty_of b)) c.param.ensures.0))))

pub loop-j-preserved : goal.loop-j-preserved
loop-j-preserved c = (λ p. c.loop-j.invariant p ∙ kinds_same (functions_in c.args.file.now) (function_at (edition c.args.file.now) c.args.k + 10) p _ _ c.loop-j.j (omega arith) (c.if-t-base.false ∙ c.kind_of-wanted.ensures ∙ ap (λ (b : ℕ). kind_of (ty_of b)) c.param.ensures.0))

pub returns : goal.returns
returns c = λ p. sym (c.loop-j.invariant p ∙ kinds_end (functions_in c.args.file.now) (function_at (edition c.args.file.now) c.args.k + 10) p _ _ c.loop-j.j (omega arith))
