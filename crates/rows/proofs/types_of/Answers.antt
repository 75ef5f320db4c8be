use Prim.Native.Nat.{◌-◌}
use Rattle.rows.proofs.Types.{takes_next, takes_not, takes_end, put_type}
use Rattle.soundness.specs.Tests.{false_true}
use Rattle.rules.specs.ModuleFile.{edition, functions_in}
use Rattle.rules.specs.Tables.{function_at}
use borrow.Author.Tests.{not-true, not-false}
use lib.ListN.{length-set}
use native.Mathlib.Omega.{arith}
use mathlib.Core.Path.{refl, sym, ◌∙◌}
use Prim.Native.Nat.{◌+◌}
use Rattle.rows.proofs.types_of.Goals as goal

pub loop-j-init : goal.loop-j-init
loop-j-init c = (refl, refl, λ i l h. absurd (omega arith))

pub param-b-requires : goal.param-b-requires
param-b-requires c = record { packed = c.requires.0; k_lt_functions = (c.requires.1, omega arith) }

pub is_number-numeric-requires : goal.is_number-numeric-requires
is_number-numeric-requires c = tt

pub shape_of-kinds-then-not-numeric : goal.shape_of-kinds-then-not-numeric
shape_of-kinds-then-not-numeric c = c.loop-j.invariant.0

pub returns-then-not-numeric : goal.returns-then-not-numeric
returns-then-not-numeric c = (sym (c.loop-j.invariant.1 ∙ takes_not _ _ c.loop-j.j (omega arith) _ _ c.param-b.ensures.0 c.is_number-numeric.ensures (not-true _ c.if-not-numeric.true-raw)), λ e. false_true e)

pub bounds-kinds-j : goal.bounds-kinds-j
bounds-kinds-j c = omega (arith, c.requires)

pub loop-j-preserved : goal.loop-j-preserved
loop-j-preserved c = (length-set c.loop-j.kinds (c.loop-j.j - 1) c.param-b.result ∙ c.loop-j.invariant.0, c.loop-j.invariant.1 ∙ takes_next _ _ c.loop-j.j (omega arith) _ _ c.param-b.ensures.0 c.is_number-numeric.ensures (not-false _ c.if-not-numeric.false-raw), put_type (functions_in c.args.file.now) (function_at (edition c.args.file.now) c.args.k + 10) c.args.n c.loop-j.kinds c.loop-j.j c.param-b.result (omega arith) (omega (arith, c.requires, c.loop-j)) c.param-b.ensures.0 c.loop-j.invariant.2)

pub shape_of-kinds : goal.shape_of-kinds
shape_of-kinds c = c.loop-j.invariant.0

pub returns : goal.returns
returns c = (sym (c.loop-j.invariant.1 ∙ takes_end (functions_in c.args.file.now) (function_at (edition c.args.file.now) c.args.k + 10) c.loop-j.j (omega arith)), λ e i h. c.loop-j.invariant.2 i (omega arith) h)
