-- `values::single::toi_value` meets its contract. Assumes nothing.
use Rattle.rules.specs.declared.Num.TheVariants.{Int as int}
use Rattle.values.proofs.Conversions.{raised, truncated, kept}
use Rattle.values.proofs.Cases.{int_kind, long_kind, double_kind, pointer_told}
use mathlib.Core.Bool.{false}
use mathlib.Core.Path.{◌≡◌, ap, ◌∙◌}
use Rattle.std.proofs.Common.{rules, Err}
use Rattle.rules.specs.declared.Exception.TheVariants.{ConvertOutOfRange}
use Rattle.values.specs.Values.{result_of}
use Rattle.rules.specs.Operations.{converted, unfit}
use Rattle.values.proofs.single.toi_value.Goals as goal

pub returns-in-Int : goal.returns-in-Int
returns-in-Int c = λ s k n e. let f = int_kind s k e c.in-Int.is in absurd (n f.0)

pub returns-in-Long : goal.returns-in-Long
unfolding converted unfit
returns-in-Long c = λ s k n e. let f = long_kind s k e c.in-Long.is in rw (c.low.ensures, f.1, ← kept c.args.raises int s (rw f.0), f.0)

pub returns-in_ok-cut-in-Double : goal.returns-in_ok-cut-in-Double
returns-in_ok-cut-in-Double c =
    λ s k n e. let f = double_kind s k e c.in-Double.is in
    let d = c.in_ok-cut-in-Double.ensures in rw d.1 (truncated c.args.raises s f.0 f.1 false d.0)

pub returns-in_err-cut-in-Double : goal.returns-in_err-cut-in-Double
returns-in_err-cut-in-Double c =
    λ s k n e. let f = double_kind s k e c.in-Double.is in
    let d = c.in_err-cut-in-Double.ensures in
    let q : c.from_residual.result ≡ Err ConvertOutOfRange = search rules in
    ap result_of q ∙ raised c.args.raises s f.0 f.1 false d.0

pub returns-in-Pointer : goal.returns-in-Pointer
returns-in-Pointer c = λ s k n e. rw (pointer_told s k e c.in-Pointer.is)
