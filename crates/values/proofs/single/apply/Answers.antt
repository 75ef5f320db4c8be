-- `values::single::apply` meets its contract. Assumes nothing.
use mathlib.Core.Path.{◌≡◌, ap, ◌∙◌}
use Rattle.std.proofs.Common.{rules, Err}
use Rattle.values.specs.Values.{gives, result_of}
use Rattle.values.proofs.Cases.{int_kind, long_kind, double_kind, pointer_told}
use Rattle.values.proofs.Changes.{int_changed, long_changed, double_is, pointer_is}
use Rattle.values.proofs.single.apply.Goals as goal

pub returns-in-Int : goal.returns-in-Int
returns-in-Int g c =
    λ s k e. let f = int_kind s k e c.in-Int.is in
    ap (gives 3) c.on_word.ensures ∙ rw f.1 (int_changed s g.met.C.Change.keeps f.0)

pub returns-in-Long : goal.returns-in-Long
returns-in-Long g c =
    λ s k e. let f = long_kind s k e c.in-Long.is in
    ap (gives 4) c.on_word-in-Long.ensures ∙ rw f.1 (long_changed s g.met.C.Change.keeps f.0)

pub returns-in_ok-on_double-in-Double : goal.returns-in_ok-on_double-in-Double
returns-in_ok-on_double-in-Double g c =
    λ s k e. let f = double_kind s k e c.in-Double.is in c.in_ok-on_double-in-Double.ensures s.payload f.1 ∙ double_is s g.met.C.Change.keeps f.0

pub returns-in_err-on_double-in-Double : goal.returns-in_err-on_double-in-Double
returns-in_err-on_double-in-Double g c =
    λ s k e. let f = double_kind s k e c.in-Double.is in
    let q : c.from_residual.result ≡ Err c.in_err-on_double-in-Double.field-0.0 = search rules in
    ap result_of q ∙ c.in_err-on_double-in-Double.ensures s.payload f.1 ∙ double_is s g.met.C.Change.keeps f.0

pub returns-in-Pointer : goal.returns-in-Pointer
returns-in-Pointer g c = λ s k e. pointer_is s g.met.C.Change.keeps (pointer_told s k e c.in-Pointer.is)
