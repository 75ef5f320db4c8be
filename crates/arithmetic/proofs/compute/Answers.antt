-- `arithmetic::compute` meets its contract. Assumes nothing.
use mathlib.Core.Path.{◌≡◌, refl, ap, ◌∙◌}
use Rattle.std.proofs.Common.{rules, Err}
use Rattle.values.specs.Values.{result_of}
use Rattle.arithmetic.proofs.Answers.{ints, longs, doubles, pointer, unlike_int, unlike_long, unlike_double}
use borrow.Enum.Refused.{opened}
use Rattle.arithmetic.proofs.compute.Goals as goal

pub returns-in_default : goal.returns-in_default
returns-in_default g c = unlike_int _ c.in-Int.is (opened c.in_default.in_default-own.keys2) c.unlike.ensures

pub returns-in_default-b : goal.returns-in_default-b
returns-in_default-b g c = unlike_long _ c.in-Long.is (opened c.in_default-b.in_default-b-own.keys2) c.unlike-in_default-b.ensures

pub returns-in_default-b-2 : goal.returns-in_default-b-2
returns-in_default-b-2 g c = unlike_double _ c.in-Double.is (opened c.in_default-b-2.in_default-b-2-own.keys2) c.unlike-in_default-b-2.ensures

pub returns-in_ok-on_words-in-Int : goal.returns-in_ok-on_words-in-Int
returns-in_ok-on_words-in-Int g c = ints g.O.Arithmetic.operator c.in-Int.is c.in-Int-b.is (c.in_ok-on_words-in-Int.ensures 3)

pub returns-in_err-on_words-in-Int : goal.returns-in_err-on_words-in-Int
returns-in_err-on_words-in-Int g c =
    let q : c.from_residual.result ≡ Err c.in_err-on_words-in-Int.field-0.0 = search rules in
    ints g.O.Arithmetic.operator c.in-Int.is c.in-Int-b.is (ap result_of q ∙ c.in_err-on_words-in-Int.ensures 3)

pub returns-in_ok-on_words-in-Long : goal.returns-in_ok-on_words-in-Long
returns-in_ok-on_words-in-Long g c = longs g.O.Arithmetic.operator c.in-Long.is c.in-Long-b.is (c.in_ok-on_words-in-Long.ensures 4)

pub returns-in_err-on_words-in-Long : goal.returns-in_err-on_words-in-Long
returns-in_err-on_words-in-Long g c =
    let q : c.from_residual-in_err-on_words-in-Long.result ≡ Err c.in_err-on_words-in-Long.field-0.0 = search rules in
    longs g.O.Arithmetic.operator c.in-Long.is c.in-Long-b.is (ap result_of q ∙ c.in_err-on_words-in-Long.ensures 4)

pub returns-in_ok-on_doubles-in-Double : goal.returns-in_ok-on_doubles-in-Double
returns-in_ok-on_doubles-in-Double g c = doubles g.O.Arithmetic.operator c.in-Double.is c.in-Double-b.is (λ a b e f. c.in_ok-on_doubles-in-Double.ensures a b e f)

pub returns-in_err-on_doubles-in-Double : goal.returns-in_err-on_doubles-in-Double
returns-in_err-on_doubles-in-Double g c =
    let q : c.from_residual-in_err-on_doubles-in-Double.result ≡ Err c.in_err-on_doubles-in-Double.field-0.0 = search rules in
    doubles g.O.Arithmetic.operator c.in-Double.is c.in-Double-b.is (λ a b e f. ap result_of q ∙ c.in_err-on_doubles-in-Double.ensures a b e f)

pub returns-in-Pointer : goal.returns-in-Pointer
returns-in-Pointer g c = pointer _ c.in-Pointer.is refl
