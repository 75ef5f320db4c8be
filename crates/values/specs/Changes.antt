-- Instructions on one number that keep its type, and what they give.
use Rattle.std.specs.Prelude.{◌≡◌, ◌&&◌, not, Bool, true, false, ℕ, Ok, Err}
use Rattle.std.specs.Float.Ieee.{Float}
use Rattle.std.specs.declared.result.Result as code
use Rattle.rules.specs.Doubles.{encode_of, dneg_of, dadd_of, dsub_of, one_double, cut_fits, cut_of}
use Rattle.rules.specs.Numbers.{double_invalid_for_double}
use Rattle.rules.specs.Operations.{Result, raises}
use Rattle.rules.specs.Results.{exception_number}
use Rattle.rules.specs.Words.{neg_of, not_of, add_of, sub_of}
use Rattle.rules.specs.declared.Exception.{Exception}
use Rattle.rules.specs.declared.Exception.TheVariants.{ConvertOutOfRange}
use Rattle.rules.specs.declared.Unary.{Unary}
use Rattle.rules.specs.declared.Unary.TheVariants.{Pop, Copy, Neg, Not, Convert, Count}
use Rattle.values.specs.Values.{gives}

pub data Keeping : Unary → Type 0 where
  negs : Keeping Neg
  nots : Keeping Not
  counts : (u : Bool) → Keeping (Count u)

-- for a word of n bits; the others are not asked
abbrev pub changed : ℕ → Unary → ℕ → ℕ
changed n Neg x = neg_of n x
changed n Not x = not_of n x
changed n (Count true) x = add_of n x 1
changed n (Count false) x = sub_of n x 1
changed n Pop x = x
changed n Copy x = x
changed n (Convert b t) x = x

-- for a double's pattern
abbrev pub double_changed : Unary → ℕ → Result
double_changed Neg p = gives 6 (dneg_of p)
double_changed Not p = raises double_invalid_for_double
double_changed (Count true) p = gives 6 (dadd_of p one_double)
double_changed (Count false) p = gives 6 (dsub_of p one_double)
double_changed Pop p = gives 6 p
double_changed Copy p = gives 6 p
double_changed (Convert b t) p = gives 6 p

-- the result that a double, or an exception in its place, stands for
abbrev pub double_result : code.Result Float Exception → Result
double_result (Ok x) = gives 6 (encode_of x)
double_result (Err e) = raises (exception_number e)

-- the double x cut to the word of n bits with the number `value`; or it does not fit, and that is raised
abbrev pub Cuts : {W : Type 0} → (W → ℕ) → ℕ → Bool → Float → code.Result W Exception → Type 0
Cuts value n b x (Ok w) = ((b && not (cut_fits n x)) ≡ false) × (value w ≡ cut_of n x)
Cuts value n b x (Err e) = ((b && not (cut_fits n x)) ≡ true) × (e ≡ ConvertOutOfRange)
