-- What an operator gives for two values of one type, and for two of two types.
use Rattle.std.specs.Prelude.{cond, ◌&&◌, ℕ, eqb, Ok, Err}
use Rattle.std.specs.declared.result.Result as code
use Rattle.rules.specs.Instructions.{is_pointer}
use Rattle.rules.specs.Numbers.{stack_different_type, arithmetic_divide_by_zero, pointer_invalid_for_pointer, double_invalid_for_double}
use Rattle.rules.specs.Operations.{on_words, on_doubles, divides, whole_only, Result, raises}
use Rattle.rules.specs.Results.{exception_number}
use Rattle.rules.specs.declared.Exception.{Exception}
use Rattle.rules.specs.declared.Operator.{Operator}
use Rattle.values.specs.Values.{gives}

-- an operator on two words of n bits, of type number k
unfoldable pub words_of : ℕ → ℕ → Operator → ℕ → ℕ → Result
words_of n k o x y = cond (divides o && eqb y 0) (raises arithmetic_divide_by_zero) (gives k (on_words n o x y))

-- an operator on two doubles' patterns
unfoldable pub doubles_of : Operator → ℕ → ℕ → Result
doubles_of o p q = cond (whole_only o) (raises double_invalid_for_double) (gives 6 (on_doubles o p q))

-- operands of two types: the first is no pointer, the second has type number k
unfoldable pub unlike_of : ℕ → Result
unlike_of k = raises (cond (is_pointer k) pointer_invalid_for_pointer stack_different_type)

-- the result that a word, of type number k, or an exception in its place stands for
abbrev pub word_result : {W : Type 0} → (W → ℕ) → ℕ → code.Result W Exception → Result
word_result value k (Ok w) = gives k (value w)
word_result value k (Err e) = raises (exception_number e)
