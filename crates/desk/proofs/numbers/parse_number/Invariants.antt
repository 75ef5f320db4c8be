-- The invariants and measures of `desk::numbers::parse_number`.
use Rattle.desk.proofs.Numerals.{Spelled}
use Rattle.desk.proofs.numbers.parse_number.Given as goal

abbrev pub invariant-loop-x : goal.invariant-loop-x
invariant-loop-x l = Spelled l.text l.x-index l.n
