use Rattle.std.proofs.Common.{length, ◌≤◌, ◌≡◌}
use Rattle.desk.specs.Commands.{LendsInts}
use Rattle.limpet.proofs.lend_ints.Given as goal

abbrev pub invariant-loop-k : goal.invariant-loop-k
invariant-loop-k l = (l.k ≤ l.initial.count) × (length l.payloads ≡ length l.initial.payloads) × (length l.types ≡ length l.initial.types) × LendsInts l.k l.payloads l.types
