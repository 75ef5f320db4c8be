-- The invariants and measures of `keys::edition1::translate`.
use Prim.Native.Nat.{◌-◌}
use lib.ListN.{length}
use Rattle.keys.proofs.Translation.{Translating}
use Rattle.keys.proofs.edition1.translate.Given as goal

abbrev pub invariant-loop-p : goal.invariant-loop-p
invariant-loop-p l = Translating l.code l.initial.own l.own l.p 0

abbrev pub decreases-loop-p : goal.decreases-loop-p
decreases-loop-p l = length l.code - l.p

abbrev pub invariant-loop-q : goal.invariant-loop-q
invariant-loop-q l = Translating l.code l.initial.own l.own l.q l.due
