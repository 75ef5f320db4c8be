-- The proof of `keys::edition1::copy_word`.
use native.Mathlib.Omega.{arith}
use lib.ListN.{length-set}
use Rattle.keys.proofs.edition1.copy_word.Goals as goal

pub bounds-own-p-2 : goal.bounds-own-p-2
bounds-own-p-2 c = simp length-set (omega arith)

pub bounds-own-p-3 : goal.bounds-own-p-3
bounds-own-p-3 c = simp length-set (omega arith)

pub bounds-own-p-4 : goal.bounds-own-p-4
bounds-own-p-4 c = simp length-set (omega arith)
