use borrow.Author.Tests.{not-true}
use mathlib.Core.Path.{◌≡◌}
use mathlib.Core.Bool.{true, not}
use Prim.Native.Nat.{ℕ, ◌<◌}
use lib.Dec.{eqb}
use native.Mathlib.Omega.{arith}
use Rattle.soundness.specs.Tests.{false_true, eqb_isnt}
use Rattle.climb.proofs.walk.met.Goals as goal

over : (n m : ℕ) → n ≡ m → not (eqb n 0) ≡ true → 0 < m
over n m e h = let d : n ≡ 0 → ⊥ = eqb_isnt n 0 (not-true (eqb n 0) h) in omega arith

pub returns-then-end-q : goal.returns-then-end-q
returns-then-end-q c = λ e. false_true e

pub returns : goal.returns
returns c =
    λ e. (
      over c.node_at.result _ c.node_at.ensures e,
      λ q. omega (arith, c.if-end-q.false, q),
    )
