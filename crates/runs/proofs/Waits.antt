-- A run that few words and no heap were at hand for: it is over, or it waits for more of either.
use Prim.Native.Nat.{ℕ, ◌≤◌}
use native.Mathlib.Omega.{arith}
use mathlib.Core.Path.{◌≡◌, refl, sym, ◌∙◌}
use mathlib.Core.Bool.{Bool, true, false, not, ◌||◌}
use mathlib.Core.Logic.{◌⊎◌, inl, inr}
use mathlib.Core.List.{List}
use lib.ListN.{length}
use lib.Dec.{eqb}
use Rattle.rules.specs.ModuleFile.{edition, constants_at}
use Rattle.soundness.specs.Tests.{decide, false_true, eqb_is}
use Rattle.format.specs.declared.Sections.{Sections}
use Rattle.format.specs.Layout.{Packed}
use Rattle.machine.specs.Ends.{left}
use Rattle.runs.specs.Runs.{is_over}

one_of : (a b : Bool) → not (a || b) ≡ false → (a ≡ true) ⊎ (b ≡ true)
one_of true b q = inl refl
one_of false true q = inr refl
one_of false false q = false_true (sym q)

none_of : (a b : Bool) → not (a || b) ≡ true → (a ≡ false) × (b ≡ false)
none_of true b q = false_true q
none_of false true q = false_true q
none_of false false q = (refl, refl)

pub waits : (n : ℕ) (v : Bool) → v ≡ is_over n → v ≡ false → (n ≡ 20) ⊎ (left n ≡ true)
waits n v e q = go (one_of (eqb n 20) (left n) (sym e ∙ q))
  where
    go : (eqb n 20 ≡ true) ⊎ (left n ≡ true) → (n ≡ 20) ⊎ (left n ≡ true)
    go (inl y) = inl (eqb_is n 20 y)
    go (inr y) = inr y

pub no_overflow : (n : ℕ) (v : Bool) → v ≡ is_over n → v ≡ true → n ≡ 20 → ⊥
no_overflow n v e q z = let h : eqb n 20 ≡ false = (none_of (eqb n 20) (left n) (sym e ∙ q)).0 in false_true (sym h ∙ rw z refl)

pub not_left : (n : ℕ) (v : Bool) → v ≡ is_over n → v ≡ true → left n ≡ false
not_left n v e q = (none_of (eqb n 20) (left n) (sym e ∙ q)).1

-- edition 1 has no structures
pub old_structures : (s : List ℕ) (c : Sections) → Packed s c → edition s ≡ 1 → c.structures ≡ 0
old_structures s c k e = k.structures_is ∙ rw e refl

-- a file that has its sections has a word for the edition
header_least : (s : List ℕ) → 48 ≤ constants_at s
header_least s = decide (eqb (edition s) 4) (λ y. rw y (omega arith)) (λ y. rw y (omega arith))

pub long_enough : (s : List ℕ) (c : Sections) → Packed s c → 4 ≤ length s
long_enough s c k = omega (arith, header_least s, k.code_is, k.whole)
