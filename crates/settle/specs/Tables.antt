-- What the code's marks, needs and frames say of the module whose table it was given.
use Rattle.std.specs.Prelude.{◌≡◌, refl, ◌⊎◌, ℕ, zero, suc, ◌+◌, ◌*◌, ◌≤◌, ◌<◌, List, get_or, eqb}
use Rattle.std.proofs.Common.{inl, inr, arith}
use Rattle.soundness.specs.Tests.{decide, eqb_is, eqb_isnt}
use Rattle.rules.specs.Tables.{Body, Module}
use Rattle.rules.specs.Typing.{WellTyped}
use Rattle.rules.specs.Need.{Calls, Needs, Recursive}
use Rattle.need.specs.Whole.{few_frames, low_need}
use Rattle.settle.specs.Graph.{TableOf, need_is, loops_is, row_of, Low, Ended, mark_of}

-- the needs of an accepted module fit
pub table_low : (m : Module) (acc : WellTyped m) (n : ℕ) (own off : List ℕ) → n ≤ 128 → ((b : Body) (k : ℕ) → Calls m b k → k < n) → TableOf m n own off → Low n own off
table_low m acc n own off l bounded T b x y h N =
    let w : Needs m (row_of b) x y = need_is m n own off T b x y h N in
    let u : x ≤ 544 * suc n = low_need m acc n bounded (row_of b) x y w in
    let v : y ≤ suc n = few_frames m acc n bounded (row_of b) x y w in (omega arith, omega arith)

-- when all rows have ended, each body has its need and frames, or is one of 47
pub ended_needs : (m : Module) (n : ℕ) (own off marks need frames : List ℕ) → TableOf m n own off → Ended n own off (n + 1) marks need frames → (b : ℕ) → b ≤ n
    → ((mark_of marks b ≡ 2) × Needs m (row_of b) (get_or need b 0) (get_or frames b 0)) ⊎ ((mark_of marks b ≡ 3) × Recursive m (row_of b))
ended_needs m n own off marks need frames T E b h =
    decide (eqb (mark_of marks b) 2)
    (λ y. let z : mark_of marks b ≡ 2 = eqb_is (mark_of marks b) 2 y in inl (z, need_is m n own off T b (get_or need b 0) (get_or frames b 0) h (E.settled.settled b h z)))
    (λ y. let p : 2 ≤ mark_of marks b = E.all b (omega arith) in
    let q : mark_of marks b ≤ 3 = E.settled.small b in
    let z : mark_of marks b ≡ 3 = three (mark_of marks b) p q (eqb_isnt (mark_of marks b) 2 y) in inr (z, loops_is m n own off T b h (E.settled.loops b h z)))
  where
    three : (c : ℕ) → 2 ≤ c → c ≤ 3 → (c ≡ 2 → ⊥) → c ≡ 3
    three zero p q u = absurd (omega arith)
    three (suc zero) p q u = absurd (omega arith)
    three (suc (suc zero)) p q u = absurd (u refl)
    three (suc (suc (suc zero))) p q u = refl
    three (suc (suc (suc (suc c)))) p q u = absurd (omega arith)
