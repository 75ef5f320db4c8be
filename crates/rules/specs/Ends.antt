-- 01, Demand 3, its words: "The four ends are outcomes 0, 15, 20 and 24." and 02: A2, which adds 35, A8, which adds 44 but in edition 1, and A6, which adds 33 and 36 "in
-- edition 4". `End` holds of these numbers and of no other.
use Rattle.std.specs.Prelude.{◌≡◌, refl, ◌⊎◌, ℕ}
use Rattle.std.proofs.Common.{sym, subst, inl, inr}
use Rattle.rules.specs.Demand3.{End, finished, used_up, overflow, zero_divide_end, no_order, no_fit, no_block, null_followed}

-- in every edition
abbrev pub OneOfFive : ℕ → Type 0
OneOfFive n = (n ≡ 0) ⊎ ((n ≡ 15) ⊎ ((n ≡ 20) ⊎ ((n ≡ 24) ⊎ (n ≡ 35))))

-- and in edition 4
abbrev pub OneOfTwo : ℕ → Type 0
OneOfTwo n = (n ≡ 33) ⊎ (n ≡ 36)

abbrev pub IsEnd : ℕ → ℕ → Type 0
IsEnd e n = OneOfFive n ⊎ (((e ≡ 1 → ⊥) × (n ≡ 44)) ⊎ ((e ≡ 4) × OneOfTwo n))

is_five : (e n : ℕ) → OneOfFive n → End e n
is_five e n (inl h) = subst (End e) (sym h) finished
is_five e n (inr (inl h)) = subst (End e) (sym h) used_up
is_five e n (inr (inr (inl h))) = subst (End e) (sym h) overflow
is_five e n (inr (inr (inr (inl h)))) = subst (End e) (sym h) zero_divide_end
is_five e n (inr (inr (inr (inr h)))) = subst (End e) (sym h) no_order

is_two : (n : ℕ) → OneOfTwo n → End 4 n
is_two n (inl h) = subst (End 4) (sym h) no_block
is_two n (inr h) = subst (End 4) (sym h) null_followed

is_end : (e n : ℕ) → IsEnd e n → End e n
is_end e n (inl h) = is_five e n h
is_end e n (inr (inl h)) = subst (End e) (sym h.1) (no_fit h.0)
is_end e n (inr (inr h)) = subst (λ x. End x n) (sym h.0) (is_two n h.1)

pub exactly : (e n : ℕ) → (End e n → IsEnd e n) × (IsEnd e n → End e n)
exactly e n = (
  (λ h.
      elim h as (λ d k _. IsEnd d k) [
        | finished ↦ inl (inl refl)
        | used_up ↦ inl (inr (inl refl))
        | overflow ↦ inl (inr (inr (inl refl)))
        | zero_divide_end ↦ inl (inr (inr (inr (inl refl))))
        | no_order ↦ inl (inr (inr (inr (inr refl))))
        | no_fit later ↦ inr (inl (later, refl))
        | no_block ↦ inr (inr (refl, inl refl))
        | null_followed ↦ inr (inr (refl, inr refl))
      ]),
  is_end e n,
)
