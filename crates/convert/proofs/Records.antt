-- Bytes put by numbers, and function records of the other edition, one by one, behind those that stand there.
use Prim.Native.Nat.{ℕ, zero, suc, ◌+◌, ◌*◌, ◌≤◌}
use native.Mathlib.Numerals.{add-one}
use native.Mathlib.Omega.{arith}
use mathlib.Core.Path.{◌≡◌, refl, ap, ◌∙◌}
use mathlib.Core.List.{List, ◌++◌, append_assoc, append-nil}
use lib.ListN.{length, drop, length-append, drop_of_length-le}
use Rattle.rules.specs.Bytes.{cut, written, zeros}
use Rattle.rules.specs.Converting.{raised, lowered}
use Rattle.soundness.specs.Cutting.{length_cut}
use Rattle.writer.proofs.Copying.{behind, kept, word_behind}
use Rattle.convert.specs.Rows.{record_put}

-- ---- records of edition 4

pub raised_length : (n : ℕ) (fs : List ℕ) → 20 * n ≤ length fs → length (raised n fs) ≡ 24 * n
unfolding raised
raised_length zero fs h = refl
raised_length (suc n) fs h =
    let r : length (raised n fs) ≡ 24 * n = raised_length n fs (omega arith) in
    let c : length (cut fs (20 * n) 20) ≡ 20 = length_cut fs (20 * n) 20 (omega arith) in
    simp length-append (omega arith)

pub raise_none : (fs out : List ℕ) → out ≡ raised 0 fs ++ drop (24 * 0) out
unfolding raised
raise_none fs out = refl

-- one more
module _ (fs out o : List ℕ) (i : ℕ) (here : o ≡ raised i fs ++ drop (24 * i) out) (fits : 20 * i + 20 ≤ length fs) (room : 24 * i + 24 ≤ length out) where
  raised_next : (o₁ : List ℕ) → o₁ ≡ record_put o (24 * i) fs (20 * i) → written 4 o₁ (24 * i + 20) 0 ≡ raised (suc i) fs ++ drop (24 * suc i) out
  unfolding raised
  raised_next o₁ r =
      let P : List ℕ = raised i fs in
      let x : List ℕ = cut fs (20 * i) 20 in
      let p : length P ≡ 24 * i = raised_length i fs (omega arith) in
      let c : length x ≡ 20 = length_cut fs (20 * i) 20 (omega arith) in
      let first : o₁ ≡ (P ++ x) ++ drop (24 * i + 20) out = r ∙ behind o P x out (24 * i) 20 here p in
      let k : 24 * i + 20 + 4 ≡ 24 * suc i = omega arith in
      word_behind o₁ (P ++ x) out (24 * i + 20) 4 0 (zeros 4) first (simp length-append (omega arith)) refl
      ∙ ap (λ (y : List ℕ). y ++ drop (24 * i + 20 + 4) out) (append_assoc P x (zeros 4)) ∙ ap (λ (j : ℕ). (P ++ (x ++ zeros 4)) ++ drop j out) k

  pub raise_more : (o₁ : List ℕ) → o₁ ≡ record_put o (24 * i) fs (20 * i) → (o₂ : List ℕ) → o₂ ≡ written 4 o₁ (24 * i + 20) 0
      → (o₂ ≡ raised (i + 1) fs ++ drop (24 * (i + 1)) out) × (length o₂ ≡ length out)
  raise_more o₁ r o₂ q =
      rw add-one
      (let g : o₂ ≡ raised (suc i) fs ++ drop (24 * suc i) out = q ∙ raised_next o₁ r in (g, kept o₂ (raised (suc i) fs) out (24 * suc i) g (raised_length (suc i) fs (omega arith)) (omega arith)))

pub raise_end : (fs out o : List ℕ) (i n : ℕ) → o ≡ raised i fs ++ drop (24 * i) out → i ≤ n → n ≤ i → length out ≡ 24 * n → o ≡ raised n fs
raise_end fs out o i n h u g e =
    let q : i ≡ n = omega arith in
    let l : length out ≤ 24 * i = omega arith in
    h ∙ ap (λ (x : List ℕ). raised i fs ++ x) (drop_of_length-le out l) ∙ append-nil (raised i fs) ∙ ap (λ (k : ℕ). raised k fs) q

-- ---- records of edition 3

pub lowered_length : (n : ℕ) (gs : List ℕ) → 24 * n ≤ length gs → length (lowered n gs) ≡ 20 * n
unfolding lowered
lowered_length zero gs h = refl
lowered_length (suc n) gs h =
    let r : length (lowered n gs) ≡ 20 * n = lowered_length n gs (omega arith) in
    let c : length (cut gs (24 * n) 20) ≡ 20 = length_cut gs (24 * n) 20 (omega arith) in
    simp length-append (omega arith)

pub lower_none : (gs out : List ℕ) → out ≡ lowered 0 gs ++ drop (20 * 0) out
unfolding lowered
lower_none gs out = refl

-- one more
module _ (gs out o : List ℕ) (i : ℕ) (here : o ≡ lowered i gs ++ drop (20 * i) out) (fits : 24 * i + 24 ≤ length gs) (room : 20 * i + 20 ≤ length out) where
  lowered_next : record_put o (20 * i) gs (24 * i) ≡ lowered (suc i) gs ++ drop (20 * suc i) out
  unfolding lowered
  lowered_next =
      let P : List ℕ = lowered i gs in
      let x : List ℕ = cut gs (24 * i) 20 in
      let p : length P ≡ 20 * i = lowered_length i gs (omega arith) in
      let k : 20 * i + 20 ≡ 20 * suc i = omega arith in
      behind o P x out (20 * i) 20 here p ∙ ap (λ (j : ℕ). (P ++ x) ++ drop j out) k

  pub lower_more : (o₁ : List ℕ) → o₁ ≡ record_put o (20 * i) gs (24 * i) → (o₁ ≡ lowered (i + 1) gs ++ drop (20 * (i + 1)) out) × (length o₁ ≡ length out)
  lower_more o₁ r =
      rw add-one
      (let g : o₁ ≡ lowered (suc i) gs ++ drop (20 * suc i) out = r ∙ lowered_next in (g, kept o₁ (lowered (suc i) gs) out (20 * suc i) g (lowered_length (suc i) gs (omega arith)) (omega arith)))

pub lower_end : (gs out o : List ℕ) (i n : ℕ) → o ≡ lowered i gs ++ drop (20 * i) out → i ≤ n → n ≤ i → length out ≡ 20 * n → o ≡ lowered n gs
lower_end gs out o i n h u g e =
    let q : i ≡ n = omega arith in
    let l : length out ≤ 20 * i = omega arith in
    h ∙ ap (λ (x : List ℕ). lowered i gs ++ x) (drop_of_length-le out l) ∙ append-nil (lowered i gs) ∙ ap (λ (k : ℕ). lowered k gs) q
