-- The walk by instruction against the operand bytes due.
use Prim.Native.Nat.{ℕ, zero, suc, ◌+◌, ◌-◌, ◌≤◌, ◌<◌}
use native.Mathlib.Nat.{eq-or-lt_of_le, add-suc, add-zero}
use native.Mathlib.Numerals.{add-one}
use native.Mathlib.Omega.{arith}
use mathlib.Core.Path.{◌≡◌, refl, sym, ap, ◌∙◌, subst}
use mathlib.Core.Logic.{⊎_elim}
use mathlib.Core.Bool.{Bool, true, false, cond}
use mathlib.Core.List.{List}
use lib.Dec.{eqb}
use lib.ListN.{length, get_or, set, length-set}
use lib.Seq.{get_or-set_same, get_or-set_other}
use borrow.Author.Tests.{eq-eqb, ne_eqb, eqb-true, eqb-false}
use Rattle.rules.specs.Bytes.{some_below}
use Rattle.rules.specs.Instructions.{Opcode, absent, bare, wide, operand_bytes, is_absent}
use Rattle.rules.specs.Tables.{due, due_after, opcode_at, unknown_at, differs}
use Rattle.format.proofs.Tests.{split, and_no, or_left, or_right, differs_true}
use Rattle.format.proofs.Gathered.{some_hit, none_up}
use Rattle.reader.specs.Cut.{size_in, mark, Cut, Fails, Walked}

-- ---- from an instruction's first byte to the next instruction

operands : (o : Opcode) → 0 < size_in o → operand_bytes o + 1 ≡ size_in o
operands absent h = absurd (omega arith)
operands (bare i) h = refl
operands (wide i) h = refl

first : (d : ℕ) (o : Opcode) → d ≡ 0 → due_after d o ≡ operand_bytes o
first zero o h = refl
first (suc d) o h = absurd (omega arith)

later : (d : ℕ) (o : Opcode) → 0 < d → due_after d o + 1 ≡ d
later zero o h = absurd (omega arith)
later (suc d) o h = add-one d

module _ (ed : ℕ) (s : List ℕ) (p z : ℕ) (begins : due ed s p ≡ 0) (size : z ≡ size_in (opcode_at ed s p)) (some : 0 < z) where
  pub inside : (j : ℕ) → j < z → due ed s (p + suc j) + suc j ≡ z
  unfolding due
  inside zero h =
      let e : due ed s (p + 1) ≡ operand_bytes (opcode_at ed s p) = rw add-one (first (due ed s p) (opcode_at ed s p) begins) in
      let o = operands (opcode_at ed s p) (omega arith) in
      omega arith
  inside (suc j) h =
      let i = inside j (omega arith) in
      let l = later (due ed s (p + suc j)) (opcode_at ed s (p + suc j)) (omega arith) in
      let e : due ed s (p + suc (suc j)) ≡ due_after (due ed s (p + suc j)) (opcode_at ed s (p + suc j)) = rw (add-suc p (suc j)) in
      omega arith

  -- a place q inside the instruction
  pub within : (q : ℕ) → p < q → q < p + z → due ed s q ≡ 0 → ⊥
  within q l h e =
      let i = inside (q - p - 1) (omega arith) in
      let g : p + suc (q - p - 1) ≡ q = omega arith in
      let d : due ed s (p + suc (q - p - 1)) ≡ 0 = ap (due ed s) g ∙ e in
      omega arith

  pub next : due ed s (p + z) ≡ 0
  next =
      let i = inside (z - 1) (omega arith) in
      let g : p + suc (z - 1) ≡ p + z = omega arith in
      let d : due ed s (p + suc (z - 1)) ≡ due ed s (p + z) = ap (due ed s) g in
      omega arith

-- ---- marks

pub mark_one : (ed : ℕ) (s : List ℕ) (q : ℕ) → due ed s q ≡ 0 → 1 ≡ mark ed s q
unfolding mark
mark_one ed s q h = simp (eq-eqb _ _ h)

mark_none : (ed : ℕ) (s : List ℕ) (q : ℕ) → (due ed s q ≡ 0 → ⊥) → 0 ≡ mark ed s q
unfolding mark
mark_none ed s q h = simp (ne_eqb _ _ h)

-- a marked place is one where no operand byte is due
pub mark_tells : (ed : ℕ) (s : List ℕ) (q x : ℕ) → x ≡ mark ed s q → eqb x 1 ≡ eqb (due ed s q) 0
unfolding mark
mark_tells ed s q x e = ap (λ (y : ℕ). eqb y 1) e ∙ cases (eqb (due ed s q) 0)
  where
    cases : (b : Bool) → eqb (cond b 1 0) 1 ≡ b
    cases true = refl
    cases false = refl

-- ---- one instruction more

known_here : (o : Opcode) → 0 < size_in o → is_absent o ≡ false
known_here absent h = absurd (omega arith)
known_here (bare i) h = refl
known_here (wide i) h = refl

absent_here : (o : Opcode) → size_in o ≡ 0 → is_absent o ≡ true
absent_here absent h = refl
absent_here (bare i) h = absurd (omega (arith, h))
absent_here (wide i) h = absurd (omega (arith, h))

module _ (ed : ℕ) (s : List ℕ) (p z : ℕ) (t : List ℕ) (cut : Cut ed s p t) where
  marked_here : (q : ℕ) → q ≤ p → q < length (set t p 1) → get_or (set t p 1) q 0 ≡ mark ed s q
  marked_here q l h =
      let g : q < length t = rw length-set at h in
      ⊎_elim (λ e. let e' : q ≡ p = e in rw e' (get_or-set_same t p 1 0 (omega arith) ∙ mark_one ed s p cut.begins))
      (λ k. get_or-set_other t p q 1 0 (λ e. let e' : q ≡ p = e in omega arith) ∙ cut.marked q k g) (eq-or-lt_of_le l)

  pub cut_step : z ≡ size_in (opcode_at ed s p) → 0 < z → Cut ed s (p + z) (set t p 1)
  unfolding unknown_at
  cut_step size some =
      record {
        begins = next ed s p z cut.begins size some;
        known = none_up (unknown_at ed s) p z cut.known known_at;
        marked = marked_at;
        clear = λ q l. get_or-set_other t p q 1 0 (λ e. let e' : q ≡ p = e in omega arith) ∙ cut.clear q (omega arith);
      }
    where
      known_at : (j : ℕ) → j < z → unknown_at ed s (p + j) ≡ false
      known_at zero l = rw add-zero (and_no (eqb (due ed s p) 0) (is_absent (opcode_at ed s p)) (known_here (opcode_at ed s p) (omega arith)))
      known_at (suc j) l = simp (ne_eqb _ _ (within ed s p z cut.begins size some (p + suc j) (omega arith) (omega arith)))

      marked_at : (q : ℕ) → q < p + z → q < length (set t p 1) → get_or (set t p 1) q 0 ≡ mark ed s q
      marked_at q l h =
          ⊎_elim (λ k. marked_here q k h)
          (λ k. get_or-set_other t p q 1 0 (λ e. let e' : q ≡ p = e in omega arith) ∙ cut.clear q (omega arith)
          ∙ mark_none ed s q (within ed s p z cut.begins size some q k l))
          (split q p)

-- ---- where a walk ends

-- an instruction that begins before `to` and ends after it
pub crosses : (ed : ℕ) (s : List ℕ) (p z to : ℕ) → due ed s p ≡ 0 → z ≡ size_in (opcode_at ed s p) → 0 < z → p < to → to < p + z → differs (due ed s to) 0 ≡ true
crosses ed s p z to begins size some l h = differs_true (due ed s to) 0 (within ed s p z begins size some to l h)

unknown_below : (ed : ℕ) (s : List ℕ) (p z to : ℕ) → due ed s p ≡ 0 → z ≡ size_in (opcode_at ed s p) → z ≡ 0 → p < to → Fails ed s to
unfolding unknown_at
unknown_below ed s p z to begins size none l =
    or_left _ _ (some_hit (unknown_at ed s) to p l (simp (eq-eqb _ _ begins, absent_here (opcode_at ed s p) (sym size ∙ none))))

pub walked : (ed : ℕ) (s : List ℕ) (p to : ℕ) (t : List ℕ) → Cut ed s p t → to ≤ p → (to < p → differs (due ed s to) 0 ≡ true) → Walked (eqb p to) ed s to t
walked ed s p to t cut l h = go (eqb p to) refl
  where
    go : (b : Bool) → eqb p to ≡ b → Walked b ed s to t
    go true e = subst (λ (q : ℕ). Cut ed s q t) (eqb-true p to e) cut
    go false e = or_right (some_below to (unknown_at ed s)) (differs (due ed s to) 0) (h (⊎_elim (λ g. absurd (eqb-false p to e (sym g))) (λ g. g) (eq-or-lt_of_le l)))

-- a walk that stops at an unknown instruction
pub stopped : (ed : ℕ) (s : List ℕ) (p z to : ℕ) (t : List ℕ) → due ed s p ≡ 0 → z ≡ size_in (opcode_at ed s p) → z ≡ 0 → p < to → Walked (eqb p to) ed s to t
stopped ed s p z to t begins size none l =
    subst (λ (b : Bool). Walked b ed s to t) (sym (ne_eqb p to (λ e. let e' : p ≡ to = e in omega arith))) (unknown_below ed s p z to begins size none l)
