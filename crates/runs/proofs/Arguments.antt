-- Arguments against the declaration, topmost first; and arguments copied to the first slots.
use Prim.Native.Nat.{ℕ, zero, suc, ◌+◌, ◌*◌, ◌-◌, ◌^◌, ◌≤◌, ◌<◌}
use native.Mathlib.Omega.{arith}
use native.Mathlib.Numerals.{add-one}
use mathlib.Core.Path.{◌≡◌, refl, sym, ap, ◌∙◌}
use mathlib.Core.Bool.{Bool, true, false, cond, ◌&&◌, true≢false}
use mathlib.Core.List.{List, [], ◌∷◌}
use lib.Dec.{eqb, ltb}
use lib.ListN.{length, drop, length-set}
use lib.Seq.{drop-set-lt}
use borrow.Author.Tests.{eq-eqb, ne_eqb, eqb-true, eqb-false}
use Rattle.rules.specs.declared.Num.TheVariants.{Int as int, Long as long, Double as double}
use Rattle.rules.specs.declared.Slot.{Slot}
use Rattle.rules.specs.Bytes.{byte}
use Rattle.rules.specs.Instructions.{Ty, num, ptr, pointee_of, ty_of}
use Rattle.rules.specs.Tables.{params_from}
use Rattle.rules.specs.Stack.{slot_at, slots_of}
use Rattle.rules.specs.Answers.{declared, admitted}
use Rattle.soundness.specs.Tests.{decide}
use Rattle.format.proofs.Tests.{and_left, and_right, and_no}
use Rattle.memory.proofs.Words.{drop_written, length_written}
use Rattle.state.specs.Slots.{payloads_with, types_with}
use Rattle.state.proofs.Stack.{slots_push}
use Rattle.runs.specs.Runs.{lent_of, suits, Copied}

-- ---- one argument

-- what a type byte is that is no number's
abbrev pub pointer_by : ℕ → Ty
pointer_by b = cond (ltb b 192) (ptr false (pointee_of (b - 128))) (ptr true (pointee_of (b - 192)))

module _ (b : ℕ) (v : Slot) where
  none_suits : false ≡ suits (pointer_by b) v
  none_suits = decide (ltb b 192) (λ y. rw y refl) (λ y. rw y refl)

  pub suits_int : v.kind ≡ b → b ≡ 3 → ltb v.payload 4294967296 ≡ suits (ty_of b) v
  suits_int k e = rw e (rw (eq-eqb v.kind 3 (k ∙ e)) refl)

  pub suits_long : v.kind ≡ b → b ≡ 4 → true ≡ suits (ty_of b) v
  suits_long k e = rw e (rw (eq-eqb v.kind 4 (k ∙ e)) refl)

  -- a double, or a pointer, for which there is no value
  pub suits_last : v.kind ≡ b → (b ≡ 3 → ⊥) → (b ≡ 4 → ⊥) → eqb b 6 ≡ suits (ty_of b) v
  suits_last k n3 n4 = rw (ne_eqb b 3 n3, ne_eqb b 4 n4) (go (eqb b 6) (pointer_by b) none_suits refl)
    where
      go : (x : Bool) (w : Ty) → false ≡ suits w v → eqb b 6 ≡ x → x ≡ suits (cond x (num double) w) v
      go true w h e = rw (eq-eqb v.kind 6 (k ∙ eqb-true b 6 e)) refl
      go false w h e = h

  pub suits_not : (v.kind ≡ b → ⊥) → false ≡ suits (ty_of b) v
  suits_not k = go (eqb b 3) (eqb b 4) (eqb b 6) (pointer_by b) none_suits refl refl refl
    where
      go : (x y z : Bool) (w : Ty) → false ≡ suits w v → eqb b 3 ≡ x → eqb b 4 ≡ y → eqb b 6 ≡ z
          → false ≡ suits (cond x (num int) (cond y (num long) (cond z (num double) w))) v
      go true y z w h ex ey ez = rw (ne_eqb v.kind 3 (λ q. k (q ∙ sym (eqb-true b 3 ex)))) refl
      go false true z w h ex ey ez = rw (ne_eqb v.kind 4 (λ q. k (q ∙ sym (eqb-true b 4 ey)))) refl
      go false false true w h ex ey ez = rw (ne_eqb v.kind 6 (λ q. k (q ∙ sym (eqb-true b 6 ez)))) refl
      go false false false w h ex ey ez = h

-- ---- all of them

declared_cons : (x : Ty) (ts : List Ty) (v : Slot) (vs : List Slot) → declared (x ∷ ts) (v ∷ vs) ≡ (suits x v && declared ts vs)
declared_cons (num τ) ts v vs = refl
declared_cons (ptr g w) ts v vs = refl

declared_none : (x : Ty) (ts : List Ty) → declared (x ∷ ts) [] ≡ false
declared_none (num τ) ts = refl
declared_none (ptr g w) ts = refl

-- the type bytes are at a of the file s; p and t are the arguments
module _ (s : List ℕ) (a : ℕ) (p t : List ℕ) where
  abbrev declares : ℕ → ℕ → Bool
  declares n m = declared (params_from s a n) (slots_of p t m)

  next : (n m : ℕ) → declares (suc n) (suc m) ≡ (suits (ty_of (byte s (a + n))) (slot_at p t m) && declares n m)
  unfolding slots_of
  next n m = declared_cons (ty_of (byte s (a + n))) (params_from s a n) (slot_at p t m) (slots_of p t m)

  other_count : (n m : ℕ) → (m ≡ n → ⊥) → declares n m ≡ false
  unfolding slots_of
  other_count zero zero h = absurd (h refl)
  other_count zero (suc m) h = refl
  other_count (suc n) zero h = declared_none (ty_of (byte s (a + n))) (params_from s a n)
  other_count (suc n) (suc m) h = next n m ∙ and_no (suits (ty_of (byte s (a + n))) (slot_at p t m)) _ (other_count n m (λ e. h (ap suc e)))

  -- x tells whether the argument v is one for the type byte b
  module _ (j : ℕ) (more : 0 < j) (b : ℕ) (v : Slot) (x : Bool) (eb : b ≡ byte s (a + (j - 1))) (ev : v ≡ slot_at p t (j - 1)) (ex : x ≡ suits (ty_of b) v) where
    top : declares j j ≡ (x && declares (j - 1) (j - 1))
    top =
        let e : j ≡ suc (j - 1) = omega arith in
        ap (λ (i : ℕ). declares i i) e ∙ rw (ex, eb, ev) (next (j - 1) (j - 1))

    pub declared_next : x ≡ true → declares j j ≡ declares (j - 1) (j - 1)
    declared_next e = top ∙ ap (λ (y : Bool). y && declares (j - 1) (j - 1)) e

    pub declared_not : x ≡ false → declares j j ≡ false
    declared_not e = top ∙ ap (λ (y : Bool). y && declares (j - 1) (j - 1)) e

  pub declared_end : (j : ℕ) → j ≡ 0 → declares j j ≡ true
  unfolding slots_of
  declared_end j e = rw e refl

  module _ (n : ℕ) where
    pub admitted_other : (length t ≡ n → ⊥) → false ≡ admitted (params_from s a n) (lent_of p t)
    admitted_other h = sym (and_no (eqb (length p) (8 * length t)) _ (other_count n (length t) h))

    pub admitted_part : length t ≡ n → (length p ≡ n * 8 → ⊥) → false ≡ admitted (params_from s a n) (lent_of p t)
    admitted_part e h = let q : length p ≡ 8 * length t → ⊥ = λ z. h (omega arith) in rw (ne_eqb _ _ q) refl

    pub admitted_is : length t ≡ n → length p ≡ n * 8 → (b : Bool) → declares n n ≡ b → b ≡ admitted (params_from s a n) (lent_of p t)
    admitted_is e h b d =
        let q : length p ≡ 8 * length t = omega arith in
        rw (eq-eqb _ _ q) (sym d ∙ ap (declares n) (sym e))

    pub admitted_lengths : admitted (params_from s a n) (lent_of p t) ≡ true → (length t ≡ n) × (length p ≡ n * 8)
    admitted_lengths h = go (eqb (length t) n) refl
      where
        go : (b : Bool) → eqb (length t) n ≡ b → (length t ≡ n) × (length p ≡ n * 8)
        go true e =
            let l : length t ≡ n = eqb-true _ _ e in
            let q : length p ≡ 8 * length t = eqb-true _ _ (and_left _ _ h) in
            (l, omega arith)
        go false e =
            absurd (true≢false (sym (and_right (eqb (length p) (8 * length t)) _ h) ∙ other_count n (length t) (eqb-false _ _ e)))

-- ---- copied

module _ (a b p t : List ℕ) where
  pub copied_none : Copied a b p t 0 p t
  unfolding slots_of
  copied_none =
      record { slots = refl; same_payloads = refl; same_types = refl; rest_payloads = λ m l. refl; rest_types = λ m l. refl }

  pub copied_more : (i : ℕ) (p' t' p'' t'' : List ℕ) → Copied a b p t i p' t' → i * 8 + 8 ≤ length p → i < length t
      → (v : Slot) → v ≡ slot_at a b i → v.payload < 2 ^ 64 → p'' ≡ payloads_with p' i v → t'' ≡ types_with t' i v → Copied a b p t (i + 1) p'' t''
  unfolding slots_of payloads_with types_with
  copied_more i p' t' p'' t'' k hp ht v ev fits ep et =
      let rp : i * 8 + 8 ≤ length p' = omega (arith, k.same_payloads) in
      let rt : i < length t' = omega (arith, k.same_types) in
      let grown : v ∷ slots_of p' t' i ≡ slots_of a b (i + 1) = rw (add-one, ev, k.slots) refl in
      record {
        slots = rw (ep, et) (slots_push p' t' i v rp rt fits ∙ grown);
        same_payloads = ap length ep ∙ length_written 8 p' (i * 8) v.payload rp ∙ k.same_payloads;
        same_types = ap length et ∙ length-set t' i v.kind ∙ k.same_types;
        rest_payloads = λ m l. ap (drop (m * 8)) ep ∙ drop_written 8 p' (i * 8) v.payload (m * 8) rp (omega arith) ∙ k.rest_payloads m (omega arith);
        rest_types = λ m l. ap (drop m) et ∙ drop-set-lt m t' i v.kind (omega arith) ∙ k.rest_types m (omega arith);
      }
