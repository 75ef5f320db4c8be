-- Types of parameters and rows of arguments: numbers, sizes, ints without upper bits, and what the rules admit.
use Prim.Native.Nat.{ℕ, zero, suc, ◌+◌, ◌*◌, ◌-◌, ◌/◌, ◌%◌, ◌^◌, ◌≤◌, ◌<◌}
use native.Mathlib.Omega.{arith}
use native.Mathlib.Nat.{div-add-mod', mul-div_cancel, mul-mod_left, mul_comm, add-zero}
use mathlib.Core.Path.{◌≡◌, refl, sym, ap, ◌∙◌}
use mathlib.Core.Bool.{Bool, true, false, cond, ◌&&◌, ◌||◌}
use mathlib.Core.List.{List, ◌∷◌}
use lib.Dec.{eqb, ltb}
use lib.ListN.{length, get_or, take, set}
use lib.Seq.{take-suc, get_or-set_same, get_or-set_other}
use borrow.Author.Tests.{eq-eqb, ne_eqb, eqb-true, eqb-false, lt-ltb, le-ltb}
use Rattle.rules.specs.declared.Slot.{Slot}
use Rattle.rules.specs.Bytes.{byte, word}
use Rattle.rules.specs.Instructions.{Ty, num, ptr, kind_of, ty_of}
use Rattle.rules.specs.declared.Num.TheVariants.{Int as int, Long as long, Double as double}
use Rattle.rules.specs.Tables.{params_from}
use Rattle.rules.specs.Stack.{slot_at, slots_of}
use Rattle.rules.specs.Answers.{declared, admitted}
use Rattle.soundness.specs.Tests.{decide, false_true, and_both}
use Rattle.runs.specs.Runs.{lent_of, suits}
use Rattle.runs.proofs.Arguments.{pointer_by, suits_int, suits_long, suits_last, declared_next, declared_not, declared_end, admitted_is}
use Rattle.rules.specs.Mapping.{takes_numbers, types_of}
use Rattle.rows.specs.Rows.{is_number, sized, low_ints}

-- ---- numbers

ty_number : (x y z : Bool) (w : Ty) → is_number w ≡ false → is_number (cond x (num int) (cond y (num long) (cond z (num double) w))) ≡ ((x || y) || z)
ty_number true y z w h = refl
ty_number false true z w h = refl
ty_number false false true w h = refl
ty_number false false false w h = h

no_number : (b : ℕ) → is_number (pointer_by b) ≡ false
no_number b = decide (ltb b 192) (λ y. rw y refl) (λ y. rw y refl)

pub number_byte : (b : ℕ) → is_number (ty_of b) ≡ ((eqb b 3 || eqb b 4) || eqb b 6)
number_byte b = ty_number (eqb b 3) (eqb b 4) (eqb b 6) (pointer_by b) (no_number b)

takes_cons : (t : Ty) (ts : List Ty) → takes_numbers (t ∷ ts) ≡ (is_number t && takes_numbers ts)
takes_cons (num τ) ts = refl
takes_cons (ptr g w) ts = refl

-- ---- the type bytes at a of the table s

module _ (s : List ℕ) (a : ℕ) where
  -- x tells whether the type byte of the j-th is a number's
  module _ (j : ℕ) (more : 0 < j) (b : ℕ) (x : Bool) (eb : b ≡ byte s (a + (j - 1))) (ex : x ≡ is_number (ty_of b)) where
    top : takes_numbers (params_from s a j) ≡ (x && takes_numbers (params_from s a (j - 1)))
    top =
        let e : j ≡ suc (j - 1) = omega arith in
        ap (λ (i : ℕ). takes_numbers (params_from s a i)) e ∙ takes_cons (ty_of (byte s (a + (j - 1)))) (params_from s a (j - 1)) ∙ rw (ex, eb) refl

    pub takes_next : x ≡ true → takes_numbers (params_from s a j) ≡ takes_numbers (params_from s a (j - 1))
    takes_next e = top ∙ ap (λ (y : Bool). y && takes_numbers (params_from s a (j - 1))) e

    pub takes_not : x ≡ false → takes_numbers (params_from s a j) ≡ false
    takes_not e = top ∙ ap (λ (y : Bool). y && takes_numbers (params_from s a (j - 1))) e

  pub takes_end : (j : ℕ) → j ≡ 0 → takes_numbers (params_from s a j) ≡ true
  takes_end j e = rw e refl

-- a type byte was put at j
pub put_type : (s : List ℕ) (a n : ℕ) (ks : List ℕ) (j b : ℕ) → 0 < j → j ≤ length ks → b ≡ byte s (a + (j - 1)) → ((i : ℕ) → j ≤ i → i < n → get_or ks i 0 ≡ byte s (a + i))
    → (i : ℕ) → j - 1 ≤ i → i < n → get_or (set ks (j - 1) b) i 0 ≡ byte s (a + i)
put_type s a n ks j b more room e have i l h =
    decide (eqb i (j - 1))
    (λ y. let q : i ≡ j - 1 = eqb-true i (j - 1) y in rw q (get_or-set_same ks (j - 1) b 0 (omega arith) ∙ e))
    (λ y. let q : i ≡ j - 1 → ⊥ = eqb-false i (j - 1) y in get_or-set_other ks (j - 1) i b 0 q ∙ have i (omega (arith, q)) h)

-- ---- types_of: the type bytes themselves

kind_number : (x y z : Bool) (w : Ty) (b : ℕ) → (x ≡ true → b ≡ 3) → (y ≡ true → b ≡ 4) → (z ≡ true → b ≡ 6) → is_number w ≡ false
    → is_number (cond x (num int) (cond y (num long) (cond z (num double) w))) ≡ true → kind_of (cond x (num int) (cond y (num long) (cond z (num double) w))) ≡ b
kind_number true y z w b hx hy hz h g = sym (hx refl)
kind_number false true z w b hx hy hz h g = sym (hy refl)
kind_number false false true w b hx hy hz h g = sym (hz refl)
kind_number false false false w b hx hy hz h g = false_true (sym h ∙ g)

number_kind : (b : ℕ) → is_number (ty_of b) ≡ true → kind_of (ty_of b) ≡ b
number_kind b h = kind_number (eqb b 3) (eqb b 4) (eqb b 6) (pointer_by b) b (eqb-true b 3) (eqb-true b 4) (eqb-true b 6) (no_number b) h

module _ (s : List ℕ) (a : ℕ) (b : List ℕ) where
  abbrev Shown : ℕ → Type 0
  Shown n = (i : ℕ) → i < n → get_or b i 0 ≡ byte s (a + i)

  pub types_shown : (n : ℕ) → n ≤ length b → takes_numbers (params_from s a n) ≡ true → Shown n → take n b ≡ types_of (params_from s a n)
  types_shown zero l h e = refl
  types_shown (suc n) l h e =
      let x = and_both (is_number (ty_of (byte s (a + n)))) (takes_numbers (params_from s a n)) (sym (takes_cons (ty_of (byte s (a + n))) (params_from s a n)) ∙ h) in
      take-suc b n 0 l
      ∙ rw (types_shown n (omega arith) x.1 (λ i j. e i (omega arith)), e n (omega arith), number_kind (byte s (a + n)) x.0) refl

  -- ---- arguments p of these types

  module _ (p : List ℕ) where
    suits_low : (n : ℕ) → byte b n ≡ byte s (a + n) → is_number (ty_of (byte s (a + n))) ≡ true
        → suits (ty_of (byte s (a + n))) (slot_at p b n) ≡ cond (eqb (byte b n) 3) (ltb (word 8 p (n * 8)) (2 ^ 32)) true
    unfolding slot_at
    suits_low n e number =
        let c : ℕ = byte s (a + n) in
        let v : Slot = record { kind = byte b n; payload = word 8 p (n * 8) } in
        decide (eqb c 3)
        (λ y. let q : c ≡ 3 = eqb-true c 3 y in sym (suits_int c v e q) ∙ rw (eq-eqb (byte b n) 3 (e ∙ q)) refl)
        (λ y. let n3 : c ≡ 3 → ⊥ = eqb-false c 3 y in
        let other : eqb (byte b n) 3 ≡ false = ne_eqb (byte b n) 3 (λ z. n3 (sym e ∙ z)) in
        decide (eqb c 4)
        (λ z. sym (suits_long c v e (eqb-true c 4 z)) ∙ rw other refl)
        (λ z. let n4 : c ≡ 4 → ⊥ = eqb-false c 4 z in
        let six : eqb c 6 ≡ true = sym (number_byte c ∙ rw (y, z) refl) ∙ number in
        sym (suits_last c v e n3 n4) ∙ six ∙ rw other refl))

    declares_low : (n : ℕ) → takes_numbers (params_from s a n) ≡ true → Shown n → declared (params_from s a n) (slots_of p b n) ≡ low_ints p b n
    unfolding low_ints
    declares_low zero h e = declared_end s a p b 0 refl
    declares_low (suc n) h e =
        let x = and_both (is_number (ty_of (byte s (a + n)))) (takes_numbers (params_from s a n)) (sym (takes_cons (ty_of (byte s (a + n))) (params_from s a n)) ∙ h) in
        let below : declared (params_from s a n) (slots_of p b n) ≡ low_ints p b n = declares_low n x.1 (λ i j. e i (omega arith)) in
        let c : Bool = cond (eqb (byte b n) 3) (ltb (word 8 p (n * 8)) (2 ^ 32)) true in
        let suit : c ≡ suits (ty_of (byte s (a + n))) (slot_at p b n) = sym (suits_low n (e n (omega arith)) x.0) in
        let q : suc n - 1 ≡ n = omega arith in
        let eb : byte s (a + n) ≡ byte s (a + (suc n - 1)) = ap (λ (i : ℕ). byte s (a + i)) (sym q) in
        let ev : slot_at p b n ≡ slot_at p b (suc n - 1) = ap (slot_at p b) (sym q) in
        decide c
        (λ y. declared_next s a p b (suc n) (omega arith) (byte s (a + n)) (slot_at p b n) c eb ev suit y
        ∙ ap (λ (i : ℕ). declared (params_from s a i) (slots_of p b i)) q ∙ below ∙ rw y refl)
        (λ y. declared_not s a p b (suc n) (omega arith) (byte s (a + n)) (slot_at p b n) c eb ev suit y ∙ rw y refl)

    pub admits_low : (n : ℕ) → takes_numbers (params_from s a n) ≡ true → Shown n → length b ≡ n → length p ≡ n * 8 → low_ints p b n ≡ admitted (params_from s a n) (lent_of p b)
    admits_low n h e lb lp = admitted_is s a p b n lb lp (low_ints p b n) (declares_low n h e)

-- ---- ints without upper bits, one by one

module _ (p b : List ℕ) (j : ℕ) (more : 0 < j) where
  at_top : low_ints p b j ≡ (cond (eqb (byte b (j - 1)) 3) (ltb (word 8 p ((j - 1) * 8)) (2 ^ 32)) true && low_ints p b (j - 1))
  unfolding low_ints
  at_top = let e : j ≡ suc (j - 1) = omega arith in ap (low_ints p b) e

  pub low_other : (byte b (j - 1) ≡ 3 → ⊥) → low_ints p b j ≡ low_ints p b (j - 1)
  low_other n = at_top ∙ rw (ne_eqb (byte b (j - 1)) 3 n) refl

  module _ (e : byte b (j - 1) ≡ 3) (v : ℕ) (ev : v ≡ word 8 p ((j - 1) * 8)) where
    pub low_next : v < 4294967296 → low_ints p b j ≡ low_ints p b (j - 1)
    low_next l = at_top ∙ rw (eq-eqb (byte b (j - 1)) 3 e, ← ev, lt-ltb v 4294967296 l) refl

    pub low_not : 4294967296 ≤ v → low_ints p b j ≡ false
    low_not l = at_top ∙ rw (eq-eqb (byte b (j - 1)) 3 e, ← ev, le-ltb v 4294967296 l) refl

pub low_end : (p b : List ℕ) (j : ℕ) → j ≡ 0 → low_ints p b j ≡ true
unfolding low_ints
low_end p b j e = rw e refl

-- ---- sizes

pub part_row : (n args out : ℕ) → (out % 8 ≡ 0 → ⊥) → false ≡ sized n args out
part_row n args out h = rw (ne_eqb (out % 8) 0 h) refl

pub no_arguments : (n args out : ℕ) → out % 8 ≡ 0 → n ≡ 0 → eqb args 0 ≡ sized n args out
no_arguments n args out h e = let z : n * out ≡ 0 = rw e (omega arith) in rw (eq-eqb (out % 8) 0 h, z) refl

both_or : (x y z : Bool) → (x ≡ true → y ≡ true → z ≡ true) → (z ≡ true → (x ≡ true) × (y ≡ true)) → (x && y) ≡ z
both_or true true z f g = sym (f refl refl)
both_or true false true f g = (g refl).1
both_or true false false f g = refl
both_or false y true f g = (g refl).0
both_or false y false f g = refl

-- args are n a byte of `out`, of which n is no divisor to be wrapped
pub quotient : (n args out : ℕ) → 0 < n → out % 8 ≡ 0 → (eqb (args / n) out && eqb (args % n) 0) ≡ sized n args out
quotient n args out h e =
    both_or (eqb (args / n) out) (eqb (args % n) 0) (eqb args (n * out))
    (λ x y. eq-eqb args (n * out) (sym (div-add-mod' args n) ∙ rw (eqb-true (args / n) out x, eqb-true (args % n) 0 y, mul_comm out n) (add-zero (n * out))))
    (λ z. let q : args ≡ out * n = eqb-true args (n * out) z ∙ mul_comm n out in
    (eq-eqb (args / n) out (ap (λ (x : ℕ). x / n) q ∙ mul-div_cancel out h), eq-eqb (args % n) 0 (ap (λ (x : ℕ). x % n) q ∙ mul-mod_left out n)))
    ∙ rw (eq-eqb (out % 8) 0 e) refl
