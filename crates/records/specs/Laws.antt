-- Laws of type bytes, of the lists that a record shows, and of flows that leave them.
use Rattle.std.specs.Prelude.{◌≡◌, ◌⊎◌, ℕ, zero, suc, ◌+◌, ◌-◌, ◌≤◌, ◌<◌, Bool, true, false, ◌&&◌, cond, List, [], ◌∷◌, length, leb, ltb, eqb}
use Rattle.std.proofs.Math.Path.{refl}
use Rattle.std.proofs.Common.{sym, ap, subst, ◌∙◌, inl, inr, arith, ne_eqb, eqb-true, le-leb}
use Rattle.std.proofs.Math.Option.{none, some}
use Rattle.std.proofs.lemmas.Bool.{eqb-false}
use Rattle.rules.specs.Bytes.{byte}
use Rattle.rules.specs.declared.Num.{Num}
use Rattle.rules.specs.declared.Num.TheVariants.{Int as int, Long as long, Double as double}
use Rattle.rules.specs.Instructions.{num_kind, Pointee, void, cell, pointee_number, Ty, num, ptr, pointer_byte, kind_of, ty_of, type_byte, eq_ty}
use Rattle.rules.specs.Tables.{Body, Module, params_from}
use Rattle.rules.specs.Stack.{at}
use Rattle.rules.specs.Typing.{Lists, lists, Flow, to}
use Rattle.rules.specs.Check.{small}
use Rattle.soundness.specs.Tests.{decide, eqb_is, ltb_is, ltb_isnt, ltb_yes}
use Rattle.soundness.specs.Invariant.{eq_ty_is}
use Rattle.soundness.specs.Exact.{eq_ty_same}
use Rattle.soundness.specs.Readable.{params_length, pointer_back}
use Rattle.records.specs.Record.{lists_of, IsType, Holds, bounded, Judged}
use Rattle.records.specs.declared.Transfer.TheVariants.{Breaks, Falls}

-- ---- type bytes

pub kind_low : (τ : Num) → (3 ≤ num_kind τ) × (num_kind τ ≤ 6)
kind_low int = omega arith
kind_low long = omega arith
kind_low double = omega arith

pub number_type_lem : (τ : Num) → ty_of (num_kind τ) ≡ num τ
number_type_lem int = refl
number_type_lem long = refl
number_type_lem double = refl

pub pointer_type_lem : (g : Bool) (τ : Num) → ty_of (pointer_byte g + num_kind τ) ≡ ptr g (cell τ)
pointer_type_lem false int = refl
pointer_type_lem false long = refl
pointer_type_lem false double = refl
pointer_type_lem true int = refl
pointer_type_lem true long = refl
pointer_type_lem true double = refl

pub number_is_type : (τ : Num) → IsType (num_kind τ)
number_is_type τ = ap type_byte (number_type_lem τ)

-- the byte of a number's type, and of a pointer's, managed (true) or not, with what it points to
abbrev pub OfNumber : ℕ → Type 0
OfNumber a = (τ : Num) × (ty_of a ≡ num τ) × (a ≡ num_kind τ)

abbrev pub OfPointer : ℕ → Type 0
OfPointer a = (w : Bool × Pointee) × (ty_of a ≡ ptr w.0 w.1) × (a ≡ pointer_byte w.0 + pointee_number w.1)

pub pointer_high : (g : Bool) → 128 ≤ pointer_byte g
pointer_high false = omega arith
pointer_high true = omega arith

pub split_type : (a : ℕ) → IsType a → OfNumber a ⊎ OfPointer a
split_type a is = go (ty_of a) refl
  where
    go : (x : Ty) → ty_of a ≡ x → OfNumber a ⊎ OfPointer a
    go (num τ) e = inl (τ, e, sym is ∙ ap type_byte e)
    go (ptr g w) e = inr ((g, w), e, sym is ∙ ap type_byte e)

pub number_byte : (a : ℕ) → IsType a → a < 128 → OfNumber a
number_byte a is low = go (split_type a is)
  where
    go : OfNumber a ⊎ OfPointer a → OfNumber a
    go (inl x) = x
    go (inr x) = absurd (let k = x.2 in let h = pointer_high x.0.0 in omega arith)

pub pointer_byte_lem : (a : ℕ) → IsType a → 6 < a → OfPointer a
pointer_byte_lem a is high = go (split_type a is)
  where
    go : OfNumber a ⊎ OfPointer a → OfPointer a
    go (inl x) = absurd (let k = kind_low x.0 in let e = x.2 in omega arith)
    go (inr x) = x

-- no other number gives a type but that of `null`
pub type_back : (a : ℕ) → (ty_of a ≡ ptr false void → ⊥) → IsType a
type_back a other = decide (ltb a 128) (λ l. below (ltb_is a 128 l)) (λ l. pointer_back a (ltb_isnt a 128 l))
  where
    below : a < 128 → IsType a
    below l =
        decide (eqb a 3) (λ e. rw (eqb_is a 3 e) refl) (λ u.
        decide (eqb a 4) (λ e. rw (eqb_is a 4 e) refl) (λ v.
        decide (eqb a 6) (λ e. rw (eqb_is a 6 e) refl) (λ w.
        let z : a - 128 ≡ 0 = omega arith in absurd (other (rw (u, v, w, ltb_yes a 192 (omega arith), z) refl)))))

-- the type number of a type byte
pub number_kind : (a : ℕ) → IsType a → a < 128 → kind_of (ty_of a) ≡ a
number_kind a is low = let x = number_byte a is low in ap kind_of x.1 ∙ sym x.2

-- types are the same where their bytes are
pub same_type : (a b : ℕ) → IsType a → IsType b → eq_ty (ty_of a) (ty_of b) ≡ eqb a b
same_type a b p q = go (eqb a b) (eq_ty (ty_of a) (ty_of b)) refl refl
  where
    go : (x y : Bool) → eqb a b ≡ x → eq_ty (ty_of a) (ty_of b) ≡ y → y ≡ x
    go true true u v = refl
    go true false u v =
        let e : ty_of b ≡ ty_of a = ap ty_of (sym (eqb-true a b u)) in
        sym v ∙ ap (eq_ty (ty_of a)) e ∙ eq_ty_same (ty_of a)
    go false true u v = absurd (eqb-false a b u (sym p ∙ ap type_byte (eq_ty_is (ty_of a) (ty_of b) v) ∙ q))
    go false false u v = refl

-- ---- the lists of a record

-- lists that are read from the same bytes
pub same_types : (r s : List ℕ) (a n : ℕ) → ((i : ℕ) → i < n → byte r (a + i) ≡ byte s (a + i)) → params_from r a n ≡ params_from s a n
same_types r s a zero h = refl
same_types r s a (suc n) h =
    let e : ty_of (byte r (a + n)) ≡ ty_of (byte s (a + n)) = ap ty_of (h n (omega arith)) in
    let t : params_from r a n ≡ params_from s a n = same_types r s a n (λ i l. h i (omega arith)) in
    cc

-- a list that is read element by element, the last one first: f gives element i, xs the first n
module _ {A : Type 0} (f : ℕ → A) (xs : ℕ → List A) (empty : xs 0 ≡ []) (next : (n : ℕ) → xs (suc n) ≡ f n ∷ xs n) where
  read_length : (n : ℕ) → length (xs n) ≡ n
  read_length zero = ap length empty
  read_length (suc n) = ap length (next n) ∙ ap suc (read_length n)

  pub read_in : (n i : ℕ) → i < n → at (xs n) i ≡ some (f i)
  read_in zero i h = absurd (omega arith)
  read_in (suc n) i h = rw (next n, read_length n) (go (eqb i n) refl (λ l. read_in n i l))
    where
      go : (x : Bool) → eqb i n ≡ x → (i < n → at (xs n) i ≡ some (f i)) → cond x (some (f n)) (at (xs n) i) ≡ some (f i)
      go true e lower = ap (λ (k : ℕ). some (f k)) (sym (eqb-true i n e))
      go false e lower = let ne = eqb-false i n e in lower (omega arith)

  pub read_past : (n i : ℕ) → n ≤ i → at (xs n) i ≡ none
  read_past zero i h = ap (λ (l : List A). at l i) empty
  read_past (suc n) i h = rw (next n, read_length n, ne_eqb i n (λ e. omega arith)) (read_past n i (omega arith))

-- element i of a list of types
pub type_in : (r : List ℕ) (a n i : ℕ) → i < n → at (params_from r a n) i ≡ some (ty_of (byte r (a + i)))
type_in r a = read_in (λ (i : ℕ). ty_of (byte r (a + i))) (params_from r a) refl (λ n. refl)

pub type_past : (r : List ℕ) (a n i : ℕ) → n ≤ i → at (params_from r a n) i ≡ none
type_past r a = read_past (λ (i : ℕ). ty_of (byte r (a + i))) (params_from r a) refl (λ n. refl)

-- the top operands, where n is their count
module _ (r : List ℕ) (n : ℕ) (count : n ≡ byte r 2) where
  pub no_operand : n < 1 → (lists_of r).operands ≡ []
  no_operand l = let z : byte r 2 ≡ 0 = omega arith in ap (params_from r 32) z

  pub top_operand : 1 ≤ n → (lists_of r).operands ≡ ty_of (byte r (31 + n)) ∷ params_from r 32 (n - 1)
  top_operand l =
      let z : byte r 2 ≡ suc (n - 1) = omega arith in
      let a : 32 + (n - 1) ≡ 31 + n = omega arith in
      ap (params_from r 32) z ∙ ap (λ (i : ℕ). ty_of (byte r i) ∷ params_from r 32 (n - 1)) a

  pub two_operands : 2 ≤ n → (lists_of r).operands ≡ ty_of (byte r (31 + n)) ∷ ty_of (byte r (30 + n)) ∷ params_from r 32 (n - 2)
  two_operands l =
      let z : n - 1 ≡ suc (n - 2) = omega arith in
      let a : 32 + (n - 2) ≡ 30 + n = omega arith in
      top_operand (omega arith)
      ∙ ap (λ (k : ℕ). ty_of (byte r (31 + n)) ∷ params_from r 32 k) z
      ∙ ap (λ (i : ℕ). ty_of (byte r (31 + n)) ∷ ty_of (byte r i) ∷ params_from r 32 (n - 2)) a

  pub top_type : Holds r → 1 ≤ n → IsType (byte r (31 + n))
  top_type h l =
      let a : 32 + (n - 1) ≡ 31 + n = omega arith in
      subst (λ (i : ℕ). IsType (byte r i)) a (h.operand_types (n - 1) (omega arith))

  pub second_type : Holds r → 2 ≤ n → IsType (byte r (30 + n))
  second_type h l =
      let a : 32 + (n - 2) ≡ 30 + n = omega arith in
      subst (λ (i : ℕ). IsType (byte r i)) a (h.operand_types (n - 2) (omega arith))

pub holds_small : (r : List ℕ) → Holds r → small (lists_of r) ≡ true
holds_small r h =
    rw (params_length r 16 (byte r 1), params_length r 32 (byte r 2), le-leb (byte r 1) 16 h.few_locals, le-leb (byte r 2) 32 h.few_operands) refl

-- ---- flows that leave them

module _ (q : ℕ) (l : Lists) where
  pub bounded_small : small l ≡ true → bounded (some ((q, l) ∷ [])) ≡ some ((q, l) ∷ [])
  unfolding bounded
  bounded_small e = rw e refl

  pub bounded_large : small l ≡ false → bounded (some ((q, l) ∷ [])) ≡ none
  unfolding bounded
  bounded_large e = rw e refl

pub bounded_none : bounded none ≡ none
unfolding bounded
bounded_none = refl

-- 33 operands are too many
pub full_large : (L O : List Ty) → length O ≡ 33 → small (lists L O) ≡ false
full_large L O e = rw e (go (leb (length L) 16))
  where
    go : (x : Bool) → (x && leb 33 32) ≡ false
    go true = refl
    go false = refl

module _ (m : Module) (b : Body) (q : ℕ) (w : Flow) (r : List ℕ) (h : Holds r) where
  -- an instruction that has no flow
  pub breaks : w ≡ none → Judged m b q w Breaks r
  breaks e = record { flow = ap bounded e ∙ bounded_none; leads = tt; holds = h }

  -- one that would leave 33 operands
  pub overflows : (t : Ty) → w ≡ to q (lists_of r).locals (t ∷ (lists_of r).operands) → byte r 2 ≡ 32 → Judged m b q w Breaks r
  overflows t e full =
      let k : length (t ∷ (lists_of r).operands) ≡ 33 = ap suc (params_length r 32 (byte r 2) ∙ full) in
      record {
        flow = ap bounded e ∙ bounded_large q _ (full_large (lists_of r).locals (t ∷ (lists_of r).operands) k);
        leads = tt;
        holds = h;
      }

  -- one that goes on with the lists of r
  pub falls : w ≡ some ((q, lists_of r) ∷ []) → Judged m b q w (Falls q) r
  falls e = record { flow = ap bounded e ∙ bounded_small q (lists_of r) (holds_small r h); leads = refl; holds = h }

  pub arrives : (l : Lists) → lists_of r ≡ l → w ≡ some ((q, l) ∷ []) → Judged m b q w (Falls q) r
  arrives l e f = falls (f ∙ ap (λ (x : Lists). some ((q, x) ∷ [])) (sym e))
