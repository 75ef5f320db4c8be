-- What instructions on the top one or two operands do, a law for each way out. Assumes nothing.
use Prim.Native.Nat.{ℕ, suc, ◌+◌, ◌-◌, ◌^◌, ◌≤◌, ◌<◌}
use native.Mathlib.Omega.{arith}
use mathlib.Core.Path.{◌≡◌, refl, sym, ap, ◌∙◌, subst}
use mathlib.Core.Bool.{Bool, true, false, cond, ◌||◌}
use mathlib.Core.Option.{Option, none, some}
use Rattle.std.specs.Prelude.{Ok, Err}
use Rattle.std.specs.declared.result.Result as code
use mathlib.Core.List.{List, [], ◌∷◌}
use borrow.Author.Tests.{le-leb, ne_eqb}
use Rattle.rules.specs.Bytes.{maybe}
use Rattle.rules.specs.Instructions.{num_kind, is_pointer}
use Rattle.rules.specs.Tables.{Module}
use Rattle.rules.specs.Machine.{State, Next, goto, resulting, exec_in}
use Rattle.rules.specs.Operations.{Result, yields, raises, refuse, number, whole, whole_only, class1, class2, class_of, zero_divide, converted, unfit, apply1, apply2}
use Rattle.rules.specs.Stack.{slot, slot_at, slots_of, under, put}
use Rattle.rules.specs.declared.Binary.{Binary}
use Rattle.rules.specs.declared.Binary.TheVariants.{Arith}
use Rattle.rules.specs.declared.Instruction.TheVariants.{One, Two}
use Rattle.rules.specs.declared.Num.{Num}
use Rattle.rules.specs.declared.Num.TheVariants.{Int as int, Long as long, Double as double}
use Rattle.rules.specs.declared.Operator.{Operator}
use Rattle.rules.specs.declared.Slot.{Slot}
use Rattle.rules.specs.declared.Unary.{Unary}
use Rattle.rules.specs.declared.Unary.TheVariants.{Neg, Not, Convert, Count}
use Rattle.soundness.specs.Kinds.{Kind, Kinded}
use Rattle.values.specs.Values.{value_of, kind_of_value, slot_of, result_of, Computes, Turns, Converts}
use Rattle.values.specs.Changes.{Keeping, negs, nots, counts}
use Rattle.values.specs.declared.Value.{Value}
use Rattle.rules.specs.declared.Exception.{Exception}
use Rattle.rules.specs.Results.{exception_number}
use Rattle.state.specs.Slots.{payloads_with, types_with}
use Rattle.state.specs.State.{state_of, moved_to, Ready, Does}
use Rattle.state.specs.declared.Registers.{Registers}
use Rattle.state.specs.declared.Progress.{Progress}
use Rattle.state.specs.declared.Progress.TheVariants.{Goes, Stops}
use Rattle.state.proofs.Stack.{length_slots, slots_top, under_slots, take1_has, take2_has}
use Rattle.state.proofs.Outcomes.{stopping, dropping, topping}
use Rattle.state.proofs.Families.{kind_at, types_same}
use Rattle.operands.specs.Operands.{Computable, Executes, Puts, Types, Both, Paired}

-- ---- what is asked

pub computable : {cap : ℕ} {r : Registers} {p t f : List ℕ} → Ready cap r p t f → r.place < r.stop → Kinded (slots_of p t r.height) → Computable r p t
computable k l kinds =
    record {
      small = omega (arith, k.small, k.high);
      payloads = omega (arith, k.payloads, k.high);
      types = omega (arith, k.types, k.high);
      over = k.over;
      inside = l;
      kinds = kinds;
    }

-- ---- two types

pub unlike_is : (o : Operator) (a b n : ℕ) → (a ≡ b → ⊥) → cond (is_pointer a || is_pointer b) (some 32) (some 22) ≡ some n → refuse (class_of o) a b ≡ some n
unlike_is o a b n ne e = go (whole_only o) ∙ e
  where
    go : (w : Bool) → refuse (cond w whole number) a b ≡ cond (is_pointer a || is_pointer b) (some 32) (some 22)
    go true = rw (ne_eqb a b ne) refl
    go false = rw (ne_eqb a b ne) refl

-- ---- a slot that an operation yields has the operand's type

abbrev first_kind : Result → ℕ
first_kind (yields []) = 0
first_kind (yields (v ∷ vs)) = v.kind
first_kind (raises e) = 0

clash {ℓ} : {X : Type ℓ} → ◌≡◌ {A = ℕ} 0 1 → X
clash e = absurd (omega arith)

pub only : (q : Option ℕ) (z : Bool) (e k n : ℕ) (v : Value)
    → yields (slot_of v ∷ []) ≡ maybe q (cond z (raises e) (yields (slot k n ∷ []))) (λ d. raises d) → kind_of_value v ≡ k
only none false e k n v h = ap first_kind h
only none true e k n v h = clash (cc)
only (some d) z e k n v h = clash (cc)

-- x gives nothing or a value of type number k
abbrev pub Typed : ℕ → code.Result Value Exception → Type 0
Typed k x = (v : Value) → x ≡ Ok v → kind_of_value v ≡ k

arith_typed : (o : Operator) (s u : Slot) (x : code.Result Value Exception) → result_of x ≡ apply2 (Arith o) s u → Typed s.kind x
arith_typed o s u x e v y =
    only (refuse (class_of o) s.kind u.kind) (zero_divide o s.kind u.payload) 24 s.kind _ v (sym (ap result_of y) ∙ e)

-- instructions that keep the type

pub one_typed : {o : Unary} → Keeping o → (s : Slot) (x : code.Result Value Exception) → result_of x ≡ apply1 o s → Typed s.kind x
one_typed negs s x e v y = only (refuse (class1 Neg) s.kind s.kind) false 0 s.kind _ v (sym (ap result_of y) ∙ e)
one_typed nots s x e v y = only (refuse (class1 Not) s.kind s.kind) false 0 s.kind _ v (sym (ap result_of y) ∙ e)
one_typed (counts u) s x e v y = only (refuse (class1 (Count u)) s.kind s.kind) false 0 s.kind _ v (sym (ap result_of y) ∙ e)

same_types : (p t : List ℕ) (i : ℕ) (x : code.Result Value Exception) → Typed (slot_at p t i).kind x → Types i x t t
same_types p t i (Ok v) h = types_same p t i (slot_of v) (h v refl)
same_types p t i (Err e) h = refl

-- ---- operands from slot i on replaced by their result

unfoldable replaced_from : ℕ → ℕ → Result → State → Next
replaced_from cap i x s = resulting s.memory cap x (under i s.memory.stack) (goto (s.top.place + 1) s.top) s.callers

module _ (cap : ℕ) (r : Registers) (p t f : List ℕ) (k : Ready cap r p t f) where
  replaced_yields : (i : ℕ) (v : Slot) (p' t' : List ℕ) → r.floor ≤ i → i < r.height → p' ≡ payloads_with p i v → t' ≡ types_with t i v
      → v.payload < 2 ^ 64
      → Does cap r (Goes (moved_to r (r.place + 1) (i + 1))) p t f p' t' f (replaced_from cap i (yields (v ∷ [])) (state_of r p t f))
  unfolding replaced_from
  replaced_yields i v p' t' fl lt ep et fits =
      topping cap r p t f k v i p' t' ep et fits (omega (arith, k.high)) _ _ (omega arith)
      (rw (under_slots p t r.height i (omega arith), length_slots p t i, le-leb (suc i) cap (omega (arith, k.high))) refl)

  replaced_raises : (i : ℕ) (e : Exception) → Does cap r (Stops e) p t f p t f (replaced_from cap i (raises (exception_number e)) (state_of r p t f))
  unfolding replaced_from
  replaced_raises i e = stopping cap r p t f k e _ refl

  replaced_is : (i : ℕ) (x : code.Result Value Exception) (q : Progress) (p' t' : List ℕ) → r.floor ≤ i → i < r.height → Puts r i (i + 1) x q p p' → Types i x t t'
      → Does cap r q p t f p' t' f (replaced_from cap i (result_of x) (state_of r p t f))
  replaced_is i (Ok v) q p' t' fl lt e d = rw e.0 (replaced_yields i (slot_of v) p' t' fl lt e.1.0 d e.1.1)
  replaced_is i (Err n) q p' t' fl lt e d = rw (e.0, e.1, d) (replaced_raises i n)

  one_is : (m : Module) (o : Unary) (q : Progress) (p' t' : List ℕ) (x : Result) → r.floor + 1 ≤ r.height
      → x ≡ apply1 o (slot_at p t (r.height - 1)) → Does cap r q p t f p' t' f (replaced_from cap (r.height - 1) x (state_of r p t f))
      → Does cap r q p t f p' t' f (exec_in m cap (One o) (state_of r p t f))
  unfolding exec_in replaced_from
  one_is m o q p' t' x has e d =
      rw (take1_has p t r.floor r.height _ has) (rw (← e) (rw (under_slots p t r.height (r.height - 1) (omega arith)) at d))

  two_is : (m : Module) (o : Binary) (q : Progress) (p' t' : List ℕ) (x : Result) → r.floor + 2 ≤ r.height
      → x ≡ apply2 o (slot_at p t (r.height - 2)) (slot_at p t (r.height - 1))
      → Does cap r q p t f p' t' f (replaced_from cap (r.height - 2) x (state_of r p t f)) → Does cap r q p t f p' t' f (exec_in m cap (Two o) (state_of r p t f))
  unfolding exec_in replaced_from
  two_is m o q p' t' x has e d =
      rw (take2_has p t r.floor r.height _ has) (rw (← e) (rw (under_slots p t r.height (r.height - 2) (omega arith)) at d))

-- ---- one and two operands

own_is : (b : Bool) (n : Num) (s : Slot) → s.kind ≡ num_kind n → apply1 (Convert b n) s ≡ yields (s ∷ [])
unfolding converted unfit
own_is false int s e = rw e
own_is false long s e = rw e
own_is false double s e = rw e
own_is true int s e = rw e
own_is true long s e = rw e
own_is true double s e = rw e

module _ {r : Registers} {p t : List ℕ} (c : Computable r p t) where
  -- ---- one

  module _ (has : r.floor + 1 ≤ r.height) where
    pub top_kind : Kind (slot_at p t (r.height - 1)).kind
    top_kind = kind_at p t r.height (r.height - 1) c.kinds (omega arith) refl

    pub one_put : (o : Unary) (x : code.Result Value Exception) {q : Progress} {p' t' : List ℕ} → result_of x ≡ apply1 o (slot_at p t (r.height - 1))
        → Puts r (r.height - 1) (r.height - 1 + 1) x q p p' → Types (r.height - 1) x t t' → Executes (One o) r q p t p' t'
    one_put o x {q} {p'} {t'} e put ty m cap f k =
        one_is cap r p t f k m o q p' t' (result_of x) has e (replaced_is cap r p t f k (r.height - 1) x q p' t' (omega arith) (omega arith) put ty)

    pub one_turns : (o : Unary) {a : Value} (x : code.Result Value Exception) {q : Progress} {p' t' : List ℕ} → a ≡ value_of (slot_at p t (r.height - 1)) → Turns o a x
        → Puts r (r.height - 1) (r.height - 1 + 1) x q p p' → Types (r.height - 1) x t t' → Executes (One o) r q p t p' t'
    one_turns o x v e put ty = one_put o x (e (slot_at p t (r.height - 1)) top_kind v) put ty

    pub one_converts : (b : Bool) (n : Num) {a : Value} (x : code.Result Value Exception) {q : Progress} {p' t' : List ℕ} → ((slot_at p t (r.height - 1)).kind ≡ num_kind n → ⊥)
        → a ≡ value_of (slot_at p t (r.height - 1)) → Converts b n a x
        → Puts r (r.height - 1) (r.height - 1 + 1) x q p p' → Types (r.height - 1) x t t' → Executes (One (Convert b n)) r q p t p' t'
    one_converts b n x ne v e put ty = one_put (Convert b n) x (e (slot_at p t (r.height - 1)) top_kind ne v) put ty

    pub one_like : {o : Unary} → Keeping o → {a : Value} (x : code.Result Value Exception) {q : Progress} {p' : List ℕ} → a ≡ value_of (slot_at p t (r.height - 1)) → Turns o a x
        → Puts r (r.height - 1) (r.height - 1 + 1) x q p p' → Executes (One o) r q p t p' t
    one_like {o} d x v e put =
        let i = e (slot_at p t (r.height - 1)) top_kind v in
        one_put o x i put (same_types p t (r.height - 1) x (one_typed d (slot_at p t (r.height - 1)) x i))

    -- a conversion to the own type
    pub own_type : (b : Bool) (n : Num) → (slot_at p t (r.height - 1)).kind ≡ num_kind n → Executes (One (Convert b n)) r (Goes (moved_to r (r.place + 1) r.height)) p t p t
    unfolding exec_in
    own_type b n e m cap f k =
        dropping cap r p t f k (r.place + 1) r.height _ (omega arith) c.over
        (take1_has p t r.floor r.height _ has
        ∙ rw (own_is b n (slot_at p t (r.height - 1)) e, length_slots p t (r.height - 1), le-leb (suc (r.height - 1)) cap (omega (arith, k.high)), slots_top p t r.height (omega arith)) refl)

  -- ---- two

  module _ (has : r.floor + 2 ≤ r.height) where
    pub deep_kind : Kind (slot_at p t (r.height - 2)).kind
    deep_kind = kind_at p t r.height (r.height - 2) c.kinds (omega arith) refl

    pub two_put : (o : Binary) (x : code.Result Value Exception) {q : Progress} {p' t' : List ℕ}
        → result_of x ≡ apply2 o (slot_at p t (r.height - 2)) (slot_at p t (r.height - 1))
        → Puts r (r.height - 2) (r.height - 2 + 1) x q p p' → Types (r.height - 2) x t t' → Executes (Two o) r q p t p' t'
    two_put o x {q} {p'} {t'} e put ty m cap f k =
        two_is cap r p t f k m o q p' t' (result_of x) has e (replaced_is cap r p t f k (r.height - 2) x q p' t' (omega arith) (omega arith) put ty)

    pub two_raises : (o : Binary) (n : Exception)
        → refuse (class2 o) (slot_at p t (r.height - 2)).kind (slot_at p t (r.height - 1)).kind ≡ some (exception_number n)
        → Executes (Two o) r (Stops n) p t p t
    two_raises o n e = two_put o (Err n) (rw e refl) (refl, refl) refl

  pub two_gives : (o : Binary) {a b : Value} (x : code.Result Value Exception) → Both r p t a b → Computes o a b x
      → result_of x ≡ apply2 o (slot_at p t (r.height - 2)) (slot_at p t (r.height - 1))
  two_gives o x b e =
      e (slot_at p t (r.height - 2)) (slot_at p t (r.height - 1)) (deep_kind b.has) (top_kind (let h = b.has in omega arith)) b.deep b.top

  pub two_like : (o : Operator) {a b : Value} (x : code.Result Value Exception) {q : Progress} {p' : List ℕ} → Both r p t a b → Computes (Arith o) a b x
      → Puts r (r.height - 2) (r.height - 2 + 1) x q p p' → Executes (Two (Arith o)) r q p t p' t
  two_like o x b e put =
      let i = two_gives (Arith o) x b e in
      two_put b.has (Arith o) x i put (same_types p t (r.height - 2) x (arith_typed o (slot_at p t (r.height - 2)) (slot_at p t (r.height - 1)) x i))

-- what `pair` found
pub alike : {r : Registers} {p t : List ℕ} {x : code.Result (Value × Value) Exception} {y : Value × Value} → x ≡ Ok y → Paired r p t x → Both r p t y.0 y.1
alike {r} {p} {t} e h = subst (Paired r p t) e h

pub refused : {r : Registers} {p t : List ℕ} {x : code.Result (Value × Value) Exception} {n : Exception} → x ≡ Err n → Paired r p t x
    → (o : Operator) → Executes (Two (Arith o)) r (Stops n) p t p t
refused {r} {p} {t} e h = subst (Paired r p t) e h
