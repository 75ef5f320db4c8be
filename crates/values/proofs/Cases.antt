-- The value of a slot and its type number: each says the other. Assumes nothing.
use mathlib.Core.Path.{◌≡◌, refl, sym, ap, ◌∙◌, subst}
use mathlib.Core.Bool.{Bool, true, false, not, cond}
use mathlib.Core.Logic.{⊎_elim}
use mathlib.Core.List.{List, [], ◌∷◌}
use Prim.Native.Nat.{ℕ, ◌≤◌, ◌<◌}
use lib.Dec.{T, eqb}
use lib.Ieee.{Float}
use denote.Enum.Declared.{tag_of}
use mir.Val.{has_key}
use types.Run.{OneOf, miss}
use borrow.Author.Tests.{le-leb, lt-leb, ne_eqb}
use Rattle.rules.specs.Doubles.{decode_of}
use Rattle.rules.specs.Instructions.{ptr_kind, is_pointer}
use Rattle.rules.specs.Operations.{low, apply2, Result}
use Rattle.rules.specs.declared.Binary.{Binary}
use Rattle.rules.specs.declared.Slot.{Slot}
use Rattle.soundness.specs.Kinds.{Kind}
use Rattle.values.specs.Values.{value_of, kind_of_value}
use Rattle.values.specs.declared.Value.{Value}
use Rattle.values.specs.declared.Value.TheVariants.{Int, Long, Double, Pointer}
use Rattle.values.specs.contracts.Value.{the_type}

-- ---- the value, by the type number

module _ (v : Slot) where
  pub int_value : v.kind ≡ 3 → value_of v ≡ Int (low v.payload)
  unfolding value_of
  int_value e = rw e

  pub long_value : v.kind ≡ 4 → value_of v ≡ Long v.payload
  unfolding value_of
  long_value e = rw e

  pub double_value : v.kind ≡ 6 → value_of v ≡ Double (decode_of v.payload)
  unfolding value_of
  double_value e = rw e

  pub pointer_value : (g : Bool) → v.kind ≡ ptr_kind g → value_of v ≡ Pointer g v.payload
  unfolding value_of
  pointer_value false e = rw e
  pointer_value true e = rw e

  -- by the code's tests
  pub high_value : (v.kind ≡ 3 → ⊥) → (v.kind ≡ 6 → ⊥) → 7 ≤ v.kind → value_of v ≡ Pointer (eqb v.kind 8) v.payload
  unfolding value_of
  high_value i d h = rw (ne_eqb v.kind 3 i, ne_eqb v.kind 6 d, le-leb 7 v.kind h)

  pub low_value : (v.kind ≡ 3 → ⊥) → (v.kind ≡ 6 → ⊥) → v.kind < 7 → value_of v ≡ Long v.payload
  unfolding value_of
  low_value i d h = rw (ne_eqb v.kind 3 i, ne_eqb v.kind 6 d, lt-leb 7 v.kind h)

  -- the type number by the value
  pub value_kind : Kind v.kind → kind_of_value (value_of v) ≡ v.kind
  value_kind =
      ⊎_elim (λ e. rw (int_value e, e)) (⊎_elim (λ e. rw (long_value e, e)) (⊎_elim (λ e. rw (double_value e, e)) (⊎_elim (λ e. rw (pointer_value false e, e)) (λ e. rw (pointer_value true e, e)))))

-- ---- the type number and the payload, by the value

module _ (v : Slot) (k : Kind v.kind) {x : Value} (e : x ≡ value_of v) where
  kind_is : {y : Value} → x ≡ y → v.kind ≡ kind_of_value y
  kind_is f = rw (← f, e) (sym (value_kind v k))

  pub int_kind : {n : ℕ} → x ≡ Int n → (v.kind ≡ 3) × (n ≡ low v.payload)
  int_kind f = (kind_is f, cc (int_value v (kind_is f)))

  pub long_kind : {n : ℕ} → x ≡ Long n → (v.kind ≡ 4) × (n ≡ v.payload)
  long_kind f = (kind_is f, cc (long_value v (kind_is f)))

  pub double_kind : {y : Float} → x ≡ Double y → (v.kind ≡ 6) × (y ≡ decode_of v.payload)
  double_kind f = (kind_is f, cc (double_value v (kind_is f)))

  pub pointer_kind : {g : Bool} {n : ℕ} → x ≡ Pointer g n → (v.kind ≡ ptr_kind g) × (n ≡ v.payload)
  pointer_kind {g} f = (kind_is f, cc (pointer_value v g (kind_is f)))

  -- it is a pointer's
  pub pointer_told : {g : Bool} {n : ℕ} → x ≡ Pointer g n → is_pointer v.kind ≡ true
  pointer_told {g} f = ap is_pointer (kind_is f) ∙ told g
    where
      told : (g : Bool) → is_pointer (ptr_kind g) ≡ true
      told false = refl
      told true = refl

-- ---- two operands by their values

-- x is what o gives for two slots of these values
abbrev pub ComputesTo : Binary → Value → Value → Result → Type 0
ComputesTo o a b x = (s u : Slot) → Kind s.kind → Kind u.kind → a ≡ value_of s → b ≡ value_of u → x ≡ apply2 o s u

pub kind_by : (s : Slot) (a : Value) → Kind s.kind → a ≡ value_of s → s.kind ≡ kind_of_value a
kind_by s a k e = rw e (sym (value_kind s k))

-- ---- where a `let` did not find a's variant in b, the types differ. Tags count Int, Long, Double, Pointer.

abbrev pub but_int : List ℕ
but_int = 1 ∷ 2 ∷ 3 ∷ []

abbrev pub but_long : List ℕ
but_long = 0 ∷ 2 ∷ 3 ∷ []

abbrev pub but_double : List ℕ
but_double = 0 ∷ 1 ∷ 3 ∷ []

abbrev pub but_pointer : List ℕ
but_pointer = 0 ∷ 1 ∷ 2 ∷ []

-- the tag of a value of type number k
abbrev pub tag_for : ℕ → ℕ
tag_for k = cond (eqb k 3) 0 (cond (eqb k 4) 1 (cond (eqb k 6) 2 3))

tag_is : (b : Value) → tag_of the_type b ≡ tag_for (kind_of_value b)
tag_is (Int n) = refl
tag_is (Long n) = refl
tag_is (Double x) = refl
tag_is (Pointer false n) = refl
tag_is (Pointer true n) = refl

pub apart : (k : ℕ) (ks : List ℕ) (b : Value) → T (not (has_key ks (tag_for k))) → OneOf ks (tag_of the_type b) → k ≡ kind_of_value b → ⊥
apart k ks b n t e = miss ks (tag_for k) n (subst (OneOf ks) (tag_is b ∙ ap tag_for (sym e)) t)

-- of a slot: its value has none of the tags that a type number k would give
pub other_kind : (k : ℕ) (ks : List ℕ) → T (not (has_key ks (tag_for k))) → (s : Slot) (a : Value) → Kind s.kind → a ≡ value_of s
    → OneOf ks (tag_of the_type a) → s.kind ≡ k → ⊥
other_kind k ks n s a d e t h = apart k ks a n t (sym h ∙ kind_by s a d e)

module _ {a : Value} (b : Value) where
  pub int_apart : {x : ℕ} → a ≡ Int x → OneOf but_int (tag_of the_type b) → kind_of_value a ≡ kind_of_value b → ⊥
  int_apart f t e = apart 3 but_int b tt t (sym (ap kind_of_value f) ∙ e)

  pub long_apart : {x : ℕ} → a ≡ Long x → OneOf but_long (tag_of the_type b) → kind_of_value a ≡ kind_of_value b → ⊥
  long_apart f t e = apart 4 but_long b tt t (sym (ap kind_of_value f) ∙ e)

  pub double_apart : {x : Float} → a ≡ Double x → OneOf but_double (tag_of the_type b) → kind_of_value a ≡ kind_of_value b → ⊥
  double_apart f t e = apart 6 but_double b tt t (sym (ap kind_of_value f) ∙ e)

  pub pointer_apart : {g : Bool} {x : ℕ} → a ≡ Pointer g x → OneOf but_pointer (tag_of the_type b) → kind_of_value a ≡ kind_of_value b → ⊥
  pointer_apart {g} f t e = go g (sym (ap kind_of_value f) ∙ e)
    where
      go : (g : Bool) → ptr_kind g ≡ kind_of_value b → ⊥
      go false q = apart 7 but_pointer b tt t q
      go true q = apart 8 but_pointer b tt t q
