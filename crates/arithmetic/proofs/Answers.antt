-- What the rules give for two operands, by their values: each law once over the operator. Assumes nothing.
use mathlib.Core.Path.{◌≡◌, refl, sym, ap, ap₂, ◌∙◌}
use mathlib.Core.Bool.{Bool, true, false, cond, ◌&&◌, and-false}
use mathlib.Core.Option.{none, some}
use Prim.Native.Nat.{ℕ}
use lib.Dec.{eqb}
use lib.Ieee.{Float}
use borrow.Author.Tests.{eq-eqb, ne_eqb}
use denote.Enum.Declared.{tag_of}
use types.Run.{OneOf}
use Rattle.rules.specs.Bytes.{maybe}
use Rattle.rules.specs.Doubles.{decode_of}
use Rattle.rules.specs.Instructions.{is_pointer}
use Rattle.rules.specs.Operations.{apply2, refuse, number, whole, whole_only, zero_divide, computed, low, Result, raises}
use Rattle.rules.specs.declared.Binary.TheVariants.{Arith}
use Rattle.rules.specs.declared.Operator.{Operator}
use Rattle.rules.specs.declared.Slot.{Slot}
use Rattle.values.specs.Values.{kind_of_value}
use Rattle.values.specs.declared.Value.{Value}
use Rattle.values.specs.declared.Value.TheVariants.{Int, Long, Double, Pointer}
use Rattle.values.specs.contracts.Value.{the_type}
use Rattle.values.proofs.Cases.{ComputesTo, kind_by, int_kind, long_kind, double_kind, pointer_told, but_int, but_long, but_double, int_apart, long_apart, double_apart}
use Rattle.arithmetic.specs.Arithmetic.{words_of, doubles_of, unlike_of}

-- ---- the exceptions before an operation: of two types, and of one

picked : (t : Bool) (x y : ℕ) → cond t (some x) (some y) ≡ some (cond t x y)
picked true x y = refl
picked false x y = refl

refused : (w : Bool) (i j : ℕ) → is_pointer i ≡ false → eqb i j ≡ false
    → refuse (cond w whole number) i j ≡ some (cond (is_pointer j) 32 22)
refused true i j e f = rw (e, f) (picked (is_pointer j) 32 22)
refused false i j e f = rw (e, f) (picked (is_pointer j) 32 22)

admitted : (w : Bool) (k : ℕ) → is_pointer k ≡ false → refuse (cond w whole number) k k ≡ cond (w && eqb k 6) (some 34) none
admitted true k e = rw (e, eq-eqb k k refl)
admitted false k e = rw (e, eq-eqb k k refl)

pointer_refused : (w : Bool) (i j : ℕ) → is_pointer i ≡ true → refuse (cond w whole number) i j ≡ some 32
pointer_refused true i j e = rw e
pointer_refused false i j e = rw e

settled : (t : Bool) (e : ℕ) (r : Result) → maybe (cond (t && true) (some e) none) r (λ n. raises n) ≡ cond t (raises e) r
settled true e r = refl
settled false e r = refl

-- ---- an operator on two slots, by their type numbers

module _ (o : Operator) (a b : Slot) where
  arith_unlike : is_pointer a.kind ≡ false → (a.kind ≡ b.kind → ⊥) → apply2 (Arith o) a b ≡ unlike_of b.kind
  unfolding unlike_of
  arith_unlike e f = rw (refused (whole_only o) a.kind b.kind e (ne_eqb _ _ f))

  arith_ints : a.kind ≡ 3 → b.kind ≡ 3 → apply2 (Arith o) a b ≡ words_of 32 3 o (low a.payload) (low b.payload)
  unfolding words_of zero_divide computed
  arith_ints e f = rw (e, f, admitted (whole_only o) 3 refl, and-false)

  arith_longs : a.kind ≡ 4 → b.kind ≡ 4 → apply2 (Arith o) a b ≡ words_of 64 4 o a.payload b.payload
  unfolding words_of zero_divide computed
  arith_longs e f = rw (e, f, admitted (whole_only o) 4 refl, and-false)

  arith_doubles : a.kind ≡ 6 → b.kind ≡ 6 → apply2 (Arith o) a b ≡ doubles_of o a.payload b.payload
  unfolding doubles_of zero_divide computed
  arith_doubles e f = rw (e, f, admitted (whole_only o) 6 refl, and-false) (settled (whole_only o) 34 _)

  arith_pointer : is_pointer a.kind ≡ true → apply2 (Arith o) a b ≡ raises 32
  arith_pointer e = rw (pointer_refused (whole_only o) a.kind b.kind e)

-- ---- an operator on two values

module _ (o : Operator) {a b : Value} {w : Result} where
  pub ints : {x y : ℕ} → a ≡ Int x → b ≡ Int y → w ≡ words_of 32 3 o x y → ComputesTo (Arith o) a b w
  ints f g e s u k l ea eb =
      let i = int_kind s k ea f in
      let j = int_kind u l eb g in
      e ∙ ap₂ (words_of 32 3 o) i.1 j.1 ∙ sym (arith_ints o s u i.0 j.0)

  pub longs : {x y : ℕ} → a ≡ Long x → b ≡ Long y → w ≡ words_of 64 4 o x y → ComputesTo (Arith o) a b w
  longs f g e s u k l ea eb =
      let i = long_kind s k ea f in
      let j = long_kind u l eb g in
      e ∙ ap₂ (words_of 64 4 o) i.1 j.1 ∙ sym (arith_longs o s u i.0 j.0)

  -- p and q are any patterns of x and y
  pub doubles : {x y : Float} → a ≡ Double x → b ≡ Double y → ((p q : ℕ) → x ≡ decode_of p → y ≡ decode_of q → w ≡ doubles_of o p q)
      → ComputesTo (Arith o) a b w
  doubles f g e s u k l ea eb =
      let i = double_kind s k ea f in
      let j = double_kind u l eb g in
      e s.payload u.payload i.1 j.1 ∙ sym (arith_doubles o s u i.0 j.0)

  pub pointer : {g : Bool} {n : ℕ} → a ≡ Pointer g n → w ≡ raises 32 → ComputesTo (Arith o) a b w
  pointer f e s u k l ea eb = e ∙ sym (arith_pointer o s u (pointer_told s k ea f))

  unlikes : is_pointer (kind_of_value a) ≡ false → (kind_of_value a ≡ kind_of_value b → ⊥) → w ≡ unlike_of (kind_of_value b) → ComputesTo (Arith o) a b w
  unlikes n d e s u k l ea eb =
      let i = kind_by s a k ea in
      let j = kind_by u b l eb in
      e ∙ ap unlike_of (sym j) ∙ sym (arith_unlike o s u (ap is_pointer i ∙ n) (λ h. d (sym i ∙ h ∙ j)))

  pub unlike_int : {x : ℕ} → a ≡ Int x → OneOf but_int (tag_of the_type b) → w ≡ unlike_of (kind_of_value b) → ComputesTo (Arith o) a b w
  unlike_int f t = unlikes (ap (λ (v : Value). is_pointer (kind_of_value v)) f) (int_apart b f t)

  pub unlike_long : {x : ℕ} → a ≡ Long x → OneOf but_long (tag_of the_type b) → w ≡ unlike_of (kind_of_value b) → ComputesTo (Arith o) a b w
  unlike_long f t = unlikes (ap (λ (v : Value). is_pointer (kind_of_value v)) f) (long_apart b f t)

  pub unlike_double : {x : Float} → a ≡ Double x → OneOf but_double (tag_of the_type b) → w ≡ unlike_of (kind_of_value b) → ComputesTo (Arith o) a b w
  unlike_double f t = unlikes (ap (λ (v : Value). is_pointer (kind_of_value v)) f) (double_apart b f t)
