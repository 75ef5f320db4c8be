-- What `cmp` and `icmp` give for two operands, by their values. Assumes nothing.
use mathlib.Core.Path.{◌≡◌, refl, sym, ap, ◌∙◌}
use native.Mathlib.Omega.{arith}
use mathlib.Core.Bool.{Bool, true, false, beq, not, cond, ◌||◌}
use Prim.Native.Nat.{ℕ}
use lib.Ieee as Ieee
use lib.Ieee.{Float}
use borrow.Author.Tests.{eq-eqb, ne_eqb}
use Rattle.rules.specs.Doubles.{decode_of, dcmp_of}
use Rattle.rules.specs.Instructions.{ptr_kind}
use Rattle.rules.specs.Operations.{apply2, compared, unordered, low, Result, raises}
use Rattle.rules.specs.Words.{cmp_of, icmp_of, order_of}
use Rattle.rules.specs.declared.Binary.TheVariants.{Cmp}
use Rattle.rules.specs.declared.Slot.{Slot}
use Rattle.soundness.specs.Tests.{false_true}
use Rattle.values.specs.Values.{kind_of_value, gives}
use Rattle.values.specs.declared.Value.{Value}
use Rattle.values.specs.declared.Value.TheVariants.{Int, Long, Double, Pointer}
use Rattle.values.proofs.Cases.{ComputesTo, kind_by, int_kind, long_kind, double_kind, pointer_kind}

-- ---- the order of two payloads, signed where g holds

compared_ints : (g : Bool) (x y : ℕ) → compared g 3 x y ≡ cond g (icmp_of 32 (low x) (low y)) (cmp_of (low x) (low y))
unfolding compared
compared_ints true x y = refl
compared_ints false x y = refl

compared_longs : (g : Bool) (x y : ℕ) → compared g 4 x y ≡ cond g (icmp_of 64 x y) (cmp_of x y)
unfolding compared
compared_longs true x y = refl
compared_longs false x y = refl

compared_doubles : (g : Bool) (x y : ℕ) → compared g 6 x y ≡ dcmp_of x y
unfolding compared
compared_doubles true x y = refl
compared_doubles false x y = refl

compared_pointers : (g m : Bool) (x y : ℕ) → compared g (ptr_kind m) x y ≡ cmp_of x y
unfolding compared
compared_pointers true true x y = refl
compared_pointers true false x y = refl
compared_pointers false true x y = refl
compared_pointers false false x y = refl

-- ---- order, signed where g holds

cmp_like : (g : Bool) (w : Result) (s u : Slot) (k n : ℕ) → s.kind ≡ k → u.kind ≡ k → unordered k s.payload u.payload ≡ false → w ≡ gives 3 n
    → compared g k s.payload u.payload ≡ n → w ≡ apply2 (Cmp g) s u
cmp_like g w s u k n e f o h i = h ∙ sym (rw (e, f, eq-eqb k k refl, o, i) refl)

cmp_stray : (g : Bool) (w : Result) (s u : Slot) (k : ℕ) → s.kind ≡ k → u.kind ≡ k → unordered k s.payload u.payload ≡ true → w ≡ raises 35
    → w ≡ apply2 (Cmp g) s u
cmp_stray g w s u k e f o h = h ∙ sym (rw (e, f, eq-eqb k k refl, o) refl)

-- what is no double has an order
ints_ordered : (x y : ℕ) → unordered 3 x y ≡ false
unfolding unordered
ints_ordered x y = refl

longs_ordered : (x y : ℕ) → unordered 4 x y ≡ false
unfolding unordered
longs_ordered x y = refl

pointers_ordered : (m : Bool) (x y : ℕ) → unordered (ptr_kind m) x y ≡ false
unfolding unordered
pointers_ordered true x y = refl
pointers_ordered false x y = refl

doubles_unordered : (x y : ℕ) → unordered 6 x y ≡ (Ieee.is_nan (decode_of x) || Ieee.is_nan (decode_of y))
unfolding unordered
doubles_unordered x y = refl

module _ (g : Bool) {a b : Value} {w : Result} where
  pub cmp_unlike : (kind_of_value a ≡ kind_of_value b → ⊥) → w ≡ raises 22 → ComputesTo (Cmp g) a b w
  cmp_unlike d e s u k l ea eb =
      let i = kind_by s a k ea in
      let j = kind_by u b l eb in
      e ∙ sym (rw (ne_eqb s.kind u.kind (λ h. d (sym i ∙ h ∙ j))) refl)

  pub cmp_ints : {x y : ℕ} → a ≡ Int x → b ≡ Int y → w ≡ gives 3 (cond g (icmp_of 32 x y) (cmp_of x y)) → ComputesTo (Cmp g) a b w
  cmp_ints f h e s u k l ea eb =
      let i = int_kind s k ea f in
      let j = int_kind u l eb h in
      cmp_like g w s u 3 _ i.0 j.0 (ints_ordered s.payload u.payload) e (rw (i.1, j.1) (compared_ints g s.payload u.payload))

  pub cmp_longs : {x y : ℕ} → a ≡ Long x → b ≡ Long y → w ≡ gives 3 (cond g (icmp_of 64 x y) (cmp_of x y)) → ComputesTo (Cmp g) a b w
  cmp_longs f h e s u k l ea eb =
      let i = long_kind s k ea f in
      let j = long_kind u l eb h in
      cmp_like g w s u 4 _ i.0 j.0 (longs_ordered s.payload u.payload) e (rw (i.1, j.1) (compared_longs g s.payload u.payload))

  pub cmp_doubles : {x y : Float} → a ≡ Double x → b ≡ Double y → (Ieee.is_nan x || Ieee.is_nan y) ≡ false
      → w ≡ gives 3 (order_of (Ieee.lt y x) (Ieee.eq x y)) → ComputesTo (Cmp g) a b w
  cmp_doubles f h o e s u k l ea eb =
      let i = double_kind s k ea f in
      let j = double_kind u l eb h in
      cmp_like g w s u 6 _ i.0 j.0 (doubles_unordered s.payload u.payload ∙ rw (i.1, j.1) at o) e
      (rw (i.1, j.1) (compared_doubles g s.payload u.payload))

  -- one of them is a NaN
  pub cmp_nan : {x y : Float} → a ≡ Double x → b ≡ Double y → (Ieee.is_nan x || Ieee.is_nan y) ≡ true → w ≡ raises 35 → ComputesTo (Cmp g) a b w
  cmp_nan f h o e s u k l ea eb =
      let i = double_kind s k ea f in
      let j = double_kind u l eb h in
      let q : unordered 6 s.payload u.payload ≡ true = doubles_unordered s.payload u.payload ∙ rw (i.1, j.1) at o in
      cmp_stray g w s u 6 i.0 j.0 q e

  -- one of them is managed
  pub cmp_across : {m n : Bool} {x y : ℕ} → a ≡ Pointer m x → b ≡ Pointer n y → not (beq m n) ≡ true → w ≡ raises 22 → ComputesTo (Cmp g) a b w
  cmp_across {m} {n} f h d e = cmp_unlike (λ q. differ m n d (sym (ap kind_of_value f) ∙ q ∙ ap kind_of_value h)) e
    where
      differ : (m n : Bool) → not (beq m n) ≡ true → ptr_kind m ≡ ptr_kind n → ⊥
      differ false false d q = false_true d
      differ false true d q = omega arith
      differ true false d q = omega arith
      differ true true d q = false_true d

  pub cmp_pointers : {m n : Bool} {x y : ℕ} → a ≡ Pointer m x → b ≡ Pointer n y → not (beq m n) ≡ false → w ≡ gives 3 (cmp_of x y) → ComputesTo (Cmp g) a b w
  cmp_pointers {m} {n} f h q e s u k l ea eb =
      let i = pointer_kind s k ea f in
      let j = pointer_kind u l eb h in
      cmp_like g w s u (ptr_kind m) _ i.0 (j.0 ∙ same m n q) (pointers_ordered m s.payload u.payload) e (rw (i.1, j.1) (compared_pointers g m s.payload u.payload))
    where
      same : (m n : Bool) → not (beq m n) ≡ false → ptr_kind n ≡ ptr_kind m
      same false false q = refl
      same false true q = false_true (sym q)
      same true false q = false_true (sym q)
      same true true q = refl
