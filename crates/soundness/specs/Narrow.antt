-- "an int's upper four zero": instructions keep the payload of every int below 2 ^ 32; and the numbers that operations raise.
use Rattle.std.specs.Prelude.{◌≡◌, Bool, true, false, ◌&&◌, ◌||◌, take, get_or, ltb, eqb, ℤ, pos, negsuc, Float}
use Rattle.std.proofs.Common.{sym, ◌∙◌, div-le_self, drop-drop, get_or-drop}
use Rattle.std.proofs.Math.Path.{ap, subst}
use Prim.Native.Nat.{ℕ, ◌+◌, ◌*◌, ◌/◌, ◌%◌, ◌^◌, ◌≤◌, ◌<◌, min}
use native.Mathlib.Omega.{arith}
use Rattle.std.proofs.Math.Nat.{mod-le}
use Rattle.std.proofs.Math.Option.{Option, none, some}
use mathlib.Core.List.{List, [], ◌∷◌}
use Rattle.std.proofs.Math.ListN.{drop}
use Rattle.std.specs.Int.Bits.{and_lt}
use Rattle.std.proofs.lemmas.Nat.{or_lt, xor_lt}
use Rattle.std.specs.Int.Signed.{quot_z, rem_z, shr_z}
use Rattle.soundness.specs.Names.{int, long, double, Slot, Operator, add, sub, mul, imul, div, idiv, rem, irem, and, or, xor, shl, sal, shr, sar, Unary, pop, copy, neg, complement, convert, count, Binary, swap, arith as arithmetic, cmp}
use Rattle.rules.specs.Bytes.{number, word, maybe}
use Rattle.rules.specs.Words.{signed_of, pattern_of, idiv_of, imod_of, shl_of, shr_of, sar_of, not_of, order_of, cmp_of, icmp_of}
use Rattle.rules.specs.Doubles.{decode_of, truncated, cut_fits, cut_of}
use Rattle.rules.specs.Instructions.{is_pointer}
use Rattle.rules.specs.Tables.{constant_count, constant_at, bad_constants, differs, odd_constant, bad_constant, constant_of, module_of}
use Rattle.rules.specs.ModuleFile.{constants, constants_at, constants_in, refusal, read}
use Rattle.rules.specs.Operations.{low, on_words, computed, zero_divide, negated, complemented, converted, compared, unordered, bumped, Class, any, number as numbers, whole, class1, class2, refuse, Result, raises, eval1, eval2, unfit}
use Rattle.rules.specs.Claims.{RunEnd, AreBytes, no_fit}
use Rattle.soundness.specs.Tests.{decide, none_some, some_inj, eqb_is, ltb_is, or_neither, not_false, false_true}
use Rattle.soundness.specs.Readable.{good_constant, constant_word}
use Rattle.soundness.specs.Cutting.{constants_good, bytes_cut}
use Rattle.soundness.specs.Started.{Yielded, Closed, exception}

-- an int is narrow, where B holds
abbrev pub Narrow : Type 0 → Slot → Type 0
Narrow B v = B → v.kind ≡ 3 → v.payload < 2 ^ 32

-- ---- what operations give

pattern_narrow : (z : ℤ) → pattern_of 32 z < 2 ^ 32
unfolding pattern_of
pattern_narrow (pos k) = omega arith
pattern_narrow (negsuc k) = omega arith

order_narrow : (more same : Bool) → order_of more same < 2 ^ 32
unfolding order_of
order_narrow true same = omega arith
order_narrow false true = omega arith
order_narrow false false = omega arith

pub cut_narrow : (x : Float) → cut_of 32 x < 2 ^ 32
unfolding cut_of
cut_narrow x = decide (cut_fits 32 x) (λ y. rw y (pattern_narrow (truncated x))) (λ y. rw y (omega arith))

shr_narrow : (a k : ℕ) → a < 2 ^ 32 → shr_of 32 a k < 2 ^ 32
unfolding shr_of
shr_narrow a k h = let q : a / 2 ^ min k 32 ≤ a = div-le_self a (2 ^ min k 32) in omega arith

words_narrow : (o : Operator) (a b : ℕ) → a < 2 ^ 32 → b < 2 ^ 32 → on_words 32 o a b < 2 ^ 32
unfolding on_words idiv_of imod_of shl_of sar_of
words_narrow add a b h k = omega arith
words_narrow sub a b h k = omega arith
words_narrow mul a b h k = omega arith
words_narrow imul a b h k = omega arith
words_narrow div a b h k = let q : a / b ≤ a = div-le_self a b in omega arith
words_narrow idiv a b h k = pattern_narrow (quot_z (signed_of 32 a) (signed_of 32 b))
words_narrow rem a b h k = let q : a % b ≤ a = mod-le a b in omega arith
words_narrow irem a b h k = pattern_narrow (rem_z (signed_of 32 a) (signed_of 32 b))
words_narrow and a b h k = and_lt 32 a b h k
words_narrow or a b h k = or_lt 32 a b h k
words_narrow xor a b h k = xor_lt 32 a b h k
words_narrow shl a b h k = omega arith
words_narrow sal a b h k = omega arith
words_narrow shr a b h k = shr_narrow a b h
words_narrow sar a b h k = pattern_narrow (shr_z (signed_of 32 a) (2 ^ min b 32))

low_narrow : (x : ℕ) → low x < 2 ^ 32
low_narrow x = omega arith

computed_narrow : (o : Operator) (k x y : ℕ) → k ≡ 3 → computed o k x y < 2 ^ 32
unfolding computed
computed_narrow o k x y e = rw e (words_narrow o (low x) (low y) (low_narrow x) (low_narrow y))

negated_narrow : (k x : ℕ) → k ≡ 3 → negated k x < 2 ^ 32
unfolding negated
negated_narrow k x e = rw e (omega arith)

complemented_narrow : (k x : ℕ) → k ≡ 3 → complemented k x < 2 ^ 32
unfolding complemented not_of
complemented_narrow k x e = rw e (omega arith)

bumped_narrow : (u : Bool) (k x : ℕ) → k ≡ 3 → bumped u k x < 2 ^ 32
unfolding bumped
bumped_narrow true k x e = computed_narrow add k x _ e
bumped_narrow false k x e = computed_narrow sub k x _ e

converted_narrow : (k x : ℕ) → (k ≡ 3 → x < 2 ^ 32) → converted int k x < 2 ^ 32
unfolding converted
converted_narrow k x h =
    decide (eqb k 3) (λ y. rw y (h (eqb_is k 3 y)))
    (λ y. decide (eqb k 4) (λ z. rw (y, z) (low_narrow x)) (λ z. rw (y, z) (cut_narrow (decode_of x))))

compared_narrow : (s : Bool) (k x y : ℕ) → compared s k x y < 2 ^ 32
unfolding compared cmp_of icmp_of
compared_narrow false k x y =
    decide (eqb k 3) (λ a. rw a (order_narrow _ _))
    (λ a. decide (eqb k 4) (λ b. rw (a, b) (order_narrow _ _)) (λ b. decide (is_pointer k) (λ c. rw (a, b, c) (order_narrow _ _)) (λ c. rw (a, b, c) (order_narrow _ _))))
compared_narrow true k x y =
    decide (eqb k 3) (λ a. rw a (order_narrow _ _))
    (λ a. decide (eqb k 4) (λ b. rw (a, b) (order_narrow _ _)) (λ b. decide (is_pointer k) (λ c. rw (a, b, c) (order_narrow _ _)) (λ c. rw (a, b, c) (order_narrow _ _))))

-- ---- what operations raise

abbrev pub Refusal : Option ℕ → Type 0
Refusal none = Unit {0}
Refusal (some e) = RunEnd e

pub refuse_raises : (c : Class) (a b : ℕ) → Refusal (refuse c a b)
refuse_raises any a b = decide (eqb a b) (λ y. rw y tt) (λ y. rw y (exception 22 (omega arith) (omega arith)))
refuse_raises numbers a b =
    decide (is_pointer a || is_pointer b) (λ x. rw x (exception 32 (omega arith) (omega arith)))
    (λ x. rw x (decide (eqb a b) (λ y. rw y tt) (λ y. rw y (exception 22 (omega arith) (omega arith)))))
refuse_raises whole a b =
    decide (is_pointer a || is_pointer b) (λ x. rw x (exception 32 (omega arith) (omega arith)))
    (λ x. rw x (decide (eqb a b)
    (λ y. rw y (decide (eqb a 6) (λ z. rw z (exception 34 (omega arith) (omega arith))) (λ z. rw z tt)))
    (λ y. rw y (exception 22 (omega arith) (omega arith)))))

pointer_wide : {Q : Type 0} (k : ℕ) → is_pointer k ≡ true → k ≡ 3 → Q
pointer_wide k e q = false_true (rw q at e)

pub applied : (P : Slot → Type 0) (o : Option ℕ) → Refusal o → (x : Result) → Yielded P x → Yielded P (maybe o x (λ e. raises e))
applied P none r x h = h
applied P (some e) r x h = r

module _ (B : Type 0) where
  ones : (o : Unary) (v : Slot) → Narrow B v → Yielded (Narrow B) (eval1 o v)
  ones pop v p = tt
  ones copy v p = (p, (p, tt))
  ones neg v p = ((λ b e. negated_narrow v.kind v.payload e), tt)
  ones complement v p = ((λ b e. complemented_narrow v.kind v.payload e), tt)
  ones (convert r int) v p = decide (r && unfit int v.kind v.payload) (λ y. rw y no_fit) (λ y. rw y ((λ b e. converted_narrow v.kind v.payload (p b)), tt))
  ones (convert r long) v p = decide (r && unfit long v.kind v.payload) (λ y. rw y no_fit) (λ y. rw y ((λ b e. absurd (omega arith)), tt))
  ones (convert r double) v p = decide (r && unfit double v.kind v.payload) (λ y. rw y no_fit) (λ y. rw y ((λ b e. absurd (omega arith)), tt))
  ones (count u) v p = ((λ b e. bumped_narrow u v.kind v.payload e), tt)

  twos : (o : Binary) (v w : Slot) → Narrow B v → Narrow B w → Yielded (Narrow B) (eval2 o v w)
  twos swap v w p q = (p, (q, tt))
  twos (arithmetic o) v w p q =
      decide (zero_divide o v.kind w.payload) (λ y. rw y (exception 24 (omega arith) (omega arith)))
      (λ y. rw y ((λ b e. computed_narrow o v.kind v.payload w.payload e), tt))
  twos (cmp s) v w p q =
      decide (unordered v.kind v.payload w.payload) (λ y. rw y (exception 35 (omega arith) (omega arith)))
      (λ y. rw y ((λ b e. compared_narrow s v.kind v.payload w.payload), tt))

-- ---- constants

-- eight bytes of which the upper four are zero
lower_half : (l : List ℕ) → ((i : ℕ) → get_or l i 0 < 256) → number (take 4 (drop 4 l)) ≡ 0 → number (take 8 l) < 2 ^ 32
lower_half [] h e = omega arith
lower_half (a ∷ []) h e = let x : a < 256 = h 0 in omega arith
lower_half (a ∷ b ∷ []) h e = let x : a < 256 = h 0 in let y : b < 256 = h 1 in omega arith
lower_half (a ∷ b ∷ c ∷ []) h e = let x : a < 256 = h 0 in let y : b < 256 = h 1 in let z : c < 256 = h 2 in omega arith
lower_half (a ∷ b ∷ c ∷ d ∷ l) h e =
    let x : a < 256 = h 0 in let y : b < 256 = h 1 in let z : c < 256 = h 2 in let w : d < 256 = h 3 in
    let q : number (take 4 l) ≡ 0 = e in omega arith

upper_zero : (t u : ℕ) → odd_constant t u ≡ false → t ≡ 3 → u ≡ 0
upper_zero t u e q =
    let x : (eqb t 3 && differs u 0) ≡ false = (or_neither (eqb t 3 && differs u 0) (differs t 3 && differs t 4 && differs t 6) e).0 in
    eqb_is u 0 (not_false (eqb u 0) (rw q at x))

module _ (s : List ℕ) (e : bad_constants s ≡ false) where
  not_odd : (i : ℕ) → i < constant_count s → odd_constant (number (take 4 (drop (constant_at i) s))) (number (take 4 (drop (constant_at i + 8) s))) ≡ false
  unfolding bad_constant word
  not_odd i h = good_constant s e i h

  pub constant_narrow : (i : ℕ) → i < constant_count s → AreBytes s → (constant_of s i).kind ≡ 3 → (constant_of s i).payload < 2 ^ 32
  unfolding constant_of word
  constant_narrow i h B k =
      let a : ℕ = constant_at i in
      let t : ℕ = number (take 4 (drop a s)) in
      let u : ℕ = number (take 4 (drop (a + 8) s)) in
      let three : t ≡ 3 = constant_word s e i h ∙ k in
      let w : a + 4 + 4 ≡ a + 8 = omega arith in
      lower_half (drop (a + 4) s) (λ j. subst (λ x. x < 256) (sym (get_or-drop (a + 4) s j 0)) (B (a + 4 + j)))
      (ap (λ l. number (take 4 l)) (drop-drop 4 (a + 4) s ∙ ap (λ j. drop j s) w) ∙ upper_zero t u (not_odd i h) three)

module _ (s : List ℕ) (e : refusal s ≡ 0) where
  constants_narrow : (k : ℕ) (c : Slot) → (read s).constant k ≡ some c → Narrow (AreBytes s) c
  unfolding module_of
  constants_narrow k c q =
      let cs : List ℕ = constants_in s in
      decide (ltb k (constant_count cs))
      (λ y. subst (Narrow (AreBytes s)) (some_inj (constant_of cs k) c (rw y at q))
      (λ B. constant_narrow cs (constants_good s e) k (ltb_is k (constant_count cs) y) (bytes_cut s (constants_at s) (12 * constants s) B)))
      (λ y. none_some (rw y at q))

  pub narrow_closed : Closed (read s) (Narrow (AreBytes s))
  narrow_closed =
      record {
        constants = constants_narrow;
        pointers = λ k x y b q. pointer_wide k y q;
        zeros = λ τ b q. omega arith;
        ones = λ o v p. applied (Narrow (AreBytes s)) (refuse (class1 o) v.kind v.kind) (refuse_raises (class1 o) v.kind v.kind) (eval1 o v) (ones (AreBytes s) o v p);
        twos = λ o v w p q. applied (Narrow (AreBytes s)) (refuse (class2 o) v.kind w.kind) (refuse_raises (class2 o) v.kind w.kind) (eval2 o v w) (twos (AreBytes s) o v w p q);
        bumps = λ u w p b q. bumped_narrow u w.kind w.payload q;
      }
