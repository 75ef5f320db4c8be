-- Every type number in a run is 3, 4, 6, 7 or 8.
use Rattle.std.specs.Prelude.{◌≡◌, refl, ◌⊎◌, ℕ, ◌≤◌, true, false, ◌&&◌, List, [], ◌∷◌, length, eqb, ltb}
use Rattle.std.proofs.Common.{sym, subst, inl, inr, arith}
use Rattle.std.proofs.Math.Option.{some}
use Rattle.soundness.specs.Names.{Num, int, long, double, Slot, Unary, pop, copy, neg, complement, convert, count, Binary, swap, arith as arithmetic, cmp}
use Rattle.rules.specs.Bytes.{byte}
use Rattle.rules.specs.Instructions.{Ty, num, ptr, num_kind, is_pointer}
use Rattle.rules.specs.Tables.{constant_count, constant_at, constant_of, body_of, Module, module_of}
use Rattle.rules.specs.ModuleFile.{constants_in, refusal, read}
use Rattle.rules.specs.Stack.{Lent}
use Rattle.rules.specs.Heap.{Block, Heap}
use Rattle.rules.specs.Operations.{zero_divide, unordered, class1, class2, refuse, eval1, eval2, unfit}
use Rattle.rules.specs.Answers.{fits, declared, arguments, run_refusal, start_state}
use Rattle.rules.specs.Claims.{Each, HeapLaid, no_fit}
use Rattle.soundness.specs.Tests.{decide, none_some, some_inj, eqb_is, ltb_is, false_true, and_both}
use Rattle.soundness.specs.Readable.{NumberByte, constant_type}
use Rattle.soundness.specs.Cutting.{constants_good}
use Rattle.soundness.specs.Started.{All, Yielded, Closed, Fit, exception}
use Rattle.soundness.specs.Narrow.{refuse_raises, applied}
use Rattle.soundness.specs.Heaps.{CellsOk, HeapOk}
use Rattle.soundness.specs.Begun.{start_fits}
use Rattle.soundness.specs.Whole.{run_readable, started}

-- int, long, double, pointer, managed pointer
abbrev pub Kind : ℕ → Type 0
Kind k = (k ≡ 3) ⊎ ((k ≡ 4) ⊎ ((k ≡ 6) ⊎ ((k ≡ 7) ⊎ (k ≡ 8))))

abbrev pub OfKind : Slot → Type 0
OfKind v = Kind v.kind

abbrev pub Kinded : List Slot → Type 0
Kinded st = All OfKind st

-- what is none of the others is a long
pub long_kind : (k : ℕ) → Kind k → (k ≡ 3 → ⊥) → (k ≡ 6 → ⊥) → (is_pointer k ≡ false) → k ≡ 4
long_kind k (inl q) a b c = absurd (a q)
long_kind k (inr (inl q)) a b c = q
long_kind k (inr (inr (inl q))) a b c = absurd (b q)
long_kind k (inr (inr (inr (inl q)))) a b c = false_true (sym (rw q at c))
long_kind k (inr (inr (inr (inr q)))) a b c = false_true (sym (rw q at c))

pub pointer_kind : (k : ℕ) → is_pointer k ≡ true → Kind k
pointer_kind k e = decide (eqb k 7) (λ y. inr (inr (inr (inl (eqb_is k 7 y))))) (λ y. inr (inr (inr (inr (eqb_is k 8 (rw y at e))))))

number_kind : (k : ℕ) → NumberByte k → Kind k
number_kind k (inl q) = inl q
number_kind k (inr (inl q)) = inr (inl q)
number_kind k (inr (inr q)) = inr (inr (inl q))

num_kind_lem : (τ : Num) → Kind (num_kind τ)
num_kind_lem int = inl refl
num_kind_lem long = inr (inl refl)
num_kind_lem double = inr (inr (inl refl))

ones : (o : Unary) (v : Slot) → OfKind v → Yielded OfKind (eval1 o v)
ones pop v p = tt
ones copy v p = (p, (p, tt))
ones neg v p = (p, tt)
ones complement v p = (p, tt)
ones (convert r τ) v p = decide (r && unfit τ v.kind v.payload) (λ y. rw y no_fit) (λ y. rw y (num_kind_lem τ, tt))
ones (count u) v p = (p, tt)

twos : (o : Binary) (v w : Slot) → OfKind v → OfKind w → Yielded OfKind (eval2 o v w)
twos swap v w p q = (p, (q, tt))
twos (arithmetic o) v w p q =
    decide (zero_divide o v.kind w.payload) (λ y. rw y (exception 24 (omega arith) (omega arith))) (λ y. rw y (p, tt))
twos (cmp s) v w p q =
    decide (unordered v.kind v.payload w.payload) (λ y. rw y (exception 35 (omega arith) (omega arith))) (λ y. rw y (inl refl, tt))

constant_kind : (s : List ℕ) → refusal s ≡ 0 → (k : ℕ) (c : Slot) → (read s).constant k ≡ some c → OfKind c
unfolding module_of constant_of
constant_kind s e k c q =
    let cs : List ℕ = constants_in s in
    decide (ltb k (constant_count cs))
    (λ y. subst OfKind (some_inj (constant_of cs k) c (rw y at q)) (number_kind (byte cs (constant_at k)) (constant_type cs (constants_good s e) k (ltb_is k (constant_count cs) y))))
    (λ y. none_some (rw y at q))

pub kinds_closed : (s : List ℕ) → refusal s ≡ 0 → Closed (read s) OfKind
kinds_closed s e =
    record {
      constants = constant_kind s e;
      pointers = λ k x e. pointer_kind k e;
      zeros = num_kind_lem;
      ones = λ o v p. applied OfKind (refuse (class1 o) v.kind v.kind) (refuse_raises (class1 o) v.kind v.kind) (eval1 o v) (ones o v p);
      twos = λ o v w p q. applied OfKind (refuse (class2 o) v.kind w.kind) (refuse_raises (class2 o) v.kind w.kind) (eval2 o v w) (twos o v w p q);
      bumps = λ u w p. p;
    }

-- ---- the state in which a run starts

declared_kinds : (ts : List Ty) (vs : List Slot) → declared ts vs ≡ true → Kinded vs
declared_kinds [] [] h = tt
declared_kinds [] (v ∷ vs) h = false_true h
declared_kinds (t ∷ ts) [] h = false_true h
declared_kinds (num τ ∷ ts) (v ∷ vs) h =
    let a : ((eqb v.kind (num_kind τ) && fits τ v.payload) ≡ true) × (declared ts vs ≡ true) = and_both (eqb v.kind (num_kind τ) && fits τ v.payload) (declared ts vs) h in
    let b : (eqb v.kind (num_kind τ) ≡ true) × (fits τ v.payload ≡ true) = and_both (eqb v.kind (num_kind τ)) (fits τ v.payload) a.0 in
    (rw (eqb_is v.kind (num_kind τ) b.0) (num_kind_lem τ), declared_kinds ts vs a.1)
declared_kinds (ptr g w ∷ ts) (v ∷ vs) h = false_true h

pub start_kinds : (s : List ℕ) (f : ℕ) (args : Lent) → run_refusal s f args ≡ 0 → (cap n : ℕ) → length (arguments args) ≤ cap
    → Fit (read s) OfKind cap (start_state (read s) (body_of f) (arguments args) n)
start_kinds s f args e = start_fits s (run_readable s f args e) (body_of f) (arguments args) (started s f args e) OfKind declared_kinds

-- ---- the heap: cells are numbers, so nothing is asked of them

pub heap_kinds : (m : Module) (h : Heap) → HeapLaid m h → HeapOk m OfKind h
heap_kinds m h l = record { places = l; cells = go h.blocks }
  where
    go : (bs : List Block) → Each (CellsOk m OfKind) bs
    go [] = tt
    go (b ∷ bs) = ((λ i τ q. num_kind_lem τ), go bs)
