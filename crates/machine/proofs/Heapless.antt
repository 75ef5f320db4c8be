-- An instruction that is done with no heap at hand never ends in a number that says that one is left: so a run that stops with such a
-- number stands before one that needs the heap.
use Prim.Native.Nat.{ℕ, ◌+◌}
use mathlib.Core.Path.{◌≡◌, refl, subst}
use mathlib.Core.Bool.{Bool, true, false, cond, ◌&&◌, ◌||◌}
use mathlib.Core.Option.{Option, none, some}
use mathlib.Core.List.{List, [], ◌∷◌, ◌++◌}
use lib.ListN.{length}
use lib.Dec.{leb, ltb, eqb}
use Rattle.rules.specs.Bytes.{maybe}
use Rattle.rules.specs.Instructions.{Ty, kind_of, size, is_pointer}
use Rattle.rules.specs.Tables.{Function, Module}
use Rattle.rules.specs.Stack.{pointer_to, at}
use Rattle.rules.specs.Operations.{Class, any, number as numbers, whole, refuse, Result, yields, raises, class1, class2, eval1, eval2, apply1, apply2, zero_divide, unordered, unfit}
use Rattle.rules.specs.Machine.{Frame, Memory, State, goto, own, owned, Next, goes, stops, finishes, resulting, pushing, take1, kinds_match, calling, leaving, returning, exec, exec_in}
use Rattle.soundness.specs.Names.{Slot, Unary, pop, copy, neg, complement, convert, count, Binary, swap, arith as arithmetic, cmp, Instruction, push, load, store, lea, one, two, tload, tstore, bump, jmp, branch, call, ret, null, new, delete, flea}
use Rattle.soundness.specs.Framed.{heapless}
use Rattle.soundness.specs.Tests.{decide, false_true}
use Rattle.machine.specs.Ends.{left}

-- it is over with another number, if it is over
abbrev Other : Next → Type 0
Other (goes s) = Unit {0}
Other (stops e) = left e ≡ false
Other (finishes M) = Unit {0}

other_cond : (b : Bool) (x y : Next) → Other x → Other y → Other (cond b x y)
other_cond true x y p q = p
other_cond false x y p q = q

other_maybe : {A : Type 0} (o : Option A) (x : Next) (k : A → Next) → Other x → ((a : A) → Other (k a)) → Other (maybe o x k)
other_maybe none x k p q = p
other_maybe (some a) x k p q = q a

other_take1 : (fl : ℕ) (st : List Slot) (k : Slot → List Slot → Next) → ((v : Slot) (r : List Slot) → Other (k v r)) → Other (take1 fl st k)
other_take1 fl [] k q = refl
other_take1 fl (v ∷ st) k q = other_cond (leb fl (length st)) (k v st) (stops 21) (q v st) refl

-- ---- what operations raise

abbrev OtherResult : Result → Type 0
OtherResult (yields vs) = Unit {0}
OtherResult (raises e) = left e ≡ false

abbrev OtherRefusal : Option ℕ → Type 0
OtherRefusal none = Unit {0}
OtherRefusal (some e) = left e ≡ false

refuses : (c : Class) (a b : ℕ) → OtherRefusal (refuse c a b)
refuses any a b = decide (eqb a b) (λ y. rw y tt) (λ y. rw y refl)
refuses numbers a b = decide (is_pointer a || is_pointer b) (λ x. rw x refl) (λ x. rw x (decide (eqb a b) (λ y. rw y tt) (λ y. rw y refl)))
refuses whole a b =
    decide (is_pointer a || is_pointer b) (λ x. rw x refl)
    (λ x. rw x (decide (eqb a b) (λ y. rw y (decide (eqb a 6) (λ z. rw z refl) (λ z. rw z tt))) (λ y. rw y refl)))

applies : (o : Option ℕ) → OtherRefusal o → (x : Result) → OtherResult x → OtherResult (maybe o x (λ e. raises e))
applies none r x h = h
applies (some e) r x h = r

evaluates1 : (o : Unary) (v : Slot) → OtherResult (eval1 o v)
evaluates1 pop v = tt
evaluates1 copy v = tt
evaluates1 neg v = tt
evaluates1 complement v = tt
evaluates1 (convert b τ) v = decide (b && unfit τ v.kind v.payload) (λ y. rw y refl) (λ y. rw y tt)
evaluates1 (count u) v = tt

evaluates2 : (o : Binary) (v w : Slot) → OtherResult (eval2 o v w)
evaluates2 swap v w = tt
evaluates2 (arithmetic o) v w = decide (zero_divide o v.kind w.payload) (λ y. rw y refl) (λ y. rw y tt)
evaluates2 (cmp s) v w = decide (unordered v.kind v.payload w.payload) (λ y. rw y refl) (λ y. rw y tt)

-- ---- instructions

module _ (m : Module) (cap : ℕ) (M : Memory) (f : Frame) (cs : List Frame) where
  other_pushing : (vs st : List Slot) → Other (pushing M cap vs st f cs)
  other_pushing vs st = other_cond (leb (length (vs ++ st)) cap) _ (stops 20) tt refl

  other_resulting : (x : Result) → OtherResult x → (st : List Slot) → Other (resulting M cap x st f cs)
  other_resulting (yields vs) h st = other_pushing vs st
  other_resulting (raises n) h st = h

  other_calling : (k : ℕ) (F : Function) (st : List Slot) → Other (calling M k F st f cs)
  other_calling k F st =
      other_cond (leb (length F.params + f.floor) (length st)) _ (stops 21)
      (other_cond (kinds_match F.params st) _ (stops 22) (other_cond (ltb (length cs) 63) _ (stops 20) tt refl) refl)
      refl

  other_leaving : (vs : List Slot) (b : ℕ) (st : List Slot) (gs : List Frame) → Other (leaving M vs b st gs)
  other_leaving vs b st [] = tt
  other_leaving vs b st (g ∷ gs) = tt

  other_returning : (r : Option Ty) (st : List Slot) → Other (returning M r st f cs)
  other_returning none st = other_leaving [] f.base st cs
  other_returning (some t) st =
      other_take1 f.floor st _ (λ v r. other_cond (eqb v.kind (kind_of t)) _ (stops 22) (other_leaving (v ∷ []) f.base st cs) refl)

  other_exec : (i : Instruction) → heapless i ≡ true → (st : List Slot) → Other (exec m cap M i st f cs)
  other_exec (push k) h st = other_maybe (m.constant k) (stops 23) _ refl (λ c. other_pushing (c ∷ []) st)
  other_exec (load n) h st =
      other_maybe (at f.locals n) (stops 25) _ refl (λ s. other_maybe (at st s) (stops 25) _ refl (λ v. other_pushing (v ∷ []) st))
  other_exec (store n) h st =
      other_maybe (at f.locals n) _ _
      (other_cond (eqb n (length f.locals) && ltb n 16) _ (stops 26) (other_take1 f.floor st _ (λ v r. tt)) refl)
      (λ s. other_take1 f.floor st _
      (λ v r. other_maybe (at r s) (stops 26) _ refl (λ w. other_cond (eqb v.kind w.kind) _ (stops 22) tt refl)))
  other_exec (lea n) h st = other_maybe (at f.locals n) (stops 25) _ refl (λ s. other_pushing (pointer_to s ∷ []) st)
  other_exec (one o) h st =
      other_take1 f.floor st _ (λ v r. other_resulting (apply1 o v) (applies (refuse (class1 o) v.kind v.kind) (refuses (class1 o) v.kind v.kind) (eval1 o v) (evaluates1 o v)) r)
  other_exec (two o) h st =
      other_take1 f.floor st _ (λ b r. other_take1 f.floor r _
      (λ a r'. other_resulting (apply2 o a b) (applies (refuse (class2 o) a.kind b.kind) (refuses (class2 o) a.kind b.kind) (eval2 o a b) (evaluates2 o a b)) r'))
  other_exec tload h st = false_true h
  other_exec tstore h st = false_true h
  other_exec (bump u) h st = false_true h
  other_exec (jmp l) h st = other_maybe (owned f.body (m.label l)) (stops 27) _ refl (λ q. tt)
  other_exec (branch c l) h st =
      other_maybe (owned f.body (m.label l)) (stops 27) _ refl
      (λ q. other_take1 f.floor st _ (λ v r. other_cond (eqb v.kind 3) _ (stops 22) tt refl))
  other_exec (call k) h st = other_maybe (m.function k) (stops 28) _ refl (λ F. other_calling k F st)
  other_exec ret h st = other_maybe (own m f.body) (stops 30) _ refl (λ F. other_returning F.result st)
  other_exec (null g) h st = false_true h
  other_exec (new g n) h st = false_true h
  other_exec delete h st = false_true h
  other_exec (flea n) h st = false_true h

pub never_left : (m : Module) (cap : ℕ) (i : Instruction) → heapless i ≡ true → (s : State) (n : ℕ) → exec_in m cap i s ≡ stops n → left n ≡ false
unfolding exec_in
never_left m cap i h s n q = subst Other q (other_exec m cap s.memory (goto (s.top.place + size i) s.top) s.callers i h s.memory.stack)
