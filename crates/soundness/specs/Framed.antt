-- An instruction that reads and writes no heap does the same over every heap. So the code of such an instruction can be proved over
-- the empty heap, and what it does over another follows.
use Rattle.std.specs.Prelude.{◌≡◌, ℕ, zero, suc, ◌+◌, ◌-◌, ◌<◌, Bool, true, false, cond, ◌&&◌, List, [], ◌∷◌, ◌++◌, length, leb, ltb, eqb}
use Rattle.std.proofs.Math.Path.{refl}
use Rattle.std.proofs.Common.{arith}
use Rattle.std.proofs.Math.Option.{Option, none, some}
use Rattle.soundness.specs.Names.{Slot, Condition, Instruction, push, load, store, lea, one, two, tload, tstore, bump, jmp, branch, call, ret, null, new, delete, flea}
use Rattle.rules.specs.Bytes.{maybe}
use Rattle.rules.specs.Instructions.{Ty, is_pointer, kind_of, size}
use Rattle.rules.specs.Tables.{Function, Module, fn}
use Rattle.rules.specs.Stack.{slot, pointer_to, at, put}
use Rattle.rules.specs.Heap.{Heap, null_address, serial_in, Spot, on_stack, nowhere, this, target_of}
use Rattle.rules.specs.Operations.{Result, yields, raises, apply1, apply2, bumped, holds, low}
use Rattle.rules.specs.Machine.{Frame, Memory, State, goto, bind, opened, own, owned, Next, goes, stops, finishes, keeping, becomes, pushing, resulting, take1, as_number, deref, assign, write, writing, bumping, testing, kinds_match, calling, leaving, returning, exec, exec_in}
use Rattle.soundness.specs.Tests.{false_true}

-- neither through a pointer nor of edition 4's own: those that are done with no heap at hand
abbrev pub heapless : Instruction → Bool
heapless (push k) = true
heapless (load n) = true
heapless (store n) = true
heapless (lea n) = true
heapless (one o) = true
heapless (two o) = true
heapless tload = false
heapless tstore = false
heapless (bump u) = false
heapless (jmp l) = true
heapless (branch c l) = true
heapless (call k) = true
heapless ret = true
heapless (null g) = false
heapless (new g n) = false
heapless delete = false
heapless (flea n) = false

-- the same with the heap h
abbrev pub with_heap : Heap → State → State
with_heap h s = record { memory = keeping s.memory h; top = s.top; callers = s.callers }

abbrev pub onto : Heap → Next → Next
onto h (goes s) = goes (with_heap h s)
onto h (stops e) = stops e
onto h (finishes M) = finishes (keeping M h)

-- a slot's number is no address of a block
pub low_serial : (a : ℕ) → a < 65536 → serial_in a ≡ 0
low_serial a l = omega arith

module _ (h : Heap) where
  onto_cond : (b : Bool) (x y x' y' : Next) → (b ≡ true → x' ≡ onto h x) → y' ≡ onto h y → cond b x' y' ≡ onto h (cond b x y)
  onto_cond true x y x' y' p q = p refl
  onto_cond false x y x' y' p q = q

  onto_maybe : {A : Type 0} (o : Option A) (x x' : Next) (k k' : A → Next) → x' ≡ onto h x → ((a : A) → k' a ≡ onto h (k a)) → maybe o x' k' ≡ onto h (maybe o x k)
  onto_maybe none x x' k k' p q = p
  onto_maybe (some a) x x' k k' p q = q a

  onto_take1 : (fl : ℕ) (st : List Slot) (k k' : Slot → List Slot → Next) → ((v : Slot) (r : List Slot) → k' v r ≡ onto h (k v r)) → take1 fl st k' ≡ onto h (take1 fl st k)
  onto_take1 fl [] k k' q = refl
  onto_take1 fl (v ∷ st) k k' q = onto_cond (leb fl (length st)) (k v st) (stops 21) (k' v st) (stops 21) (λ e. q v st) refl

  module _ (m : Module) (cap : ℕ) (M : Memory) where
    abbrev N : Memory
    N = keeping M h

    onto_pushing : (vs st : List Slot) (f : Frame) (cs : List Frame) → pushing N cap vs st f cs ≡ onto h (pushing M cap vs st f cs)
    onto_pushing vs st f cs = onto_cond (leb (length (vs ++ st)) cap) (becomes M (vs ++ st) f cs) (stops 20) (becomes N (vs ++ st) f cs) (stops 20) (λ e. refl) refl

    onto_resulting : (x : Result) (st : List Slot) (f : Frame) (cs : List Frame) → resulting N cap x st f cs ≡ onto h (resulting M cap x st f cs)
    onto_resulting (yields vs) st f cs = onto_pushing vs st f cs
    onto_resulting (raises e) st f cs = refl

    onto_leaving : (vs : List Slot) (b : ℕ) (st : List Slot) (cs : List Frame) → leaving N vs b st cs ≡ onto h (leaving M vs b st cs)
    onto_leaving vs b st [] = refl
    onto_leaving vs b st (g ∷ gs) = refl

    onto_returning : (r : Option Ty) (st : List Slot) (f : Frame) (cs : List Frame) → returning N r st f cs ≡ onto h (returning M r st f cs)
    onto_returning none st f cs = onto_leaving [] f.base st cs
    onto_returning (some t) st f cs =
        onto_take1 f.floor st (λ v r. cond (eqb v.kind (kind_of t)) (leaving M (v ∷ []) f.base st cs) (stops 22)) (λ v r. cond (eqb v.kind (kind_of t)) (leaving N (v ∷ []) f.base st cs) (stops 22))
        (λ v r. onto_cond (eqb v.kind (kind_of t)) (leaving M (v ∷ []) f.base st cs) (stops 22) (leaving N (v ∷ []) f.base st cs) (stops 22) (λ e. onto_leaving (v ∷ []) f.base st cs) refl)

    onto_write : (v w : Slot) (s : ℕ) (st : List Slot) (f : Frame) (cs : List Frame) → write N v w s st f cs ≡ onto h (write M v w s st f cs)
    onto_write v w s st f cs = onto_cond (eqb v.kind w.kind) (becomes M (put st s v) f cs) (stops 22) (becomes N (put st s v) f cs) (stops 22) (λ e. refl) refl

    onto_testing : (c : Condition) (q : ℕ) (v : Slot) (st : List Slot) (f : Frame) (cs : List Frame) → testing N c q v st f cs ≡ onto h (testing M c q v st f cs)
    onto_testing c q v st f cs =
        onto_cond (eqb v.kind 3) (becomes M st (cond (holds c (low v.payload)) (goto q f) f) cs) (stops 22) (becomes N st (cond (holds c (low v.payload)) (goto q f) f) cs) (stops 22) (λ e. refl) refl

    onto_calling : (k : ℕ) (F : Function) (st : List Slot) (f : Frame) (cs : List Frame) → calling N k F st f cs ≡ onto h (calling M k F st f cs)
    onto_calling k F st f cs =
        onto_cond (leb (length F.params + f.floor) (length st)) _ (stops 21) _ (stops 21)
        (λ e. onto_cond (kinds_match F.params st) _ (stops 22) _ (stops 22)
        (λ e. onto_cond (ltb (length cs) 63) (becomes M st (opened (fn k) F.start F.end (length st - length F.params) (length F.params)) (f ∷ cs)) (stops 20)
        (becomes N st (opened (fn k) F.start F.end (length st - length F.params) (length F.params)) (f ∷ cs)) (stops 20) (λ e. refl) refl) refl) refl

    framed_exec : (i : Instruction) → heapless i ≡ true → (st : List Slot) (f : Frame) (cs : List Frame) → exec m cap N i st f cs ≡ onto h (exec m cap M i st f cs)
    framed_exec (push k) e st f cs = onto_maybe (m.constant k) (stops 23) (stops 23) (λ c. pushing M cap (c ∷ []) st f cs) (λ c. pushing N cap (c ∷ []) st f cs) refl (λ c. onto_pushing (c ∷ []) st f cs)
    framed_exec (load n) e st f cs =
        onto_maybe (at f.locals n) (stops 25) (stops 25) (λ s. maybe (at st s) (stops 25) (λ v. pushing M cap (v ∷ []) st f cs)) (λ s. maybe (at st s) (stops 25) (λ v. pushing N cap (v ∷ []) st f cs)) refl
        (λ s. onto_maybe (at st s) (stops 25) (stops 25) (λ v. pushing M cap (v ∷ []) st f cs) (λ v. pushing N cap (v ∷ []) st f cs) refl (λ v. onto_pushing (v ∷ []) st f cs))
    framed_exec (store n) e st f cs =
        onto_maybe (at f.locals n) _ _ (λ s. take1 f.floor st (λ v r. maybe (at r s) (stops 26) (λ w. write M v w s r f cs))) (λ s. take1 f.floor st (λ v r. maybe (at r s) (stops 26) (λ w. write N v w s r f cs)))
        (onto_cond (eqb n (length f.locals) && ltb n 16) (take1 f.floor st (λ v r. becomes M (v ∷ r) (bind (length r) f) cs)) (stops 26) (take1 f.floor st (λ v r. becomes N (v ∷ r) (bind (length r) f) cs)) (stops 26)
        (λ e. onto_take1 f.floor st (λ v r. becomes M (v ∷ r) (bind (length r) f) cs) (λ v r. becomes N (v ∷ r) (bind (length r) f) cs) (λ v r. refl)) refl)
        (λ s. onto_take1 f.floor st (λ v r. maybe (at r s) (stops 26) (λ w. write M v w s r f cs)) (λ v r. maybe (at r s) (stops 26) (λ w. write N v w s r f cs))
        (λ v r. onto_maybe (at r s) (stops 26) (stops 26) (λ w. write M v w s r f cs) (λ w. write N v w s r f cs) refl (λ w. onto_write v w s r f cs)))
    framed_exec (lea n) e st f cs =
        onto_maybe (at f.locals n) (stops 25) (stops 25) (λ s. pushing M cap (pointer_to s ∷ []) st f cs) (λ s. pushing N cap (pointer_to s ∷ []) st f cs) refl (λ s. onto_pushing (pointer_to s ∷ []) st f cs)
    framed_exec (one o) e st f cs = onto_take1 f.floor st (λ v r. resulting M cap (apply1 o v) r f cs) (λ v r. resulting N cap (apply1 o v) r f cs) (λ v r. onto_resulting (apply1 o v) r f cs)
    framed_exec (two o) e st f cs =
        onto_take1 f.floor st (λ b r. take1 f.floor r (λ a r'. resulting M cap (apply2 o a b) r' f cs)) (λ b r. take1 f.floor r (λ a r'. resulting N cap (apply2 o a b) r' f cs))
        (λ b r. onto_take1 f.floor r (λ a r'. resulting M cap (apply2 o a b) r' f cs) (λ a r'. resulting N cap (apply2 o a b) r' f cs) (λ a r'. onto_resulting (apply2 o a b) r' f cs))
    framed_exec tload e st f cs = false_true e
    framed_exec tstore e st f cs = false_true e
    framed_exec (bump u) e st f cs = false_true e
    framed_exec (jmp l) e st f cs =
        onto_maybe (owned f.body (m.label l)) (stops 27) (stops 27) (λ q. becomes M st (goto q f) cs) (λ q. becomes N st (goto q f) cs) refl (λ q. refl)
    framed_exec (branch c l) e st f cs =
        onto_maybe (owned f.body (m.label l)) (stops 27) (stops 27) (λ q. take1 f.floor st (λ v r. testing M c q v r f cs)) (λ q. take1 f.floor st (λ v r. testing N c q v r f cs)) refl
        (λ q. onto_take1 f.floor st (λ v r. testing M c q v r f cs) (λ v r. testing N c q v r f cs) (λ v r. onto_testing c q v r f cs))
    framed_exec (call k) e st f cs = onto_maybe (m.function k) (stops 28) (stops 28) (λ F. calling M k F st f cs) (λ F. calling N k F st f cs) refl (λ F. onto_calling k F st f cs)
    framed_exec ret e st f cs =
        onto_maybe (own m f.body) (stops 30) (stops 30) (λ F. returning M F.result st f cs) (λ F. returning N F.result st f cs) refl (λ F. onto_returning F.result st f cs)
    framed_exec (null g) e st f cs = false_true e
    framed_exec (new g n) e st f cs = false_true e
    framed_exec delete e st f cs = false_true e
    framed_exec (flea n) e st f cs = false_true e

-- an instruction in a state, over any heap
pub framed : (m : Module) (cap : ℕ) (i : Instruction) → heapless i ≡ true → (h : Heap) (s : State) → exec_in m cap i (with_heap h s) ≡ onto h (exec_in m cap i s)
unfolding exec_in
framed m cap i e h s = framed_exec h m cap s.memory i e s.memory.stack (goto (s.top.place + size i) s.top) s.callers

-- ---- through a pointer to the stack: no block is looked at

-- the operand with n others above it, where a frame with this floor has one and it is a pointer, is no address of a block
abbrev pub StackAddress : ℕ → ℕ → List Slot → Type 0
StackAddress fl n [] = Unit {0}
StackAddress fl zero (v ∷ st) = leb fl (length st) ≡ true → is_pointer v.kind ≡ true → serial_in v.payload ≡ 0
StackAddress fl (suc n) (v ∷ st) = StackAddress fl n st

-- the same of the top frame of a state
abbrev pub ToStack : ℕ → State → Type 0
ToStack n s = StackAddress s.top.floor n s.memory.stack

module _ (h : Heap) (m : Module) (cap : ℕ) (M : Memory) where
  abbrev N' : Memory
  N' = keeping M h

  onto_number : (st : List Slot) (a : ℕ) (k k' : Spot → Slot → Next) → serial_in a ≡ 0 → ((s : ℕ) (w : Slot) → k' (on_stack s) w ≡ onto h (k (on_stack s) w))
      → as_number (target_of m h st a) k' ≡ onto h (as_number (target_of m M.heap st a) k)
  unfolding target_of
  onto_number st a k k' e q = rw e (go (at st a))
    where
      go : (o : Option Slot) → as_number (maybe o nowhere (λ w. this (on_stack a) w)) k' ≡ onto h (as_number (maybe o nowhere (λ w. this (on_stack a) w)) k)
      go none = refl
      go (some w) = q a w

  onto_deref : (p : Slot) (st : List Slot) (k k' : Spot → Slot → Next) → (is_pointer p.kind ≡ true → serial_in p.payload ≡ 0) → ((s : ℕ) (w : Slot) → k' (on_stack s) w ≡ onto h (k (on_stack s) w))
      → deref m N' p st k' ≡ onto h (deref m M p st k)
  onto_deref p st k k' a q =
      onto_cond h (is_pointer p.kind) _ (stops 31) _ (stops 31)
      (λ e. onto_cond h (eqb p.payload null_address) (stops 36) (as_number (target_of m M.heap st p.payload) k) (stops 36) (as_number (target_of m h st p.payload) k')
      (λ n. refl) (onto_number st p.payload k k' (a e) q)) refl

  onto_tload : (st : List Slot) (f : Frame) (cs : List Frame) → StackAddress f.floor 0 st → exec m cap N' tload st f cs ≡ onto h (exec m cap M tload st f cs)
  onto_tload [] f cs a = refl
  onto_tload (p ∷ r) f cs a =
      onto_cond h (leb f.floor (length r)) _ (stops 21) _ (stops 21)
      (λ e. onto_deref p r (λ x w. pushing M cap (w ∷ []) r f cs) (λ x w. pushing N' cap (w ∷ []) r f cs) (a e) (λ s w. onto_pushing h m cap M (w ∷ []) r f cs)) refl

  onto_bump : (u : Bool) (st : List Slot) (f : Frame) (cs : List Frame) → StackAddress f.floor 0 st → exec m cap N' (bump u) st f cs ≡ onto h (exec m cap M (bump u) st f cs)
  onto_bump u [] f cs a = refl
  onto_bump u (p ∷ r) f cs a =
      onto_cond h (leb f.floor (length r)) _ (stops 21) _ (stops 21)
      (λ e. onto_deref p r (λ x w. bumping M u x w r f cs) (λ x w. bumping N' u x w r f cs) (a e)
      (λ s w. onto_cond h (is_pointer w.kind) (stops 32) (assign M (on_stack s) (slot w.kind (bumped u w.kind w.payload)) r f cs) (stops 32)
      (assign N' (on_stack s) (slot w.kind (bumped u w.kind w.payload)) r f cs) (λ g. refl) refl)) refl

  onto_tstore : (st : List Slot) (f : Frame) (cs : List Frame) → StackAddress f.floor 1 st → exec m cap N' tstore st f cs ≡ onto h (exec m cap M tstore st f cs)
  onto_tstore [] f cs a = refl
  onto_tstore (v ∷ []) f cs a = onto_cond h (leb f.floor 0) (stops 21) (stops 21) (stops 21) (stops 21) (λ e. refl) refl
  onto_tstore (v ∷ p ∷ r) f cs a =
      onto_cond h (leb f.floor (suc (length r))) _ (stops 21) _ (stops 21)
      (λ g. onto_cond h (leb f.floor (length r)) _ (stops 21) _ (stops 21)
      (λ e. onto_deref p r (λ x w. writing M v w x r f cs) (λ x w. writing N' v w x r f cs) (a e)
      (λ s w. onto_cond h (eqb v.kind w.kind) (assign M (on_stack s) v r f cs) (stops 22) (assign N' (on_stack s) v r f cs) (stops 22) (λ g. refl) refl)) refl) refl

-- those through a pointer, in a state where it is to the stack, over any heap
module _ (m : Module) (cap : ℕ) (h : Heap) (s : State) where
  pub framed_tload : ToStack 0 s → exec_in m cap tload (with_heap h s) ≡ onto h (exec_in m cap tload s)
  unfolding exec_in
  framed_tload a = onto_tload h m cap s.memory s.memory.stack (goto (s.top.place + 1) s.top) s.callers a

  pub framed_bump : (u : Bool) → ToStack 0 s → exec_in m cap (bump u) (with_heap h s) ≡ onto h (exec_in m cap (bump u) s)
  unfolding exec_in
  framed_bump u a = onto_bump h m cap s.memory u s.memory.stack (goto (s.top.place + 1) s.top) s.callers a

  pub framed_tstore : ToStack 1 s → exec_in m cap tstore (with_heap h s) ≡ onto h (exec_in m cap tstore s)
  unfolding exec_in
  framed_tstore a = onto_tstore h m cap s.memory s.memory.stack (goto (s.top.place + 1) s.top) s.callers a
