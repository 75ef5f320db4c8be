-- A function that the host called finishes only by its `ret`, which leaves its value alone, or nothing, and the heap as it was. For its
-- frame is the deepest, from slot 0 on, and no exception has the number 0. This holds of every module.
use Rattle.std.proofs.Math.Path.{◌≡◌, refl, ap}
use Rattle.std.proofs.Common.{sym, ◌∙◌, subst, arith}
use Prim.Native.Nat.{ℕ, zero, suc, ◌+◌}
use Rattle.std.specs.Prelude.{Bool, cond, ◌&&◌, ◌||◌, List, [], ◌∷◌, ◌++◌, length, leb, ltb, eqb}
use Rattle.std.proofs.Math.Bool.{true, false}
use Rattle.std.proofs.Math.Option.{Option, none, some}
use Rattle.soundness.specs.Names.{Num, Slot, Unary, pop, copy, neg, complement, convert, count, Binary, swap, arith as arithmetic, cmp, Instruction, push, load, store, lea, one, two, tload, tstore, bump, jmp, branch, call, ret, null, new, delete, flea}
use Rattle.rules.specs.Bytes.{maybe}
use Rattle.rules.specs.Instructions.{Ty, ptr_kind, is_pointer, kind_of, size}
use Rattle.rules.specs.Tables.{Body, entry, fn, body_of, Function, Module}
use Rattle.rules.specs.ModuleFile.{read}
use Rattle.rules.specs.Stack.{slot, pointer_to, at, under, Lent, capacity}
use Rattle.rules.specs.Heap.{shape_of, null_address, field_address, Spot, on_stack, in_heap, Target, nowhere, entire, this, target_of, is_given, LentHeap, heap_capacity}
use Rattle.rules.specs.Operations.{Class, any, number, whole, refuse, class1, class2, Result, yields, raises, zero_divide, unordered, unfit, eval1, eval2, apply1, apply2, holds, low}
use Rattle.rules.specs.Machine.{Frame, Memory, State, goto, Next, goes, stops, finishes, pushing, resulting, take1, pointing, as_number, as_structure, deref, assign, kinds_match, leaving, returning, own, owned, exec, exec_in, step, advance, at_end, end_number, run, Outcome, outcome}
use Rattle.rules.specs.Answers.{run_number, scan_refusal, arguments, start_state, outcome_of, Ran, ran, run_with, run_module}
use Rattle.rules.specs.Demand3.{Moment, first, next}
use Rattle.rules.specs.Claims.{Alone, Returns}
use Rattle.soundness.specs.Tests.{decide, eqb_is, none_some}
use Rattle.soundness.specs.Slots.{under_cons}
use Rattle.soundness.specs.Invariant.{result_of}
use Rattle.soundness.specs.Whole.{answered_number}

by_cond : {A : Type 0} (Q : A → Type 0) {x y : A} (b : Bool) → Q x → Q y → Q (cond b x y)
by_cond Q true p q = p
by_cond Q false p q = q

-- ---- no exception is 0

abbrev NonZero : ℕ → Type 0
NonZero zero = ⊥
NonZero (suc e) = Unit {0}

abbrev Refuses : Option ℕ → Type 0
Refuses none = Unit {0}
Refuses (some e) = NonZero e

abbrev Gives : Result → Type 0
Gives (yields vs) = Unit {0}
Gives (raises e) = NonZero e

refuses : (c : Class) (a b : ℕ) → Refuses (refuse c a b)
refuses any a b = by_cond Refuses (eqb a b) tt tt
refuses number a b = by_cond Refuses (is_pointer a || is_pointer b) tt (by_cond Refuses (eqb a b) tt tt)
refuses whole a b = by_cond Refuses (is_pointer a || is_pointer b) tt (by_cond Refuses (eqb a b) (by_cond Refuses (eqb a 6) tt tt) tt)

or_gives : (o : Option ℕ) (x : Result) → Refuses o → Gives x → Gives (maybe o x (λ e. raises e))
or_gives none x r g = g
or_gives (some e) x r g = r

gives1 : (o : Unary) (v : Slot) → Gives (eval1 o v)
gives1 pop v = tt
gives1 copy v = tt
gives1 neg v = tt
gives1 complement v = tt
gives1 (convert r τ) v = by_cond Gives (r && unfit τ v.kind v.payload) tt tt
gives1 (count u) v = tt

gives2 : (o : Binary) (a b : Slot) → Gives (eval2 o a b)
gives2 swap a b = tt
gives2 (arithmetic o) a b = by_cond Gives (zero_divide o a.kind b.payload) tt tt
gives2 (cmp s) a b = by_cond Gives (unordered a.kind a.payload b.payload) tt tt

-- ---- frames

-- of a frame of body b, from slot n on, and its callers: the deepest is of function k, from slot 0 on, and the others are of functions
abbrev Rooted : ℕ → Body → ℕ → List Frame → Type 0
Rooted k b n [] = (b ≡ fn k) × (n ≡ 0)
Rooted k b n (g ∷ gs) = (j : ℕ) × (b ≡ fn j) × Rooted k g.body g.base gs

abbrev RootedIn : ℕ → State → Type 0
RootedIn k s = Rooted k s.top.body s.top.base s.callers

is_function : (k : ℕ) (b : Body) (n : ℕ) (cs : List Frame) → Rooted k b n cs → (j : ℕ) × (b ≡ fn j)
is_function k b n [] r = (k, r.0)
is_function k b n (g ∷ gs) r = (r.0, r.1)

under_0 : (st : List Slot) → under 0 st ≡ []
under_0 [] = refl
under_0 (v ∷ st) = under_cons 0 v st (omega arith) ∙ under_0 st

-- ---- one instruction, the stack before it being st

module _ (m : Module) (cap : ℕ) (M : Memory) (k : ℕ) (st : List Slot) where
  -- the run goes on with such frames, stops with an exception, or finishes with what `ret` leaves of st
  data Ok : Next → Type 0 where
    on : {s : State} → RootedIn k s → Ok (goes s)
    stop : {e : ℕ} → NonZero e → Ok (stops e)
    finish : {N : Memory} → Alone (result_of m (fn k)) st N.stack → N.heap ≡ M.heap → Ok (finishes N)

  ok_maybe : {A : Type 0} {x : Next} {g : A → Next} (o : Option A) → Ok x → ((a : A) → Ok (g a)) → Ok (maybe o x g)
  ok_maybe none p q = p
  ok_maybe (some a) p q = q a

  ok_take1 : {g : Slot → List Slot → Next} (fl : ℕ) (r : List Slot) → ((v : Slot) (r : List Slot) → Ok (g v r)) → Ok (take1 fl r g)
  ok_take1 fl [] q = stop tt
  ok_take1 fl (v ∷ r) q = by_cond Ok (leb fl (length r)) (q v r) (stop tt)

  ok_pointing : {g : ℕ → Next} (p : Slot) → ((a : ℕ) → Ok (g a)) → Ok (pointing p g)
  ok_pointing p q = by_cond Ok (is_pointer p.kind) (by_cond Ok (eqb p.payload null_address) (stop tt) (q p.payload)) (stop tt)

  ok_number : {g : Spot → Slot → Next} (x : Target) → ((x : Spot) (w : Slot) → Ok (g x w)) → Ok (as_number x g)
  ok_number nowhere q = stop tt
  ok_number (entire s fs) q = stop tt
  ok_number (this x w) q = q x w

  ok_structure : {g : ℕ → List Num → Next} (x : Target) → ((s : ℕ) (fs : List Num) → Ok (g s fs)) → Ok (as_structure x g)
  ok_structure nowhere q = stop tt
  ok_structure (entire s fs) q = q s fs
  ok_structure (this x w) q = stop tt

  module _ (f : Frame) (cs : List Frame) (R : Rooted k f.body f.base cs) where
    ok_push : (N : Memory) (vs r : List Slot) → Ok (pushing N cap vs r f cs)
    ok_push N vs r = by_cond Ok (leb (length (vs ++ r)) cap) (on R) (stop tt)

    ok_result : (x : Result) (r : List Slot) → Gives x → Ok (resulting M cap x r f cs)
    ok_result (yields vs) r g = ok_push M vs r
    ok_result (raises e) r g = stop g

    ok_assign : (x : Spot) (v : Slot) (r : List Slot) → Ok (assign M x v r f cs)
    ok_assign (on_stack s) v r = on R
    ok_assign (in_heap s i) v r = on R

    ok_deref : {g : Spot → Slot → Next} (p : Slot) (r : List Slot) → ((x : Spot) (w : Slot) → Ok (g x w)) → Ok (deref m M p r g)
    ok_deref p r q = ok_pointing p (λ a. ok_number (target_of m M.heap r a) q)

    -- `ret` of the function F hands vs back
    ok_leaving : (F : Function) → own m f.body ≡ some F → (vs : List Slot) → (under f.base st ≡ [] → Alone F.result st (vs ++ under f.base st)) → Ok (leaving M vs f.base st cs)
    ok_leaving F e vs a = go cs R
      where
        go : (ds : List Frame) → Rooted k f.body f.base ds → Ok (leaving M vs f.base st ds)
        go [] r =
            let t : result_of m f.body ≡ F.result = rw e in
            finish (subst (λ t. Alone t st (vs ++ under f.base st)) (sym t ∙ ap (result_of m) r.0) (a (ap (λ n. under n st) r.1 ∙ under_0 st))) refl
        go (g ∷ gs) r = on r.2

    ok_returning : (F : Function) → own m f.body ≡ some F → (t : Option Ty) → F.result ≡ t → Ok (returning M t st f cs)
    ok_returning F e none q = ok_leaving F e [] (λ z. rw (q, z) refl)
    ok_returning F e (some t) q = top st refl
      where
        top : (u : List Slot) → st ≡ u → Ok (take1 f.floor u (λ v r. cond (eqb v.kind (kind_of t)) (leaving M (v ∷ []) f.base st cs) (stops 22)))
        top [] z = stop tt
        top (v ∷ r) z =
            by_cond Ok (leb f.floor (length r))
            (decide (eqb v.kind (kind_of t)) (λ y. rw y (ok_leaving F e (v ∷ []) (λ w. rw q (v, r, z, eqb_is v.kind (kind_of t) y, ap (λ l. v ∷ l) w)))) (λ y. rw y (stop tt))) (stop tt)

    ok_exec : (i : Instruction) → Ok (exec m cap M i st f cs)
    ok_exec (push c) = ok_maybe (m.constant c) (stop tt) (λ c. ok_push M (c ∷ []) st)
    ok_exec (load n) = ok_maybe (at f.locals n) (stop tt) (λ s. ok_maybe (at st s) (stop tt) (λ v. ok_push M (v ∷ []) st))
    ok_exec (store n) =
        ok_maybe (at f.locals n) (by_cond Ok (eqb n (length f.locals) && ltb n 16) (ok_take1 f.floor st (λ v r. on R)) (stop tt))
        (λ s. ok_take1 f.floor st (λ v r. ok_maybe (at r s) (stop tt) (λ w. by_cond Ok (eqb v.kind w.kind) (on R) (stop tt))))
    ok_exec (lea n) = ok_maybe (at f.locals n) (stop tt) (λ s. ok_push M (pointer_to s ∷ []) st)
    ok_exec (one o) = ok_take1 f.floor st (λ v r. ok_result (apply1 o v) r (or_gives (refuse (class1 o) v.kind v.kind) (eval1 o v) (refuses (class1 o) v.kind v.kind) (gives1 o v)))
    ok_exec (two o) =
        ok_take1 f.floor st (λ b r. ok_take1 f.floor r (λ a r'.
        ok_result (apply2 o a b) r' (or_gives (refuse (class2 o) a.kind b.kind) (eval2 o a b) (refuses (class2 o) a.kind b.kind) (gives2 o a b))))
    ok_exec tload = ok_take1 f.floor st (λ p r. ok_deref p r (λ x w. ok_push M (w ∷ []) r))
    ok_exec tstore = ok_take1 f.floor st (λ v r. ok_take1 f.floor r (λ p r'. ok_deref p r' (λ x w. by_cond Ok (eqb v.kind w.kind) (ok_assign x v r') (stop tt))))
    ok_exec (bump u) = ok_take1 f.floor st (λ p r. ok_deref p r (λ x w. by_cond Ok (is_pointer w.kind) (stop tt) (ok_assign x _ r)))
    ok_exec (jmp l) = ok_maybe (owned f.body (m.label l)) (stop tt) (λ q. on R)
    ok_exec (branch c l) =
        ok_maybe (owned f.body (m.label l)) (stop tt)
        (λ q. ok_take1 f.floor st (λ v r. by_cond Ok (eqb v.kind 3) (on (by_cond (λ (g : Frame). Rooted k g.body g.base cs) (holds c (low v.payload)) R R)) (stop tt)))
    ok_exec (call n) =
        ok_maybe (m.function n) (stop tt)
        (λ F. by_cond Ok (leb (length F.params + f.floor) (length st)) (by_cond Ok (kinds_match F.params st) (by_cond Ok (ltb (length cs) 63) (on (n, refl, R)) (stop tt)) (stop tt)) (stop tt))
    ok_exec ret = found (own m f.body) refl
      where
        found : (o : Option Function) → own m f.body ≡ o → Ok (maybe o (stops 30) (λ F. returning M F.result st f cs))
        found none e = stop tt
        found (some F) e = ok_returning F e F.result refl
    ok_exec (null g) = ok_push M (slot (ptr_kind g) null_address ∷ []) st
    ok_exec (new false t) = ok_maybe (shape_of m t) (stop tt) (λ z. by_cond Ok (leb (suc (length st)) cap) (on R) (stop tt))
    ok_exec (new true t) = ok_maybe (shape_of m t) (stop tt) (λ z. by_cond Ok (leb (suc (length st)) cap) (on R) (stop tt))
    ok_exec delete =
        ok_take1 f.floor st (λ p r. by_cond Ok (eqb p.kind 7) (by_cond Ok (eqb p.payload null_address) (on R) (by_cond Ok (is_given M.heap p.payload) (on R) (stop tt))) (stop tt))
    ok_exec (flea n) =
        ok_take1 f.floor st (λ p r. ok_pointing p (λ a. ok_structure (target_of m M.heap r a) (λ s fs. by_cond Ok (ltb n (length fs)) (ok_push M (slot p.kind (field_address s n) ∷ []) r) (stop tt))))

-- ---- moments and runs

module _ (m : Module) (cap k : ℕ) where
  abbrev After : State → Next → Type 0
  After s = Ok m cap s.memory k s.memory.stack

  advance_ok : (s : State) → RootedIn k s → After s (advance m cap s)
  unfolding advance step exec_in
  advance_ok s R = by_cond (After s) (at_end s.top) (ended (is_function k s.top.body s.top.base s.callers R))
      (ok_maybe m cap s.memory k s.memory.stack (m.code s.top.place) (stop tt) (λ i. ok_exec m cap s.memory k s.memory.stack (goto (s.top.place + size i) s.top) s.callers R i))
    where
      ended : (j : ℕ) × (s.top.body ≡ fn j) → After s (stops (end_number s.top.body))
      ended x = rw x.1 (stop tt)

  -- a run that finishes does so by `ret`
  run_returns : {s₀ : State} (n j : ℕ) (s : State) → RootedIn k s → Moment m cap s₀ j s → (run m cap n j s).number ≡ 0 → Returns m cap s₀ (result_of m (fn k)) (run m cap n j s)
  unfolding run
  run_returns {s₀} zero j s R r e = go (at_end s.top) e
    where
      go : (b : Bool) → (cond b (outcome (end_number s.top.body) j s.memory) (outcome 15 j s.memory)).number ≡ 0
          → Returns m cap s₀ (result_of m (fn k)) (cond b (outcome (end_number s.top.body) j s.memory) (outcome 15 j s.memory))
      go true q = let x = is_function k s.top.body s.top.base s.callers R in let z : ◌≡◌ {A = ℕ} 29 0 = ap end_number (sym x.1) ∙ q in absurd (omega arith)
      go false q = absurd (omega arith)
  run_returns {s₀} (suc n) j s R r e = go (advance m cap s) refl (advance_ok s R) (λ s' R' q. run_returns n (suc j) s' R' (next r q)) e
    where
      go : (x : Next) → advance m cap s ≡ x → After s x
          → ((s' : State) → RootedIn k s' → advance m cap s ≡ goes s' → (run m cap n (suc j) s').number ≡ 0 → Returns m cap s₀ (result_of m (fn k)) (run m cap n (suc j) s'))
          → (elim x as (λ z. Outcome) [ goes s' ↦ run m cap n (suc j) s' | stops e ↦ outcome e j s.memory | finishes M ↦ outcome 0 (suc j) M ]).number ≡ 0
          → Returns m cap s₀ (result_of m (fn k)) (elim x as (λ z. Outcome) [ goes s' ↦ run m cap n (suc j) s' | stops e ↦ outcome e j s.memory | finishes M ↦ outcome 0 (suc j) M ])
      go (goes s') q (on R') ih e = ih s' R' q e
      go (stops i) q (stop h) ih e = absurd (subst NonZero e h)
      go (finishes N) q (finish a h) ih e =
          record { steps = j; last = s; left = N; is_moment = r; finishing = q; is_outcome = refl; value = a; same_heap = h }

-- ---- of files

-- from the state in which a function starts
started_returns : (m : Module) (cap n c : ℕ) (b : Body) (vs : List Slot) (F : Function) → own m b ≡ some F → (run m cap n 0 (start_state m b vs c)).number ≡ 0
    → Returns m cap (start_state m b vs c) F.result (run m cap n 0 (start_state m b vs c))
started_returns m cap n c entry vs F e q = none_some e
started_returns m cap n c (fn k) vs F e q =
    let t : result_of m (fn k) ≡ F.result = rw e in
    subst (λ t. Returns m cap (start_state m (fn k) vs c) t (run m cap n 0 (start_state m (fn k) vs c))) t (run_returns m cap k n 0 (start_state m (fn k) vs c) (refl, refl) first q)

module _ (s : List ℕ) (f : ℕ) (F : Function) (own_is : own (read s) (body_of f) ≡ some F) (args : Lent) (scan n : ℕ) (x : Lent) (y : LentHeap) where
  abbrev First : State
  First = start_state (read s) (body_of f) (arguments args) (heap_capacity y)

  abbrev Answer : Ran → Type 0
  Answer r = (o : Outcome) × (r ≡ ran o x y) × Returns (read s) (capacity x) First F.result o

  -- arguments that don't fit are 20
  outcome_returns : (outcome_of (read s) (body_of f) (arguments args) n (capacity x) (heap_capacity y)).number ≡ 0
      → Returns (read s) (capacity x) First F.result (outcome_of (read s) (body_of f) (arguments args) n (capacity x) (heap_capacity y))
  unfolding outcome_of
  outcome_returns e =
      decide (leb (length (arguments args)) (capacity x)) (λ z. rw z (started_returns (read s) (capacity x) n (heap_capacity y) (body_of f) (arguments args) F own_is (rw z at e)))
      (λ z. let q : ◌≡◌ {A = ℕ} 20 0 = rw z at e in absurd (omega arith))

  pub returned : run_number (run_module s f args scan n x y).answer ≡ 0 → Answer (run_module s f args scan n x y)
  unfolding run_module
  returned e = go (scan_refusal s f args scan) refl e
    where
      go : (r : ℕ) → scan_refusal s f args scan ≡ r → run_number (run_with s f args n x y r).answer ≡ 0 → Answer (run_with s f args n x y r)
      go (suc r) q h = absurd (omega arith)
      go zero q h = (outcome_of (read s) (body_of f) (arguments args) n (capacity x) (heap_capacity y), refl, outcome_returns (sym (answered_number s f args scan q n x y) ∙ e))
