-- What one instruction does to frames and heights, with a typing's flow from its place: lengths alone, no types.
use Rattle.std.specs.Prelude.{◌≡◌, refl, ℕ, suc, ◌+◌, ◌-◌, ◌≤◌, ◌<◌, Bool, true, false, cond, ◌&&◌, ◌||◌, List, [], ◌∷◌, ◌++◌, length, leb, ltb, eqb}
use Rattle.std.proofs.Common.{sym, ap, ◌∙◌, subst, arith, length-append}
use Rattle.std.proofs.Math.Option.{Option, none, some}
use Rattle.soundness.specs.Names.{Slot, Num, int, Unary, pop, copy, neg, complement, convert, count, Binary, swap, arith as arithmetic, cmp, Condition, Instruction, push, load, store, lea, one, two, tload, tstore, bump, jmp, branch, call, ret, null, new, delete, flea}
use Rattle.rules.specs.Bytes.{maybe}
use Rattle.rules.specs.Instructions.{void, cell, struct, Ty, num, ptr, ptr_kind, is_pointer, kind_of, num_of, eq_ty}
use Rattle.rules.specs.Tables.{fn, Function, Module}
use Rattle.rules.specs.Stack.{slot, pointer_to, at, put}
use Rattle.rules.specs.Heap.{Shape, single, fields, shape_of, cells_in, pointee_in, having, null_address, field_address, serial_in, Spot, on_stack, in_heap, Target, nowhere, entire, this, target_of, place_for, heap_with, address_given, is_given, without, Heap, collected}
use Rattle.rules.specs.Operations.{Class, any, number, whole, class1, class2, refuse, eval1, eval2, apply1, apply2, Result, yields, raises, zero_divide, unordered, unfit, holds, low}
use Rattle.rules.specs.Machine.{Frame, Memory, State, goto, bind, opened, own, owned, Next, goes, stops, finishes, keeping, becomes, pushing, resulting, take1, pointing, as_number, as_structure, deref, assign, write, writing, bumping, creating_in, creating, deleting, entering, testing, kinds_match, calling, leaving, returning, exec}
use Rattle.rules.specs.Typing.{Lists, lists, Flow, to, gives1, gives2, operand, as_num, as_fields, agree, only, strip, with_result, judge, Flows}
use Rattle.soundness.specs.Tests.{decide, none_some, eqb_is, leb_isnt, ltb_isnt, and_both}
use Rattle.soundness.specs.Slots.{at_up}
use Rattle.soundness.specs.Sound.{need, need_only, need_no, need_strip, at_out}

-- an exception that is no overflow
abbrev Other : Option ℕ → Type 0
Other none = Unit {0}
Other (some e) = e ≡ 20 → ⊥

refuse_other : (c : Class) (a b : ℕ) → Other (refuse c a b)
refuse_other any a b = decide (eqb a b) (λ y. rw y tt) (λ y. rw y (λ q. omega arith))
refuse_other number a b =
    decide (is_pointer a || is_pointer b) (λ y. rw y (λ q. omega arith)) (λ y. rw y (decide (eqb a b) (λ z. rw z tt) (λ z. rw z (λ q. omega arith))))
refuse_other whole a b =
    decide (is_pointer a || is_pointer b) (λ y. rw y (λ q. omega arith))
    (λ y. rw y (decide (eqb a b) (λ z. rw z (decide (eqb a 6) (λ w. rw w (λ q. omega arith)) (λ w. rw w tt))) (λ z. rw z (λ q. omega arith))))

-- an operation gives as many slots as types, or an exception that is no overflow
abbrev Counted : List Ty → Result → Type 0
Counted us (yields vs) = length vs ≡ length us
Counted us (raises e) = e ≡ 20 → ⊥

eval1_counted : (o : Unary) (t : Ty) (v : Slot) → Counted (gives1 o t) (eval1 o v)
eval1_counted pop t v = refl
eval1_counted copy t v = refl
eval1_counted neg t v = refl
eval1_counted complement t v = refl
eval1_counted (convert false υ) t v = refl
eval1_counted (convert true υ) t v = decide (unfit υ v.kind v.payload) (λ z. rw z (λ q. omega arith)) (λ z. rw z refl)
eval1_counted (count u) t v = refl

eval2_counted : (o : Binary) (t : Ty) (a b : Slot) → Counted (gives2 o t) (eval2 o a b)
eval2_counted swap t a b = refl
eval2_counted (cmp s) t a b = decide (unordered a.kind a.payload b.payload) (λ z. rw z (λ q. omega arith)) (λ z. rw z refl)
eval2_counted (arithmetic o) t a b = decide (zero_divide o a.kind b.payload) (λ z. rw z (λ q. omega arith)) (λ z. rw z refl)

refused_counted : (us : List Ty) (o : Option ℕ) (x : Result) → Other o → Counted us x → Counted us (maybe o x (λ e. raises e))
refused_counted us none x h k = k
refused_counted us (some e) x h k = h

-- K: what is known of each place that can follow, with the lists there. f is at the place after the instruction i.
module _ (m : Module) (cap : ℕ) (M : Memory) (K : ℕ → Lists → Type 0) (f : Frame) (cs : List Frame) (L : List Ty) (same : length f.locals ≡ length L) where
  -- how the frames of a state s come from f and cs, at height h, by i from a place with operands O
  pub data Went (i : Instruction) (O : List Ty) (h : ℕ) (s : State) : Type 0 where
    stays : (q : ℕ) (O' : List Ty) → K q (lists L O') → s.top ≡ goto q f → s.callers ≡ cs → Went i O h s
    binds : (t : Ty) (x : ℕ) → K f.place (lists (t ∷ L) []) → s.top ≡ bind x f → suc x ≡ h → s.callers ≡ cs → Went i O h s
    calls : (k : ℕ) (F : Function) (O' : List Ty) → i ≡ call k → m.function k ≡ some F → length F.params ≤ length O → K f.place (lists L O')
        → s.top ≡ opened (fn k) F.start F.end (h - length F.params) (length F.params) → s.callers ≡ f ∷ cs → Went i O h s
    returns : cs ≡ s.top ∷ s.callers → Went i O h s

  -- why it overflows: a height that follows, or the 65th frame
  pub data Over (i : Instruction) : Type 0 where
    high : (O' : List Ty) → K f.place (lists L O') → cap < length O' + f.floor → Over i
    many : (k : ℕ) → i ≡ call k → 63 ≤ length cs → Over i

  abbrev pub Stepped : Instruction → List Ty → ℕ → Next → Type 0
  Stepped i O h (goes s) = Went i O h s
  Stepped i O h (stops e) = e ≡ 20 → Over i
  Stepped i O h (finishes r) = Unit {0}

  -- i, its operands and the height are fixed from here on
  module _ (i : Instruction) (O₀ : List Ty) (h₀ : ℕ) where
    abbrev Good : Next → Type 0
    Good n = Stepped i O₀ h₀ n

    keep : (M : Memory) (q : ℕ) (O : List Ty) (st : List Slot) → K q (lists L O) → Good (becomes M st (goto q f) cs)
    keep M q O st k = stays q O k refl refl

    take1_step : (O : List Ty) (n : ℕ) (st : List Slot) (k : Slot → List Slot → Next) → length st ≡ suc n
        → ((v : Slot) (r : List Slot) → length r ≡ n → Good (k v r)) → Good (take1 f.floor st k)
    take1_step O n [] k e go = λ q. absurd (omega arith)
    take1_step O n (v ∷ r) k e go = decide (leb f.floor (length r)) (λ y. rw y (go v r (omega arith))) (λ y. rw y (λ q. absurd (omega arith)))

    pushing_step : (M : Memory) (us : List Ty) (vs : List Slot) (O : List Ty) (st : List Slot) → length vs ≡ length us → length st ≡ length O + f.floor
        → K f.place (lists L (us ++ O)) → Good (pushing M cap vs st f cs)
    pushing_step M us vs O st e l k =
        decide (leb (length (vs ++ st)) cap) (λ y. rw y (keep M f.place (us ++ O) (vs ++ st) k))
        (λ y. rw y (λ q.
        let a : cap < length (vs ++ st) = leb_isnt (length (vs ++ st)) cap y in
        let c : length (vs ++ st) ≡ length vs + length st = length-append vs st in
        let d : length (us ++ O) ≡ length us + length O = length-append us O in high (us ++ O) k (omega arith)))

    resulting_step : (us : List Ty) (O : List Ty) (st : List Slot) (x : Result) → Counted us x → length st ≡ length O + f.floor
        → K f.place (lists L (us ++ O)) → Good (resulting M cap x st f cs)
    resulting_step us O st (raises e) c l k = λ q. absurd (c q)
    resulting_step us O st (yields vs) c l k = pushing_step M us vs O st c l k

    pointing_step : (p : Slot) (k : ℕ → Next) → ((a : ℕ) → Good (k a)) → Good (pointing p k)
    pointing_step p k go =
        decide (is_pointer p.kind) (λ y. rw y (decide (eqb p.payload null_address) (λ z. rw z (λ q. absurd (omega arith))) (λ z. rw z (go p.payload))))
        (λ y. rw y (λ q. absurd (omega arith)))

    deref_step : (p : Slot) (st : List Slot) (k : Spot → Slot → Next) → ((x : Spot) (w : Slot) → Good (k x w)) → Good (deref m M p st k)
    deref_step p st k go = pointing_step p (λ a. as_number (target_of m M.heap st a) k) (λ a. on (target_of m M.heap st a))
      where
        on : (x : Target) → Good (as_number x k)
        on nowhere = λ q. absurd (omega arith)
        on (entire s fs) = λ q. absurd (omega arith)
        on (this x w) = go x w

    assign_step : (x : Spot) (v : Slot) (O : List Ty) (st : List Slot) → K f.place (lists L O) → Good (assign M x v st f cs)
    assign_step (on_stack s) v O st k = stays f.place O k refl refl
    assign_step (in_heap s i) v O st k = stays f.place O k refl refl

    write_step : (v w : Slot) (s : ℕ) (O : List Ty) (st : List Slot) → K f.place (lists L O) → Good (write M v w s st f cs)
    write_step v w s O st k =
        decide (eqb v.kind w.kind) (λ y. rw y (keep M f.place O (put st s v) k)) (λ y. rw y (λ q. absurd (omega arith)))

    writing_step : (v w : Slot) (x : Spot) (O : List Ty) (st : List Slot) → K f.place (lists L O) → Good (writing M v w x st f cs)
    writing_step v w x O st k = decide (eqb v.kind w.kind) (λ y. rw y (assign_step x v O st k)) (λ y. rw y (λ q. absurd (omega arith)))

  abbrev Judged : Instruction → List Ty → Type 0
  Judged i O = Flows K (judge m f.body i f.place L O)

  -- the height is that of operands O over the frame's floor
  abbrev At : List Ty → List Slot → Type 0
  At O st = length st ≡ length O + f.floor

  push_step : (k : ℕ) (O : List Ty) (st : List Slot) → At O st → Judged (push k) O → Stepped (push k) O (length st) (exec m cap M (push k) st f cs)
  push_step k O st a h = go (m.constant k) h
    where
      go : (c : Option Slot) → Flows K (maybe c none (λ c. maybe (num_of c.kind) none (λ τ. to f.place L (num τ ∷ O))))
          → Stepped (push k) O (length st) (maybe c (stops 23) (λ c. pushing M cap (c ∷ []) st f cs))
      go none h' = absurd h'
      go (some c) h' =
          let x : (τ : Num) × (num_of c.kind ≡ some τ) × Flows K (to f.place L (num τ ∷ O)) = need K (num_of c.kind) (λ τ. to f.place L (num τ ∷ O)) h' in
          pushing_step (push k) O (length st) M (num x.0 ∷ []) (c ∷ []) O st refl a x.2.0

  load_step : (n : ℕ) (O : List Ty) (st : List Slot) → At O st → Judged (load n) O → Stepped (load n) O (length st) (exec m cap M (load n) st f cs)
  load_step n O st a h =
      let x : (t : Ty) × (at L n ≡ some t) × Flows K (to f.place L (t ∷ O)) = need K (at L n) (λ t. to f.place L (t ∷ O)) h in go x.0 x.2.0 (at f.locals n)
    where
      slot_of : (t : Ty) → K f.place (lists L (t ∷ O)) → (o : Option Slot) → Stepped (load n) O (length st) (maybe o (stops 25) (λ v. pushing M cap (v ∷ []) st f cs))
      slot_of t k none = λ q. absurd (omega arith)
      slot_of t k (some v) = pushing_step (load n) O (length st) M (t ∷ []) (v ∷ []) O st refl a k

      go : (t : Ty) → K f.place (lists L (t ∷ O)) → (o : Option ℕ)
          → Stepped (load n) O (length st) (maybe o (stops 25) (λ s. maybe (at st s) (stops 25) (λ v. pushing M cap (v ∷ []) st f cs)))
      go t k none = λ q. absurd (omega arith)
      go t k (some s) = slot_of t k (at st s)

  lea_step : (n : ℕ) (O : List Ty) (st : List Slot) → At O st → Judged (lea n) O → Stepped (lea n) O (length st) (exec m cap M (lea n) st f cs)
  lea_step n O st a h =
      let x : (t : Ty) × (at L n ≡ some t) × Flows K (as_num t (λ τ. to f.place L (ptr false (cell τ) ∷ O))) = need K (at L n) (λ t. as_num t (λ τ. to f.place L (ptr false (cell τ) ∷ O))) h in
      go x.0 x.2 (at f.locals n)
    where
      go : (t : Ty) → Flows K (as_num t (λ τ. to f.place L (ptr false (cell τ) ∷ O))) → (o : Option ℕ)
          → Stepped (lea n) O (length st) (maybe o (stops 25) (λ s. pushing M cap (pointer_to s ∷ []) st f cs))
      go (ptr g w) h' o = absurd h'
      go (num τ) h' none = λ q. absurd (omega arith)
      go (num τ) h' (some s) = pushing_step (lea n) O (length st) M (ptr false (cell τ) ∷ []) (pointer_to s ∷ []) O st refl a h'.0

  one_step : (o : Unary) (O : List Ty) (st : List Slot) → At O st → Judged (one o) O → Stepped (one o) O (length st) (exec m cap M (one o) st f cs)
  one_step o [] st a h = absurd h
  one_step o (t ∷ O) st a h =
      let x : (refuse (class1 o) (kind_of t) (kind_of t) ≡ none) × Flows K (to f.place L (gives1 o t ++ O)) =
      need_no K (refuse (class1 o) (kind_of t) (kind_of t)) (to f.place L (gives1 o t ++ O)) h in
      take1_step (one o) (t ∷ O) (length st) O (length O + f.floor) st (λ v r. resulting M cap (apply1 o v) r f cs) (omega arith)
      (λ v r l. resulting_step (one o) (t ∷ O) (length st) (gives1 o t) O r (apply1 o v)
      (refused_counted (gives1 o t) (refuse (class1 o) v.kind v.kind) (eval1 o v) (refuse_other (class1 o) v.kind v.kind) (eval1_counted o t v)) l x.1.0)

  two_step : (o : Binary) (O : List Ty) (st : List Slot) → At O st → Judged (two o) O → Stepped (two o) O (length st) (exec m cap M (two o) st f cs)
  two_step o [] st a h = absurd h
  two_step o (t ∷ []) st a h = absurd h
  two_step o (t ∷ u ∷ O) st a h =
      let w : Flow = to f.place L (gives2 o t ++ O) in
      let x : (agree m.edition o t u ≡ true) × Flows K (maybe (refuse (class2 o) (kind_of u) (kind_of t)) w (λ e. none)) =
      need_only K (agree m.edition o t u) (maybe (refuse (class2 o) (kind_of u) (kind_of t)) w (λ e. none)) h in
      let y : (refuse (class2 o) (kind_of u) (kind_of t) ≡ none) × Flows K w = need_no K (refuse (class2 o) (kind_of u) (kind_of t)) w x.1 in
      take1_step (two o) (t ∷ u ∷ O) (length st) (u ∷ O) (suc (length O + f.floor)) st (λ b r. take1 f.floor r (λ c r'. resulting M cap (apply2 o c b) r' f cs)) (omega arith)
      (λ b r l. take1_step (two o) (t ∷ u ∷ O) (length st) O (length O + f.floor) r (λ c r'. resulting M cap (apply2 o c b) r' f cs) l
      (λ c r' l'. resulting_step (two o) (t ∷ u ∷ O) (length st) (gives2 o t) O r' (apply2 o c b)
      (refused_counted (gives2 o t) (refuse (class2 o) c.kind b.kind) (eval2 o c b) (refuse_other (class2 o) c.kind b.kind) (eval2_counted o t c b)) l' y.1.0))

  tload_step : (O : List Ty) (st : List Slot) → At O st → Judged tload O → Stepped tload O (length st) (exec m cap M tload st f cs)
  tload_step [] st a h = absurd h
  tload_step (num τ ∷ O) st a h = absurd h
  tload_step (ptr g void ∷ O) st a h = absurd h
  tload_step (ptr g (struct n) ∷ O) st a h = absurd h
  tload_step (ptr g (cell τ) ∷ O) st a h =
      take1_step tload (ptr g (cell τ) ∷ O) (length st) O (length O + f.floor) st (λ p r. deref m M p r (λ x w. pushing M cap (w ∷ []) r f cs)) (omega arith)
      (λ p r l. deref_step tload (ptr g (cell τ) ∷ O) (length st) p r (λ x w. pushing M cap (w ∷ []) r f cs)
      (λ x w. pushing_step tload (ptr g (cell τ) ∷ O) (length st) M (num τ ∷ []) (w ∷ []) O r refl l h.0))

  bump_step : (d : Bool) (O : List Ty) (st : List Slot) → At O st → Judged (bump d) O → Stepped (bump d) O (length st) (exec m cap M (bump d) st f cs)
  bump_step d [] st a h = absurd h
  bump_step d (num τ ∷ O) st a h = absurd h
  bump_step d (ptr g void ∷ O) st a h = absurd h
  bump_step d (ptr g (struct n) ∷ O) st a h = absurd h
  bump_step d (ptr g (cell τ) ∷ O) st a h =
      take1_step (bump d) (ptr g (cell τ) ∷ O) (length st) O (length O + f.floor) st (λ p r. deref m M p r (λ x w. bumping M d x w r f cs)) (omega arith)
      (λ p r l. deref_step (bump d) (ptr g (cell τ) ∷ O) (length st) p r (λ x w. bumping M d x w r f cs)
      (λ x w. decide (is_pointer w.kind) (λ y. rw y (λ q. absurd (omega arith))) (λ y. rw y (assign_step (bump d) (ptr g (cell τ) ∷ O) (length st) x _ O r h.0))))

  tstore_step : (O : List Ty) (st : List Slot) → At O st → Judged tstore O → Stepped tstore O (length st) (exec m cap M tstore st f cs)
  tstore_step [] st a h = absurd h
  tstore_step (t ∷ []) st a h = absurd h
  tstore_step (t ∷ num τ ∷ O) st a h = absurd h
  tstore_step (t ∷ ptr g void ∷ O) st a h = absurd h
  tstore_step (t ∷ ptr g (struct n) ∷ O) st a h = absurd h
  tstore_step (t ∷ ptr g (cell τ) ∷ O) st a h =
      let x : (eq_ty t (num τ) ≡ true) × Flows K (to f.place L O) = need_only K (eq_ty t (num τ)) (to f.place L O) h in
      take1_step tstore (t ∷ ptr g (cell τ) ∷ O) (length st) (ptr g (cell τ) ∷ O) (suc (length O + f.floor)) st (λ v r. take1 f.floor r (λ p r'. deref m M p r' (λ y w. writing M v w y r' f cs))) (omega arith)
      (λ v r l. take1_step tstore (t ∷ ptr g (cell τ) ∷ O) (length st) O (length O + f.floor) r (λ p r'. deref m M p r' (λ y w. writing M v w y r' f cs)) l
      (λ p r' l'. deref_step tstore (t ∷ ptr g (cell τ) ∷ O) (length st) p r' (λ y w. writing M v w y r' f cs)
      (λ y w. writing_step tstore (t ∷ ptr g (cell τ) ∷ O) (length st) v w y O r' x.1.0)))

  null_step : (g : Bool) (O : List Ty) (st : List Slot) → At O st → Judged (null g) O → Stepped (null g) O (length st) (exec m cap M (null g) st f cs)
  null_step g O st a h = pushing_step (null g) O (length st) M (ptr g void ∷ []) (slot (ptr_kind g) null_address ∷ []) O st refl a h.0

  -- what collecting and packing do to the heap is not looked at
  new_step : (g : Bool) (n : ℕ) (O : List Ty) (st : List Slot) → At O st → Judged (new g n) O → Stepped (new g n) O (length st) (exec m cap M (new g n) st f cs)
  new_step g n O st a h = go (shape_of m n) h
    where
      given : (z : Shape) → K f.place (lists L (ptr g (pointee_in n z) ∷ O)) → (h : Heap) → Stepped (new g n) O (length st) (creating_in M cap g n (cells_in z) h st f cs)
      given z k h =
          pushing_step (new g n) O (length st) (keeping M (heap_with h n g (cells_in z) (place_for h (cells_in z)))) (ptr g (pointee_in n z) ∷ [])
          (slot (ptr_kind g) (address_given h (place_for h (cells_in z))) ∷ []) O st refl a k

      either : (g' : Bool) → g' ≡ g → (z : Shape) → K f.place (lists L (ptr g (pointee_in n z) ∷ O)) → Stepped (new g n) O (length st) (creating M cap g' n (cells_in z) st f cs)
      either false e z k = subst (λ b. Stepped (new g n) O (length st) (creating_in M cap b n (cells_in z) M.heap st f cs)) (sym e) (given z k M.heap)
      either true e z k = subst (λ b. Stepped (new g n) O (length st) (creating_in M cap b n (cells_in z) (collected (cells_in z) st M.heap) st f cs)) (sym e) (given z k (collected (cells_in z) st M.heap))

      go : (o : Option Shape) → Flows K (maybe o none (λ z. to f.place L (ptr g (pointee_in n z) ∷ O)))
          → Stepped (new g n) O (length st) (maybe o (stops 37) (λ z. creating M cap g n (cells_in z) st f cs))
      go none h' = absurd h'
      go (some z) h' = either g refl z h'.0

  delete_step : (O : List Ty) (st : List Slot) → At O st → Judged delete O → Stepped delete O (length st) (exec m cap M delete st f cs)
  delete_step [] st a h = absurd h
  delete_step (num τ ∷ O) st a h = absurd h
  delete_step (ptr true w ∷ O) st a h = absurd h
  delete_step (ptr false w ∷ O) st a h =
      take1_step delete (ptr false w ∷ O) (length st) O (length O + f.floor) st (λ p r. deleting M p r f cs) (omega arith)
      (λ p r l.
      decide (eqb p.kind 7)
      (λ y. rw y (decide (eqb p.payload null_address) (λ z. rw z (keep delete (ptr false w ∷ O) (length st) M f.place O r h.0))
      (λ z. rw z (decide (is_given M.heap p.payload)
      (λ x. rw x (keep delete (ptr false w ∷ O) (length st) (keeping M (having M.heap (without M.heap.blocks (serial_in p.payload)))) f.place O r h.0))
      (λ x. rw x (λ q. absurd (omega arith)))))))
      (λ y. rw y (λ q. absurd (omega arith))))

  flea_step : (n : ℕ) (O : List Ty) (st : List Slot) → At O st → Judged (flea n) O → Stepped (flea n) O (length st) (exec m cap M (flea n) st f cs)
  flea_step n [] st a h = absurd h
  flea_step n (num τ ∷ O) st a h = absurd h
  flea_step n (ptr g void ∷ O) st a h = absurd h
  flea_step n (ptr g (cell τ) ∷ O) st a h = absurd h
  flea_step n (ptr g (struct k) ∷ O) st a h = go (shape_of m k) h
    where
      enter : (τ : Num) → K f.place (lists L (ptr g (cell τ) ∷ O)) → (r : List Slot) → length r ≡ length O + f.floor → (v : Slot) (x : Target)
          → Stepped (flea n) (ptr g (struct k) ∷ O) (length st) (as_structure x (λ s fs. cond (ltb n (length fs)) (pushing M cap (slot v.kind (field_address s n) ∷ []) r f cs) (stops 38)))
      enter τ t r l v nowhere = λ q. absurd (omega arith)
      enter τ t r l v (this x w) = λ q. absurd (omega arith)
      enter τ t r l v (entire s fs) =
          decide (ltb n (length fs)) (λ y. rw y (pushing_step (flea n) (ptr g (struct k) ∷ O) (length st) M (ptr g (cell τ) ∷ []) (slot v.kind (field_address s n) ∷ []) O r refl l t))
          (λ y. rw y (λ q. absurd (omega arith)))

      go : (o : Option Shape) → Flows K (maybe o none (λ z. as_fields z (λ fs. maybe (at fs n) none (λ τ. to f.place L (ptr g (cell τ) ∷ O)))))
          → Stepped (flea n) (ptr g (struct k) ∷ O) (length st) (exec m cap M (flea n) st f cs)
      go none h' = absurd h'
      go (some (single τ)) h' = absurd h'
      go (some (fields fs)) h' =
          let x : (τ : Num) × (at fs n ≡ some τ) × Flows K (to f.place L (ptr g (cell τ) ∷ O)) = need K (at fs n) (λ τ. to f.place L (ptr g (cell τ) ∷ O)) h' in
          take1_step (flea n) (ptr g (struct k) ∷ O) (length st) O (length O + f.floor) st (λ p r. entering m M cap n p r f cs) (omega arith)
          (λ p r l. pointing_step (flea n) (ptr g (struct k) ∷ O) (length st) p (λ c. as_structure (target_of m M.heap r c) (λ s fs. cond (ltb n (length fs)) (pushing M cap (slot p.kind (field_address s n) ∷ []) r f cs) (stops 38))) (λ c. enter x.0 x.2.0 r l p (target_of m M.heap r c)))

  jmp_step : (l : ℕ) (O : List Ty) (st : List Slot) → At O st → Judged (jmp l) O → Stepped (jmp l) O (length st) (exec m cap M (jmp l) st f cs)
  jmp_step l O st a h = go (owned f.body (m.label l)) h
    where
      go : (q : Option ℕ) → Flows K (maybe q none (λ p. to p L O)) → Stepped (jmp l) O (length st) (maybe q (stops 27) (λ q. becomes M st (goto q f) cs))
      go none h' = absurd h'
      go (some q) h' = stays q O h'.0 refl refl

  branch_step : (c : Condition) (l : ℕ) (O : List Ty) (st : List Slot) → At O st → Judged (branch c l) O → Stepped (branch c l) O (length st) (exec m cap M (branch c l) st f cs)
  branch_step c l O st a h = go (owned f.body (m.label l)) O a h
    where
      test : (q : ℕ) (O O' : List Ty) (r : List Slot) (v : Slot) → K q (lists L O') → K f.place (lists L O') → Stepped (branch c l) O (length st) (testing M c q v r f cs)
      test q O O' r v p n =
          decide (eqb v.kind 3)
          (λ e. rw e (decide (holds c (low v.payload)) (λ y. rw y (stays q O' p refl refl)) (λ y. rw y (stays f.place O' n refl refl))))
          (λ e. rw e (λ q. absurd (omega arith)))

      go : (q : Option ℕ) (O : List Ty) → At O st
          → Flows K (maybe q none (λ p. operand O (λ t O'. only (eq_ty t (num int)) (some ((p, lists L O') ∷ (f.place, lists L O') ∷ [])))))
          → Stepped (branch c l) O (length st) (maybe q (stops 27) (λ q. take1 f.floor st (λ v r. testing M c q v r f cs)))
      go none O a h' = absurd h'
      go (some q) [] a h' = absurd h'
      go (some q) (t ∷ O) a h' =
          let w : Flow = some ((q, lists L O) ∷ (f.place, lists L O) ∷ []) in
          let x : (eq_ty t (num int) ≡ true) × Flows K w = need_only K (eq_ty t (num int)) w h' in
          take1_step (branch c l) (t ∷ O) (length st) O (length O + f.floor) st (λ v r. testing M c q v r f cs) (omega arith)
          (λ v r e. test q (t ∷ O) O r v x.1.0 x.1.1.0)

  store_step : (n : ℕ) (O : List Ty) (st : List Slot) → At O st → Judged (store n) O → Stepped (store n) O (length st) (exec m cap M (store n) st f cs)
  store_step n [] st a h = absurd (nothing (at L n) h)
    where
      nothing : (o : Option Ty) → Flows K (maybe o none (λ u. none)) → ⊥
      nothing none z = z
      nothing (some u) z = z
  store_step n (t ∷ O) st a h = go (at L n) refl h
    where
      at_some : (L : List Ty) (ss : List ℕ) (u : Ty) → length ss ≡ length L → at L n ≡ some u → (s : ℕ) × (at ss n ≡ some s)
      at_some [] ss u l e = none_some e
      at_some (t ∷ L) [] u l e = absurd (omega arith)
      at_some (t ∷ L) (s ∷ ss) u l e =
          let l' : length ss ≡ length L = omega arith in
          decide (eqb n (length L)) (λ y. (s, rw l' (rw y refl))) (λ y. let r : (s : ℕ) × (at ss n ≡ some s) = at_some L ss u l' (rw y at e) in (r.0, at_up s ss n r.0 r.1))

      moved : (s : ℕ) → K f.place (lists L O) → (v : Slot) (r : List Slot) (o : Option Slot)
          → Stepped (store n) (t ∷ O) (length st) (maybe o (stops 26) (λ w. write M v w s r f cs))
      moved s k v r none = λ q. absurd (omega arith)
      moved s k v r (some w) = write_step (store n) (t ∷ O) (length st) v w s O r k

      go : (o : Option Ty) → at L n ≡ o
          → Flows K (maybe o (only (eqb n (length L) && ltb n 16) (to f.place (t ∷ L) [])) (λ u. only (eq_ty t u) (to f.place L O)))
          → Stepped (store n) (t ∷ O) (length st) (exec m cap M (store n) st f cs)
      go (some u) e h' =
          let x : (eq_ty t u ≡ true) × Flows K (to f.place L O) = need_only K (eq_ty t u) (to f.place L O) h' in
          let y : (s : ℕ) × (at f.locals n ≡ some s) = at_some L f.locals u same e in
          rw y.1
          (take1_step (store n) (t ∷ O) (length st) O (length O + f.floor) st (λ v r. maybe (at r y.0) (stops 26) (λ w. write M v w y.0 r f cs)) (omega arith)
          (λ v r l. moved y.0 x.1.0 v r (at r y.0)))
      go none e h' =
          let w : Flow = to f.place (t ∷ L) [] in
          let x : ((eqb n (length L) && ltb n 16) ≡ true) × Flows K w = need_only K (eqb n (length L) && ltb n 16) w h' in
          let z : n ≡ length L = eqb_is n (length L) (and_both (eqb n (length L)) (ltb n 16) x.0).0 in
          let c : (eqb n (length f.locals) && ltb n 16) ≡ true = rw same x.0 in
          rw (at_out f.locals n (omega arith), c)
          (take1_step (store n) (t ∷ O) (length st) O (length O + f.floor) st (λ v r. becomes M (v ∷ r) (bind (length r) f) cs) (omega arith)
          (λ v r l. binds t (length r) x.1.0 refl (omega arith) refl))

  call_step : (k : ℕ) (O : List Ty) (st : List Slot) → At O st → Judged (call k) O → Stepped (call k) O (length st) (exec m cap M (call k) st f cs)
  call_step k O st a h = go (m.function k) refl h
    where
      go : (o : Option Function) → m.function k ≡ o → Flows K (maybe o none (λ F. strip F.params O (λ O'. to f.place L (with_result F.result O'))))
          → Stepped (call k) O (length st) (maybe o (stops 28) (λ F. calling M k F st f cs))
      go none e h' = absurd h'
      go (some F) e h' =
          let x : (O' : List Ty) × (O ≡ F.params ++ O') × Flows K (to f.place L (with_result F.result O')) =
          need_strip K F.params O (λ O'. to f.place L (with_result F.result O')) h' in
          let n : length O ≡ length F.params + length x.0 = ap length x.1 ∙ length-append F.params x.0 in
          decide (leb (length F.params + f.floor) (length st))
          (λ y. rw y (decide (kinds_match F.params st)
          (λ z. rw z (decide (ltb (length cs) 63)
          (λ w. rw w (calls k F (with_result F.result x.0) refl e (omega arith) x.2.0 refl refl))
          (λ w. rw w (λ q. many k refl (ltb_isnt (length cs) 63 w)))))
          (λ z. rw z (λ q. absurd (omega arith)))))
          (λ y. rw y (λ q. absurd (omega arith)))

  ret_step : (O : List Ty) (st : List Slot) → At O st → Stepped ret O (length st) (exec m cap M ret st f cs)
  ret_step O st a = go (own m f.body)
    where
      leave : (vs : List Slot) (b : ℕ) (gs : List Frame) → gs ≡ cs → Stepped ret O (length st) (leaving M vs b st gs)
      leave vs b [] e = tt
      leave vs b (g ∷ gs) e = returns (sym e)

      take : (t : Ty) (st' : List Slot) → Stepped ret O (length st) (take1 f.floor st' (λ v r. cond (eqb v.kind (kind_of t)) (leaving M (v ∷ []) f.base st cs) (stops 22)))
      take t [] = λ q. absurd (omega arith)
      take t (v ∷ r) =
          decide (leb f.floor (length r))
          (λ y. rw y (decide (eqb v.kind (kind_of t)) (λ z. rw z (leave (v ∷ []) f.base cs refl)) (λ z. rw z (λ q. absurd (omega arith)))))
          (λ y. rw y (λ q. absurd (omega arith)))

      result : (r : Option Ty) → Stepped ret O (length st) (returning M r st f cs)
      result none = leave [] f.base cs refl
      result (some t) = take t st

      go : (o : Option Function) → Stepped ret O (length st) (maybe o (stops 30) (λ F. returning M F.result st f cs))
      go none = λ q. absurd (omega arith)
      go (some F) = result F.result

  pub exec_step : (i : Instruction) (O : List Ty) (st : List Slot) → At O st → Judged i O → Stepped i O (length st) (exec m cap M i st f cs)
  exec_step (push k) O st a h = push_step k O st a h
  exec_step (load n) O st a h = load_step n O st a h
  exec_step (store n) O st a h = store_step n O st a h
  exec_step (lea n) O st a h = lea_step n O st a h
  exec_step (one o) O st a h = one_step o O st a h
  exec_step (two o) O st a h = two_step o O st a h
  exec_step tload O st a h = tload_step O st a h
  exec_step tstore O st a h = tstore_step O st a h
  exec_step (bump d) O st a h = bump_step d O st a h
  exec_step (jmp l) O st a h = jmp_step l O st a h
  exec_step (branch c l) O st a h = branch_step c l O st a h
  exec_step (call k) O st a h = call_step k O st a h
  exec_step ret O st a h = ret_step O st a
  exec_step (null g) O st a h = null_step g O st a h
  exec_step (new g n) O st a h = new_step g n O st a h
  exec_step delete O st a h = delete_step O st a h
  exec_step (flea n) O st a h = flea_step n O st a h
