-- What `tload`, `tstore`, `inc` and `dec` do, a law for each way out.
use Prim.Native.Nat.{ℕ, suc, ◌+◌, ◌-◌, ◌^◌, ◌≤◌, ◌<◌}
use native.Mathlib.Omega.{arith}
use mathlib.Core.Path.{◌≡◌, refl, sym, ap, ◌∙◌}
use mathlib.Core.Bool.{Bool, false}
use mathlib.Core.List.{List, [], ◌∷◌}
use borrow.Author.Tests.{le-leb, eq-eqb, ne_eqb}
use Rattle.std.specs.Prelude.{Ok, Err}
use Rattle.std.specs.declared.result.Result as code
use Rattle.rules.specs.declared.Exception.{Exception}
use Rattle.rules.specs.Results.{exception_number}
use Rattle.rules.specs.declared.Slot.{Slot}
use Rattle.rules.specs.declared.Unary.TheVariants.{Count}
use Rattle.rules.specs.declared.Instruction.TheVariants.{Tload, Tstore, Bump}
use Rattle.rules.specs.Instructions.{is_pointer}
use Rattle.rules.specs.Tables.{Module}
use Rattle.rules.specs.Stack.{slot, slot_at, slots_of, put}
use Rattle.rules.specs.Heap.{Heap, having, stored}
use Rattle.rules.specs.Heap as rules
use Rattle.rules.specs.Operations.{yields, raises, apply1, bumped}
use Rattle.rules.specs.Machine.{Frame, State, Next, stops, goto, pushing, assign, writing, bumping, as_number, exec_in}
use Rattle.soundness.specs.Tests.{decide, eqb_same}
use Rattle.soundness.specs.Framed.{with_heap}
use Rattle.values.specs.Values.{payload_of, slot_of, result_of}
use Rattle.values.specs.declared.Value.{Value}
use Rattle.state.specs.Slots.{payloads_with, types_with}
use Rattle.state.specs.State.{state_of, moved_to, Ready}
use Rattle.state.specs.declared.Registers.{Registers}
use Rattle.state.specs.declared.Progress.{Progress}
use Rattle.state.specs.declared.Progress.TheVariants.{Goes, Stops}
use Rattle.state.proofs.Stack.{length_slots, take2_short, take1_has, take2_has}
use Rattle.state.proofs.Outcomes.{shifted, dropping, topping, putting}
use Rattle.state.proofs.Families.{types_same, payloads_are}
use Rattle.heap.specs.Blocks.{entry_at}
use Rattle.heap.proofs.Made.{storing}
use Rattle.access.specs.declared.targets.Spot.{Spot}
use Rattle.access.specs.declared.targets.Spot.TheVariants.{OnStack, InHeap}
use Rattle.access.specs.Access.{shelf_of, heap_in, HeapReady, Accessed}
use Rattle.access.specs.Targets.{through, Stands, NamesAt, Names, TopNames, PutAt, PutsAt}
use Rattle.access.proofs.Over.{accessed, stacked, stopped}

-- ---- a payload put where a number stands

module _ (e : State → Next) (cap size : ℕ) (r : Registers) (d f p t g c b : List ℕ) (k : Ready cap r p t f) (o : HeapReady size d g c b) (n : ℕ) (v : Slot) where
  abbrev over : Heap
  over = heap_in size d g c b

  -- v becomes one of its type with the payload y, n slots being left
  pub assigned : (x : Spot) (s : rules.Spot) (q y : ℕ) (p' c' : List ℕ) → n ≤ r.height → r.floor ≤ n → Stands d g p t c b n v x s → y < 2 ^ 64 → PutAt x y p c p' c'
      → e (with_heap over (state_of r p t f)) ≡ assign (with_heap over (state_of r p t f)).memory s (slot v.kind y) (slots_of p t n) (goto q (state_of r p t f).top) (state_of r p t f).callers
      → Accessed e cap size r (Goes (moved_to r q n)) d f p t g c b p' t g c' b
  assigned (OnStack i) s q y p' c' le fl st fits done is =
      rw done.1
      (stacked e cap size r d f p t g c b k o (Goes (moved_to r q n)) p' t (shifted (state_of r p t f) q (put (slots_of p t n) i (slot v.kind y)))
      (putting cap r p t f k (slot v.kind y) i p' t (done.0 ∙ payloads_are p i (slot v.kind y)) (types_same p t i (slot v.kind y) (ap (λ (z : Slot). z.kind) st.2)) fits (omega (arith, st.1, k.high)) q n _ st.1 le fl refl)
      (sym (is ∙ rw st.0 refl)))
  assigned (InHeap x) s q y p' c' le fl st fits done is =
      rw done.0
      (accessed e cap size r d f p t g c b k o (Goes (moved_to r q n)) p t g c' b (shifted (state_of r p t f) q (slots_of p t n))
      (having over (stored over.blocks (entry_at b st.0.entry).serial st.0.offset y))
      (dropping cap r p t f k q n _ le fl refl)
      (storing size (shelf_of g) d c b o.sane st.0.entry st.0.offset y c' st.0.live st.0.inside (rw st.0.at at done.1))
      o.four (sym (is ∙ rw st.1 refl)) tt)

-- ---- through the pointer on top

module _ (m : Module) (cap size : ℕ) (r : Registers) (d f p t g c b : List ℕ) (k : Ready cap r p t f) (o : HeapReady size d g c b) where
  abbrev at : State
  at = with_heap (heap_in size d g c b) (state_of r p t f)

  abbrev after : Frame
  after = goto (r.place + 1) (state_of r p t f).top

  abbrev loads : List Slot → rules.Spot → Slot → Next
  loads st x v = pushing at.memory cap (v ∷ []) st after at.callers

  pub tload_stops : (n : Exception) → TopNames m size d g p t c b r.floor r.height (Err n) → Accessed (exec_in m cap Tload) cap size r (Stops n) d f p t g c b p t g c b
  unfolding exec_in
  tload_stops n y = stopped (exec_in m cap Tload) cap size r d f p t g c b k o n (y loads)

  pub tload_is : (x : Spot) (v : Slot) (p' t' : List ℕ) → TopNames m size d g p t c b r.floor r.height (Ok (x, v))
      → p' ≡ payloads_with p (r.height - 1) v → t' ≡ types_with t (r.height - 1) v → v.payload < 2 ^ 64
      → Accessed (exec_in m cap Tload) cap size r (Goes (moved_to r (r.place + 1) r.height)) d f p t g c b p' t' g c b
  unfolding exec_in
  tload_is x v p' t' y ep et fits =
      let has : r.floor + 1 ≤ r.height = y.0 in
      let up : r.height - 1 + 1 ≡ r.height = omega arith in
      stacked (exec_in m cap Tload) cap size r d f p t g c b k o (Goes (moved_to r (r.place + 1) r.height)) p' t'
      (shifted (state_of r p t f) (r.place + 1) (v ∷ slots_of p t (r.height - 1)))
      (rw up at (topping cap r p t f k v (r.height - 1) p' t' ep et fits (omega (arith, k.high)) (r.place + 1) _ (omega arith) refl))
      (sym (take1_has p t r.floor r.height _ has ∙ y.1.leads (λ z. as_number z (loads (slots_of p t (r.height - 1))))
      ∙ rw (length_slots p t (r.height - 1), le-leb (suc (r.height - 1)) cap (omega (arith, k.high))) refl))

  -- ---- tstore

  abbrev stores : Slot → List Slot → rules.Spot → Slot → Next
  stores v st x old = writing at.memory v old x st after at.callers

  pub tstore_21 : r.height < r.floor + 2 → Accessed (exec_in m cap Tstore) cap size r (Stops Exception.StackEmpty) d f p t g c b p t g c b
  unfolding exec_in
  tstore_21 h = stopped (exec_in m cap Tstore) cap size r d f p t g c b k o Exception.StackEmpty (take2_short p t r.floor r.height _ h)

  module _ (has : r.floor + 2 ≤ r.height) (w v : Slot) (deep : w ≡ slot_at p t (r.height - 2)) (top : v ≡ slot_at p t (r.height - 1)) where
    tstore_takes : exec_in m cap Tstore at ≡ through m (heap_in size d g c b) w (slots_of p t (r.height - 2)) (λ z. as_number z (stores v (slots_of p t (r.height - 2))))
    unfolding exec_in
    tstore_takes = take2_has p t r.floor r.height _ has ∙ rw (← deep, ← top) refl

    pub tstore_stops : (n : Exception) → Names m size d g p t c b (r.height - 2) w (Err n) → Accessed (exec_in m cap Tstore) cap size r (Stops n) d f p t g c b p t g c b
    tstore_stops n y = stopped (exec_in m cap Tstore) cap size r d f p t g c b k o n (tstore_takes ∙ y (stores v (slots_of p t (r.height - 2))))

    module _ (x : Spot) (old : Slot) (y : NamesAt m size d g p t c b (r.height - 2) w old x) where
      tstore_writes : exec_in m cap Tstore at ≡ stores v (slots_of p t (r.height - 2)) y.spot old
      tstore_writes = tstore_takes ∙ y.leads (λ z. as_number z (stores v (slots_of p t (r.height - 2))))

      pub tstore_22 : (v.kind ≡ old.kind → ⊥) → Accessed (exec_in m cap Tstore) cap size r (Stops Exception.StackDifferentType) d f p t g c b p t g c b
      tstore_22 ne = stopped (exec_in m cap Tstore) cap size r d f p t g c b k o Exception.StackDifferentType (tstore_writes ∙ rw (ne_eqb v.kind old.kind ne) refl)

      pub tstore_is : (p' c' : List ℕ) → v.kind ≡ old.kind → v.payload < 2 ^ 64 → PutAt x v.payload p c p' c'
          → Accessed (exec_in m cap Tstore) cap size r (Goes (moved_to r (r.place + 1) (r.height - 2))) d f p t g c b p' t g c' b
      tstore_is p' c' eq fits put =
          assigned (exec_in m cap Tstore) cap size r d f p t g c b k o (r.height - 2) old x y.spot (r.place + 1) v.payload p' c' (omega arith) (omega arith) y.stands fits put
          (tstore_writes ∙ rw (eq-eqb v.kind old.kind eq, ← eq) refl)

  -- ---- inc, dec

  module _ (u : Bool) where
    abbrev bumps : List Slot → rules.Spot → Slot → Next
    bumps st x v = bumping at.memory u x v st after at.callers

    pub bump_stops : (n : Exception) → TopNames m size d g p t c b r.floor r.height (Err n) → Accessed (exec_in m cap (Bump u)) cap size r (Stops n) d f p t g c b p t g c b
    unfolding exec_in
    bump_stops n y = stopped (exec_in m cap (Bump u)) cap size r d f p t g c b k o n (y bumps)

    module _ (x : Spot) (v : Slot) (y : TopNames m size d g p t c b r.floor r.height (Ok (x, v))) where
      bump_takes : exec_in m cap (Bump u) at ≡ bumps (slots_of p t (r.height - 1)) y.1.spot v
      unfolding exec_in
      bump_takes = take1_has p t r.floor r.height _ y.0 ∙ y.1.leads (λ z. as_number z (bumps (slots_of p t (r.height - 1))))

      -- the number, one up or down
      counted : (z : Value) → result_of (Ok z) ≡ apply1 (Count u) v → (is_pointer v.kind ≡ false) × (payload_of z ≡ bumped u v.kind v.payload)
      counted z e = decide (is_pointer v.kind) (λ q. absurd (yields_raises (rw q at e))) (λ q. (q, payload_in (rw (q, eqb_same v.kind) at e)))
        where
          yields_raises : yields (slot_of z ∷ []) ≡ raises 32 → ⊥
          yields_raises e = let q : ◌≡◌ {A = ℕ} 0 1 = cc in omega arith

          payload_in : yields (slot_of z ∷ []) ≡ yields (slot v.kind (bumped u v.kind v.payload) ∷ []) → payload_of z ≡ bumped u v.kind v.payload
          payload_in e = let q : slot_of z ≡ slot v.kind (bumped u v.kind v.payload) = cc in ap (λ (s : Slot). s.payload) q

      pub bump_is : (z : code.Result Value Exception) (a : Progress) (p' c' : List ℕ) → result_of z ≡ apply1 (Count u) v → PutsAt r x z a p c p' c'
          → Accessed (exec_in m cap (Bump u)) cap size r a d f p t g c b p' t g c' b
      bump_is (Ok z) a p' c' e q =
          let has : r.floor + 1 ≤ r.height = y.0 in
          let n = counted z e in
          rw q.0
          (assigned (exec_in m cap (Bump u)) cap size r d f p t g c b k o (r.height - 1) v x y.1.spot (r.place + 1) (payload_of z) p' c' (omega arith) (omega arith) y.1.stands q.2 q.1
          (bump_takes ∙ rw (n.0, n.1) refl))
      bump_is (Err i) a p' c' e q =
          rw (q.0, q.1, q.2)
          (stopped (exec_in m cap (Bump u)) cap size r d f p t g c b k o i (bump_takes ∙ refused))
        where
          refused : bumps (slots_of p t (r.height - 1)) y.1.spot v ≡ stops (exception_number i)
          refused = decide (is_pointer v.kind) (λ n. rw n (raised (rw n at e))) (λ n. absurd (raises_yields (rw (n, eqb_same v.kind) at e)))
            where
              raised : raises (exception_number i) ≡ raises 32 → stops 32 ≡ stops (exception_number i)
              raised e = cc

              raises_yields : raises (exception_number i) ≡ yields (slot v.kind (bumped u v.kind v.payload) ∷ []) → ⊥
              raises_yields e = let q : ◌≡◌ {A = ℕ} 0 1 = cc in omega arith
