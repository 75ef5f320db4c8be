-- What `null`, `new`, `delete`, `flea`, `gcnull` and `gcnew` do, a law for each way out.
use Prim.Native.Nat.{ℕ, suc, ◌+◌, ◌*◌, ◌-◌, ◌^◌, ◌≤◌, ◌<◌}
use native.Mathlib.Omega.{arith}
use mathlib.Core.Path.{◌≡◌, refl, sym, ap, ◌∙◌, subst}
use mathlib.Core.Bool.{Bool, true, false, cond}
use mathlib.Core.Logic.{⊎_elim}
use mathlib.Core.List.{List, [], ◌∷◌}
use lib.ListN.{length}
use lib.Dec.{ltb}
use borrow.Author.Tests.{lt-ltb, le-ltb, le-leb, lt-leb, eq-eqb, ne_eqb}
use Rattle.std.specs.Prelude.{Ok, Err}
use Rattle.std.specs.declared.result.Result as code
use Rattle.rules.specs.declared.Exception.{Exception}
use Rattle.rules.specs.declared.Slot.{Slot}
use Rattle.rules.specs.declared.Num.{Num}
use Rattle.rules.specs.declared.Instruction.{Instruction}
use Rattle.rules.specs.declared.Instruction.TheVariants.{Null, New, Delete, Flea}
use Rattle.rules.specs.Bytes.{written}
use Rattle.rules.specs.Instructions.{ptr_kind, size}
use Rattle.rules.specs.Tables.{Module}
use Rattle.rules.specs.Stack.{slot, slot_at, slots_of}
use Rattle.rules.specs.Heap.{Heap, null_address, serial_in, field_address, having, without, is_given, place_for, heap_with, empty_heap}
use Rattle.rules.specs.Machine.{Memory, Frame, State, Next, stops, goto, pushing, creating_in, creating, deleting, as_structure, exec_in}
use Rattle.soundness.specs.Framed.{with_heap, onto}
use Rattle.state.specs.Slots.{payloads_with, types_with}
use Rattle.state.specs.State.{state_of, moved_to, Ready, DoesOver}
use Rattle.state.specs.declared.Registers.{Registers}
use Rattle.state.specs.declared.Progress.TheVariants.{Goes, Stops}
use Rattle.state.proofs.Stack.{split_lt, length_slots, take1_short, take1_has}
use Rattle.state.proofs.Outcomes.{shifted, over_every, stopping_over, dropping, topping}
use Rattle.state.proofs.Families.{types_same, payloads_are}
use Rattle.heap.specs.declared.Entry.{Entry}
use Rattle.std.specs.Prelude.{Some, None}
use Rattle.std.specs.declared.option.Option.{Option}
use Rattle.heap.specs.declared.Grant.{Grant}
use Rattle.heap.specs.declared.Shelf.{Shelf}
use Rattle.heap.specs.Blocks.{entry_at, size_in, heap_of}
use Rattle.heap.specs.Changes.{Makes, Given}
use Rattle.heap.specs.Grants.{Gives, source}
use Rattle.heap.specs.Targets.{Shapes}
use Rattle.heap.proofs.Aimed.{shape_none, shape_some, module_with, shapes_with}
use Rattle.access.specs.declared.targets.Aim.{Aim}
use Rattle.access.specs.declared.targets.Aim.TheVariants.{Slot as slotAim, Whole, Cell}
use Rattle.access.specs.Access.{shelf_of, heap_in, HeapReady, Accessed}
use Rattle.access.specs.Targets.{through, ToWhole, Leads}
use Rattle.access.proofs.Over.{accessed, stacked, stopped}
use Rattle.access.proofs.Leading.{Aimed}

-- a type that there is
pub some_width : (d : List ℕ) (n w : ℕ) → w ≡ size_in d n → (w ≡ 0 → ⊥) → 1 ≤ size_in d n
some_width d n w e ne = ⊎_elim (λ (l : 0 < w). omega (arith, e)) (λ (l : w ≤ 0). let z : w ≡ 0 = omega arith in absurd (ne z)) (split_lt 0 w)

-- `new` and `gcnew`, from the heap that they give from
creates_from : (M : Memory) (cap : ℕ) (u : Bool) (n w : ℕ) (st : List Slot) (f : Frame) (cs : List Frame)
    → creating M cap u n w st f cs ≡ creating_in M cap u n w (source u w st M.heap) st f cs
creates_from M cap false n w st f cs = refl
creates_from M cap true n w st f cs = refl

-- what `delete` takes is live
pub given_live : (h : Heap) (E : ℕ → Entry) (n a i : ℕ) (x : Option ℕ) → Given h E n a x → x ≡ Some i → i < n
given_live h E n a i x y e = go (rw e at y)
  where
    go : (i < n) × ((E i).serial ≡ serial_in a) × (is_given h a ≡ true) → i < n
    go z = z.0

module _ (m : Module) (cap : ℕ) (r : Registers) (f p t : List ℕ) (k : Ready cap r p t f) where
  abbrev after : Instruction → Frame
  after i = goto (r.place + size i) (state_of r p t f).top

  -- ---- null

  module _ (u : Bool) where
    abbrev pub null_slot : Slot
    null_slot = slot (ptr_kind u) null_address

    pub null_full : cap ≤ r.height → DoesOver cap r (Stops Exception.StackOverflow) p t f p t f (exec_in m cap (Null u))
    unfolding exec_in
    null_full h = stopping_over cap r p t f k Exception.StackOverflow (exec_in m cap (Null u)) (λ g. rw (length_slots p t r.height, lt-leb (suc r.height) cap (omega arith)) refl)

    -- k₀: the type number, as the code has it
    pub null_is : (k₀ : ℕ) → k₀ ≡ ptr_kind u → (p' t' : List ℕ) → r.height < cap
        → p' ≡ payloads_with p r.height (slot k₀ null_address) → t' ≡ types_with t r.height (slot k₀ null_address)
        → DoesOver cap r (Goes (moved_to r (r.place + 1) (r.height + 1))) p t f p' t' f (exec_in m cap (Null u))
    unfolding exec_in
    null_is k₀ e p' t' h ep et =
        let y : Next = shifted (state_of r p t f) (r.place + 1) (null_slot ∷ slots_of p t r.height) in
        let does : (g : Heap) → exec_in m cap (Null u) (with_heap g (state_of r p t f)) ≡ onto g y =
        λ g. rw (length_slots p t r.height, le-leb (suc r.height) cap (omega arith)) refl in (
          topping cap r p t f k null_slot r.height p' t' (subst (λ (x : ℕ). p' ≡ payloads_with p r.height (slot x null_address)) e ep)
              (subst (λ (x : ℕ). t' ≡ types_with t r.height (slot x null_address)) e et) (omega arith) h (r.place + 1) _ (omega (arith, k.over)) (does (empty_heap 0)),
          over_every (exec_in m cap (Null u)) (state_of r p t f) y does,
        )

  module _ (size : ℕ) (d g c b : List ℕ) (o : HeapReady size d g c b) where
    abbrev heap : Heap
    heap = heap_in size d g c b

    abbrev at : State
    at = with_heap heap (state_of r p t f)

    -- ---- new

    module _ (sh : Shapes m d) (u : Bool) (n : ℕ) where
      pub new_37 : size_in d n ≡ 0 → Accessed (exec_in m cap (New u n)) cap size r (Stops Exception.TypeOutOfRange) d f p t g c b p t g c b
      unfolding exec_in
      new_37 e = stopped (exec_in m cap (New u n)) cap size r d f p t g c b k o Exception.TypeOutOfRange (rw (sh n, shape_none d n e) refl)

      module _ (w : 1 ≤ size_in d n) where
        -- the heap that the block is from
        abbrev from : Heap
        from = source u (size_in d n) (slots_of p t r.height) heap

        new_creates : exec_in m cap (New u n) at ≡ creating_in at.memory cap u n (size_in d n) from (slots_of p t r.height) (after (New u n)) at.callers
        unfolding exec_in
        new_creates =
            let z = shape_some d n w in
            rw (sh n, z.1, z.2) (creates_from at.memory cap u n (size_in d n) (slots_of p t r.height) (after (New u n)) at.callers)

        pub new_20 : cap ≤ r.height → Accessed (exec_in m cap (New u n)) cap size r (Stops Exception.StackOverflow) d f p t g c b p t g c b
        new_20 h =
            stopped (exec_in m cap (New u n)) cap size r d f p t g c b k o Exception.StackOverflow
            (new_creates ∙ rw (length_slots p t r.height, lt-leb (suc r.height) cap (omega arith)) refl)

        module _ (a : Grant) where
          abbrev granted : Slot
          granted = slot (ptr_kind u) a.address

          pub new_is : (k₀ : ℕ) → k₀ ≡ ptr_kind u → (p' t' g' c' b' : List ℕ) → r.height < cap → Gives size d c b c' b' from u n a → shelf_of g' ≡ a.shelf → length g' ≡ 4
              → p' ≡ payloads_with p r.height (slot k₀ a.address) → t' ≡ types_with t r.height (slot k₀ a.address) → a.address < 2 ^ 64
              → Accessed (exec_in m cap (New u n)) cap size r (Goes (moved_to r (r.place + 5) (r.height + 1))) d f p t g c b p' t' g' c' b'
          new_is k₀ e p' t' g' c' b' h y eg four ep et fits =
              accessed (exec_in m cap (New u n)) cap size r d f p t g c b k o (Goes (moved_to r (r.place + 5) (r.height + 1))) p' t' g' c' b'
              (shifted (state_of r p t f) (r.place + 5) (granted ∷ slots_of p t r.height))
              (heap_with from n u (size_in d n) (place_for from (size_in d n)))
              (topping cap r p t f k granted r.height p' t' (subst (λ (x : ℕ). p' ≡ payloads_with p r.height (slot x a.address)) e ep)
              (subst (λ (x : ℕ). t' ≡ types_with t r.height (slot x a.address)) e et) fits h (r.place + 5) _ (omega (arith, k.over)) refl)
              (rw eg y.makes) four
              (sym (new_creates ∙ rw (length_slots p t r.height, le-leb (suc r.height) cap (omega arith), ← y.address) refl)) tt

    -- ---- delete

    pub delete_21 : r.height < r.floor + 1 → Accessed (exec_in m cap Delete) cap size r (Stops Exception.StackEmpty) d f p t g c b p t g c b
    unfolding exec_in
    delete_21 h = stopped (exec_in m cap Delete) cap size r d f p t g c b k o Exception.StackEmpty (take1_short p t r.floor r.height _ h)

    module _ (has : r.floor + 1 ≤ r.height) (w : Slot) (top : w ≡ slot_at p t (r.height - 1)) where
      delete_takes : exec_in m cap Delete at ≡ deleting at.memory w (slots_of p t (r.height - 1)) (after Delete) at.callers
      unfolding exec_in
      delete_takes = take1_has p t r.floor r.height _ has ∙ rw (← top) refl

      pub delete_31 : (w.kind ≡ 7 → ⊥) → Accessed (exec_in m cap Delete) cap size r (Stops Exception.PointerNotPointer) d f p t g c b p t g c b
      delete_31 ne = stopped (exec_in m cap Delete) cap size r d f p t g c b k o Exception.PointerNotPointer (delete_takes ∙ rw (ne_eqb w.kind 7 ne) refl)

      module _ (is : w.kind ≡ 7) where
        pub delete_null : w.payload ≡ null_address → Accessed (exec_in m cap Delete) cap size r (Goes (moved_to r (r.place + 1) (r.height - 1))) d f p t g c b p t g c b
        delete_null e =
            stacked (exec_in m cap Delete) cap size r d f p t g c b k o (Goes (moved_to r (r.place + 1) (r.height - 1))) p t
            (shifted (state_of r p t f) (r.place + 1) (slots_of p t (r.height - 1)))
            (dropping cap r p t f k (r.place + 1) (r.height - 1) _ (omega arith) (omega arith) refl)
            (sym (delete_takes ∙ rw (eq-eqb w.kind 7 is, eq-eqb w.payload null_address e) refl))

        module _ (some : w.payload ≡ null_address → ⊥) (q : Shelf) (eq : q ≡ shelf_of g) (x : Option ℕ) (y : Given (heap_of size q d c b) (entry_at b) q.count w.payload x) where
          pub delete_33 : x ≡ None → Accessed (exec_in m cap Delete) cap size r (Stops Exception.PointerUnknownAddress) d f p t g c b p t g c b
          delete_33 e = go (rw (e, eq) at y)
            where
              go : is_given heap w.payload ≡ false → Accessed (exec_in m cap Delete) cap size r (Stops Exception.PointerUnknownAddress) d f p t g c b p t g c b
              go n = stopped (exec_in m cap Delete) cap size r d f p t g c b k o Exception.PointerUnknownAddress (delete_takes ∙ rw (eq-eqb w.kind 7 is, ne_eqb w.payload null_address some, n) refl)

          pub delete_is : (i : ℕ) → x ≡ Some i → (l : Shelf) (g' c' b' : List ℕ)
              → Makes size l d c b c' b' (having (heap_of size q d c b) (without (heap_of size q d c b).blocks (entry_at b i).serial)) → shelf_of g' ≡ l → length g' ≡ 4
              → Accessed (exec_in m cap Delete) cap size r (Goes (moved_to r (r.place + 1) (r.height - 1))) d f p t g c b p t g' c' b'
          delete_is i e l g' c' b' makes eg four = go (rw (e, eq) at y) (rw eq at makes)
            where
              go : (i < (shelf_of g).count) × ((entry_at b i).serial ≡ serial_in w.payload) × (is_given heap w.payload ≡ true)
                  → Makes size l d c b c' b' (having heap (without heap.blocks (entry_at b i).serial))
                  → Accessed (exec_in m cap Delete) cap size r (Goes (moved_to r (r.place + 1) (r.height - 1))) d f p t g c b p t g' c' b'
              go z made =
                  accessed (exec_in m cap Delete) cap size r d f p t g c b k o (Goes (moved_to r (r.place + 1) (r.height - 1))) p t g' c' b'
                  (shifted (state_of r p t f) (r.place + 1) (slots_of p t (r.height - 1)))
                  (having heap (without heap.blocks (entry_at b i).serial))
                  (dropping cap r p t f k (r.place + 1) (r.height - 1) _ (omega arith) (omega arith) refl)
                  (rw eg made) four
                  (sym (delete_takes ∙ rw (eq-eqb w.kind 7 is, ne_eqb w.payload null_address some, z.2, ← z.1) refl)) tt

    -- ---- flea

    module _ (n : ℕ) where
      abbrev enters : ℕ → List Slot → ℕ → List Num → Next
      enters kind st s fs = cond (ltb n (length fs)) (pushing at.memory cap (slot kind (field_address s n) ∷ []) st (after (Flea n)) at.callers) (stops 38)

      pub flea_21 : r.height < r.floor + 1 → Accessed (exec_in m cap (Flea n)) cap size r (Stops Exception.StackEmpty) d f p t g c b p t g c b
      unfolding exec_in
      flea_21 h = stopped (exec_in m cap (Flea n)) cap size r d f p t g c b k o Exception.StackEmpty (take1_short p t r.floor r.height _ h)

      module _ (has : r.floor + 1 ≤ r.height) (w : Slot) (top : w ≡ slot_at p t (r.height - 1)) (x : code.Result Aim Exception) (l : Leads m size d g p t c b (r.height - 1) w x) where
        flea_takes : exec_in m cap (Flea n) at ≡ through m heap w (slots_of p t (r.height - 1)) (λ z. as_structure z (enters w.kind (slots_of p t (r.height - 1))))
        unfolding exec_in
        flea_takes = take1_has p t r.floor r.height _ has ∙ rw (← top) refl

        pub flea_slot : (i : ℕ) → x ≡ Ok (slotAim i) → Accessed (exec_in m cap (Flea n)) cap size r (Stops Exception.PointerNotStructure) d f p t g c b p t g c b
        flea_slot i e = go (rw e at l)
          where
            go : Leads m size d g p t c b (r.height - 1) w (Ok (slotAim i)) → Accessed (exec_in m cap (Flea n)) cap size r (Stops Exception.PointerNotStructure) d f p t g c b p t g c b
            go y = stopped (exec_in m cap (Flea n)) cap size r d f p t g c b k o Exception.PointerNotStructure (flea_takes ∙ y.1 (λ z. as_structure z (enters w.kind (slots_of p t (r.height - 1)))))

        pub flea_cell : (kind i : ℕ) → x ≡ Ok (Cell kind i) → Accessed (exec_in m cap (Flea n)) cap size r (Stops Exception.PointerNotStructure) d f p t g c b p t g c b
        flea_cell kind i e = go (rw e at l)
          where
            go : Leads m size d g p t c b (r.height - 1) w (Ok (Cell kind i)) → Accessed (exec_in m cap (Flea n)) cap size r (Stops Exception.PointerNotStructure) d f p t g c b p t g c b
            go y = stopped (exec_in m cap (Flea n)) cap size r d f p t g c b k o Exception.PointerNotStructure (flea_takes ∙ y.leads (λ z. as_structure z (enters w.kind (slots_of p t (r.height - 1)))))

        pub flea_stops : (i : Exception) → x ≡ Err i → Accessed (exec_in m cap (Flea n)) cap size r (Stops i) d f p t g c b p t g c b
        flea_stops i e = go (rw e at l)
          where
            go : Leads m size d g p t c b (r.height - 1) w (Err i) → Accessed (exec_in m cap (Flea n)) cap size r (Stops i) d f p t g c b p t g c b
            go y = stopped (exec_in m cap (Flea n)) cap size r d f p t g c b k o i (flea_takes ∙ y (λ z. as_structure z (enters w.kind (slots_of p t (r.height - 1)))) refl)

        module _ (count : ℕ) (e : x ≡ Ok (Whole count)) where
          whole : ToWhole m heap w (slots_of p t (r.height - 1)) count
          whole = rw e at l

          flea_enters : exec_in m cap (Flea n) at ≡ enters w.kind (slots_of p t (r.height - 1)) (serial_in w.payload) whole.fields
          flea_enters = flea_takes ∙ whole.leads (λ z. as_structure z (enters w.kind (slots_of p t (r.height - 1))))

          pub flea_38 : count ≤ n → Accessed (exec_in m cap (Flea n)) cap size r (Stops Exception.FieldOutOfRange) d f p t g c b p t g c b
          flea_38 h =
              stopped (exec_in m cap (Flea n)) cap size r d f p t g c b k o Exception.FieldOutOfRange
              (flea_enters ∙ rw (whole.count, le-ltb n count h) refl)

          pub flea_is : (p' : List ℕ) → n < count → p' ≡ written 8 p ((r.height - 1) * 8) (w.payload + 1 + n) → w.payload + 1 + n < 2 ^ 64
              → Accessed (exec_in m cap (Flea n)) cap size r (Goes (moved_to r (r.place + 5) r.height)) d f p t g c b p' t g c b
          flea_is p' h ep fits =
              let up : r.height - 1 + 1 ≡ r.height = omega arith in
              let v : Slot = slot w.kind (w.payload + 1 + n) in
              let address : w.payload + 1 + n ≡ field_address (serial_in w.payload) n = omega (arith, whole.block) in
              stacked (exec_in m cap (Flea n)) cap size r d f p t g c b k o (Goes (moved_to r (r.place + 5) r.height)) p' t
              (shifted (state_of r p t f) (r.place + 5) (v ∷ slots_of p t (r.height - 1)))
              (rw up at (topping cap r p t f k v (r.height - 1) p' t (ep ∙ payloads_are p (r.height - 1) v)
              (types_same p t (r.height - 1) v (ap (λ (z : Slot). z.kind) top)) fits (omega (arith, k.high)) (r.place + 5) _ (omega arith) refl))
              (sym (flea_enters ∙ rw (whole.count, lt-ltb n count h, length_slots p t (r.height - 1), le-leb (suc (r.height - 1)) cap (omega (arith, k.high)), address) refl))

-- the address of a field is no more than a word
pub address_fits : (size : ℕ) (d g c b : List ℕ) (n : ℕ) (w : Slot) (x : code.Result Aim Exception) (count i : ℕ) → Aimed size d g c b n w x → x ≡ Ok (Whole count) → w.payload < 2 ^ 64 → i < count
    → w.payload + 1 + i < 2 ^ 64
address_fits size d g c b n w x count i a e fits h = go (rw e at (a (module_with d) (shapes_with d) [] []))
  where
    go : ToWhole (module_with d) (heap_in size d g c b) w (slots_of [] [] n) count → w.payload + 1 + i < 2 ^ 64
    go y = omega (arith, y.few, y.block)
