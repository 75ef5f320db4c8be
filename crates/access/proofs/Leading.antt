-- What a pointer is to, a law for each way out.
use Prim.Native.Nat.{ℕ, ◌+◌, ◌*◌, ◌-◌, ◌≤◌, ◌<◌}
use native.Mathlib.Omega.{arith}
use mathlib.Core.Path.{◌≡◌, refl, sym, ap, ◌∙◌}
use mathlib.Core.Bool.{true, false}
use mathlib.Core.Logic.{inl, inr}
use mathlib.Core.List.{List, []}
use lib.ListN.{length}
use borrow.Author.Tests.{eq-eqb, ne_eqb}
use Rattle.std.specs.Prelude.{Ok, Err}
use Rattle.std.specs.declared.result.Result as code
use Rattle.rules.specs.declared.Exception.{Exception}
use Rattle.rules.specs.declared.Slot.{Slot}
use Rattle.rules.specs.declared.Num.{Num}
use Rattle.rules.specs.declared.Num.TheVariants.{Int, Long, Double}
use Rattle.rules.specs.Instructions.{num_kind, is_pointer}
use Rattle.rules.specs.Tables.{Module}
use Rattle.rules.specs.Stack.{slot, slot_at, slots_of}
use Rattle.rules.specs.Heap.{null_address, serial_in, Target, nowhere, this, on_stack, in_heap, target_of}
use Rattle.rules.specs.Heap as rules
use Rattle.rules.specs.Machine.{Next, stops, as_number}
use Rattle.soundness.specs.Kinds.{Kind, Kinded}
use Rattle.state.proofs.Stack.{at_slots, at_slots_out, take1_short, take1_has}
use Rattle.state.proofs.Families.{kind_at}
use Rattle.heap.specs.declared.Shelf.{Shelf}
use Rattle.heap.specs.declared.Target as heap-target
use Rattle.heap.specs.declared.Target.TheVariants.{Lost, Whole as wholeTarget, Cell as cellTarget}
use Rattle.heap.specs.Blocks.{cell_in, entry_at, heap_of, Sane}
use Rattle.heap.proofs.Aimed.{module_with, shapes_with}
use Rattle.heap.specs.Targets.{Shapes, Aims, WholeAt, CellAt}
use Rattle.access.specs.declared.targets.Aim.{Aim}
use Rattle.access.specs.declared.targets.Aim.TheVariants.{Slot as slotAim, Whole, Cell}
use Rattle.access.specs.declared.targets.Spot.{Spot}
use Rattle.access.specs.declared.targets.Spot.TheVariants.{OnStack, InHeap}
use Rattle.access.specs.Access.{shelf_of, heap_in, HeapReady}
use Rattle.access.specs.Targets.{through, LeadsTo, CellOf, ToWhole, ToCell, Leads, NamesAt, Names, Stands, TopNames, Reaches}

-- what the code knows of any module and any stack
abbrev pub Aimed : ℕ → List ℕ → List ℕ → List ℕ → List ℕ → ℕ → Slot → code.Result Aim Exception → Type 0
Aimed size d g c b n w x = (m : Module) → Shapes m d → (p t : List ℕ) → Leads m size d g p t c b n w x

module _ (size : ℕ) (d g c b : List ℕ) (o : HeapReady size d g c b) (n : ℕ) (small : n ≤ 4096) (w : Slot) where
  pub aimed_31 : is_pointer w.kind ≡ false → Aimed size d g c b n w (Err Exception.PointerNotPointer)
  aimed_31 ne m sh p t k e = rw ne refl

  module _ (is : is_pointer w.kind ≡ true) where
    pub aimed_36 : w.payload ≡ null_address → Aimed size d g c b n w (Err Exception.PointerNullPointer)
    aimed_36 q m sh p t k e = rw (is, eq-eqb w.payload null_address q) refl

    module _ (some : w.payload ≡ null_address → ⊥) where
      leads : (m : Module) (st : List Slot) (x : Target) → target_of m (heap_in size d g c b) st w.payload ≡ x → LeadsTo m (heap_in size d g c b) w st x
      leads m st x e k = rw (is, ne_eqb w.payload null_address some) (ap k e)

      pub aimed_slot : w.payload < n → Aimed size d g c b n w (Ok (slotAim w.payload))
      unfolding target_of
      aimed_slot below m sh p t =
          let low : serial_in w.payload ≡ 0 = omega arith in
          (below, leads m (slots_of p t n) (this (on_stack w.payload) (slot_at p t w.payload)) (rw (eq-eqb (serial_in w.payload) 0 low, at_slots p t n w.payload below) refl))

      lost : (m : Module) (st : List Slot) → target_of m (heap_in size d g c b) st w.payload ≡ nowhere → (k : Target → Next) → k nowhere ≡ stops 33
          → through m (heap_in size d g c b) w st k ≡ stops 33
      lost m st e k q = leads m st nowhere e k ∙ q

      pub aimed_low : n ≤ w.payload → w.payload < 65536 → Aimed size d g c b n w (Err Exception.PointerUnknownAddress)
      unfolding target_of
      aimed_low out l m sh p t =
          let low : serial_in w.payload ≡ 0 = omega arith in
          lost m (slots_of p t n) (rw (eq-eqb (serial_in w.payload) 0 low, at_slots_out p t n w.payload out) refl)

      -- what the heap answers
      module _ (q : Shelf) (eq : q ≡ shelf_of g) (y : heap-target.Target)
          (f : (cells : List ℕ) → Sane size q d cells b → (m : Module) → Shapes m d → (st : List Slot)
          → Aims (target_of m (heap_of size q d cells b) st w.payload) d cells b q.count w.payload y) where
        aims : (m : Module) → Shapes m d → (st : List Slot) → Aims (target_of m (heap_in size d g c b) st w.payload) d c b (shelf_of g).count w.payload y
        aims m sh st = rw eq at (f c (rw eq o.sane) m sh st)

        pub aimed_lost : y ≡ Lost → Aimed size d g c b n w (Err Exception.PointerUnknownAddress)
        aimed_lost e m sh p t = lost m (slots_of p t n) (rw e at (aims m sh (slots_of p t n)))

        pub aimed_whole : (x : ℕ) → y ≡ wholeTarget x → Aimed size d g c b n w (Ok (Whole x))
        aimed_whole x e m sh p t = go (rw e at (aims m sh (slots_of p t n)))
          where
            go : WholeAt (target_of m (heap_in size d g c b) (slots_of p t n) w.payload) w.payload x → ToWhole m (heap_in size d g c b) w (slots_of p t n) x
            go a = record { fields = a.fields; leads = leads m (slots_of p t n) _ a.is; count = a.count; few = a.few; block = a.block }

        pub aimed_cell : (kind x : ℕ) → y ≡ cellTarget kind x → Aimed size d g c b n w (Ok (Cell kind x))
        aimed_cell kind x e m sh p t = go (rw e at (aims m sh (slots_of p t n)))
          where
            go : CellAt (target_of m (heap_in size d g c b) (slots_of p t n) w.payload) d c b (shelf_of g).count w.payload kind x
                → ToCell m (heap_in size d g c b) w (slots_of p t n) d g c b kind x
            go a =
                record {
                  cell = record { entry = a.entry; offset = a.offset; number = a.number; live = a.live; inside = a.inside; at = a.at; type = a.type };
                  leads = leads m (slots_of p t n) _ (a.is ∙ ap (λ (s : ℕ). this (in_heap s a.offset) (slot kind (cell_in c x))) (sym a.serial));
                }

-- ---- a number

module _ (m : Module) (size : ℕ) (d g p t c b : List ℕ) (n : ℕ) (w : Slot) (x : Aim) (l : Leads m size d g p t c b n w (Ok x)) where
  pub named_slot : (i : ℕ) (v : Slot) → x ≡ slotAim i → v ≡ slot_at p t i → Names m size d g p t c b n w (Ok (OnStack i, v))
  named_slot i v e held = go (rw e at l)
    where
      go : Leads m size d g p t c b n w (Ok (slotAim i)) → NamesAt m size d g p t c b n w v (OnStack i)
      go y = record { spot = on_stack i; leads = rw held y.1; stands = (refl, y.0, held) }

  pub named_whole : (f : ℕ) → x ≡ Whole f → Names m size d g p t c b n w (Err Exception.PointerWholeStructure)
  named_whole f e = go (rw e at l)
    where
      go : Leads m size d g p t c b n w (Ok (Whole f)) → Names m size d g p t c b n w (Err Exception.PointerWholeStructure)
      go y k = y.leads (λ z. as_number z k)

  pub named_cell : (kind i v : ℕ) → x ≡ Cell kind i → v ≡ cell_in c i → Names m size d g p t c b n w (Ok (InHeap i, slot kind v))
  named_cell kind i v e held = go (rw e at l)
    where
      go : Leads m size d g p t c b n w (Ok (Cell kind i)) → NamesAt m size d g p t c b n w (slot kind v) (InHeap i)
      go y =
          record {
            spot = in_heap (entry_at b y.cell.entry).serial y.cell.offset;
            leads = rw held y.leads;
            stands = (y.cell, refl, held);
          }

pub named_none : (m : Module) (size : ℕ) (d g p t c b : List ℕ) (n : ℕ) (w : Slot) (e : Exception) → Leads m size d g p t c b n w (Err e) → Names m size d g p t c b n w (Err e)
named_none m size d g p t c b n w e y k = y (λ z. as_number z k) refl

-- lent bytes reach what a pointer is to
module _ (size : ℕ) (d g c b : List ℕ) (o : HeapReady size d g c b) (n : ℕ) (w : Slot) where
  pub slot_low : (x : Aim) (i : ℕ) → Aimed size d g c b n w (Ok x) → x ≡ slotAim i → i < n
  slot_low x i a e = go (rw e at (a (module_with d) (shapes_with d) [] []))
    where
      go : Leads (module_with d) size d g [] [] c b n w (Ok (slotAim i)) → i < n
      go y = y.0

  pub cell_low : {kind x : ℕ} → CellOf d g b kind x → x * 8 + 8 ≤ length c
  cell_low y = omega (arith, y.at, y.inside, o.sane.laid.inside y.entry y.live, o.sane.laid.top_size, o.sane.room_cells)

  pub cell_reached : (x : Aim) (kind i : ℕ) → Aimed size d g c b n w (Ok x) → x ≡ Cell kind i → i * 8 + 8 ≤ length c
  cell_reached x kind i a e = go (rw e at (a (module_with d) (shapes_with d) [] []))
    where
      go : Leads (module_with d) size d g [] [] c b n w (Ok (Cell kind i)) → i * 8 + 8 ≤ length c
      go y = cell_low y.cell

-- ---- of the pointer on top

module _ (m : Module) (size : ℕ) (d g p t c b : List ℕ) (floor h : ℕ) where
  pub top_short : h < floor + 1 → TopNames m size d g p t c b floor h (Err Exception.StackEmpty)
  top_short l k = take1_short p t floor h _ l

  pub top_names : (w : Slot) (x : code.Result (Spot × Slot) Exception) → floor + 1 ≤ h → w ≡ slot_at p t (h - 1) → Names m size d g p t c b (h - 1) w x → TopNames m size d g p t c b floor h x
  top_names w (Ok (x, v)) has e y = (has, rw e at y)
  top_names w (Err n) has e y = λ k. take1_has p t floor h _ has ∙ rw (← e) (y (k (slots_of p t (h - 1))))

-- ---- a spot by its case

pub stack_reached : {x : Spot} {i : ℕ} (p c : List ℕ) → x ≡ OnStack i → Reaches x p c → i * 8 + 8 ≤ length p
stack_reached p c e l = rw e at l

pub heap_reached : {x : Spot} {i : ℕ} (p c : List ℕ) → x ≡ InHeap i → Reaches x p c → i * 8 + 8 ≤ length c
heap_reached p c e l = rw e at l

-- ---- an answer by its case, what it reaches, what it holds

num_kind_lem : (τ : Num) → Kind (num_kind τ)
num_kind_lem Int = inl refl
num_kind_lem Long = inr (inl refl)
num_kind_lem Double = inr (inr (inl refl))

stands_reach : (size : ℕ) (d g p t c b : List ℕ) (n : ℕ) (v : Slot) (x : Spot) (s : rules.Spot) → HeapReady size d g c b → n * 8 ≤ length p → Stands d g p t c b n v x s → Reaches x p c
stands_reach size d g p t c b n v (OnStack i) s o l st = omega (arith, st.1)
stands_reach size d g p t c b n v (InHeap x) s o l st = cell_low size d g c b o n v st.0

module _ (size : ℕ) (d g p t c b : List ℕ) (n : ℕ) (w : Slot) (x : code.Result (Spot × Slot) Exception) (l : (m : Module) → Shapes m d → Names m size d g p t c b n w x) where
  pub names_at : (m : Module) → Shapes m d → (y : Spot) (v : Slot) → x ≡ Ok (y, v) → NamesAt m size d g p t c b n w v y
  names_at m sh y v e = rw e at (l m sh)

  pub names_nowhere : (m : Module) → Shapes m d → (e : Exception) → x ≡ Err e → Names m size d g p t c b n w (Err e)
  names_nowhere m sh e q = rw q at (l m sh)

  pub names_reach : (y : Spot) (v : Slot) → x ≡ Ok (y, v) → HeapReady size d g c b → n * 8 ≤ length p → Reaches y p c
  names_reach y v e o h = let z = names_at (module_with d) (shapes_with d) y v e in stands_reach size d g p t c b n v y z.spot o h z.stands

module _ (size : ℕ) (d g p t c b : List ℕ) (floor h : ℕ) (x : code.Result (Spot × Slot) Exception) (l : (m : Module) → Shapes m d → TopNames m size d g p t c b floor h x) where
  pub top_at : (m : Module) → Shapes m d → (y : Spot) (v : Slot) → x ≡ Ok (y, v) → TopNames m size d g p t c b floor h (Ok (y, v))
  top_at m sh y v e = rw e at (l m sh)

  pub top_nowhere : (m : Module) → Shapes m d → (e : Exception) → x ≡ Err e → TopNames m size d g p t c b floor h (Err e)
  top_nowhere m sh e q = rw q at (l m sh)

  pub top_reach : (y : Spot) (v : Slot) → x ≡ Ok (y, v) → HeapReady size d g c b → h * 8 ≤ length p → (floor + 1 ≤ h) × Reaches y p c
  top_reach y v e o k =
      let z = top_at (module_with d) (shapes_with d) y v e in
      (z.0, stands_reach size d g p t c b (h - 1) v y z.1.spot o (let has = z.0 in omega arith) z.1.stands)

  -- what it holds is a value
  pub top_kind : (y : Spot) (v : Slot) → x ≡ Ok (y, v) → Kinded (slots_of p t h) → Kind v.kind
  top_kind y v e ks = let z = top_at (module_with d) (shapes_with d) y v e in go y z.1.spot z.1.stands
    where
      go : (y : Spot) (s : rules.Spot) → Stands d g p t c b (h - 1) v y s → Kind v.kind
      go (OnStack i) s st = kind_at p t h i ks (let low = st.1 in omega arith) st.2
      go (InHeap i) s st = rw (← st.0.type) (num_kind_lem st.0.number)
