-- What a pointer is to, by the code's answers.
use Rattle.std.specs.Prelude.{ℕ, ◌+◌, ◌*◌, ◌-◌, ◌^◌, ◌≤◌, ◌<◌, ◌≡◌, List, length, Ok, Err}
use Rattle.rules.specs.declared.Slot.{Slot}
use Rattle.rules.specs.declared.Num.{Num}
use Rattle.rules.specs.Instructions.{num_kind}
use Rattle.rules.specs.Bytes.{written}
use Rattle.rules.specs.Tables.{Module}
use Rattle.rules.specs.Stack.{slot, slot_at, slots_of}
use Rattle.rules.specs.Heap.{Heap, Target, nowhere, entire, this, on_stack, in_heap, serial_in, offset_in, target_of}
use Rattle.rules.specs.Heap as rules
use Rattle.rules.specs.Machine.{Next, stops, pointing, as_number, take1}
use Rattle.values.specs.Values.{payload_of}
use Rattle.values.specs.declared.Value.{Value}
use Rattle.std.specs.declared.result.Result.{Result}
use Rattle.rules.specs.declared.Exception.{Exception}
use Rattle.rules.specs.Results.{exception_number}
use Rattle.state.specs.State.{moved_to}
use Rattle.state.specs.declared.Registers.{Registers}
use Rattle.state.specs.declared.Progress.{Progress}
use Rattle.state.specs.declared.Progress.TheVariants.{Goes, Stops}
use Rattle.heap.specs.Blocks.{cell_in, entry_at, width_in}
use Rattle.heap.specs.Changes.{CellPut}
use Rattle.access.specs.declared.targets.Aim.{Aim}
use Rattle.access.specs.declared.targets.Aim.TheVariants.{Slot as slotAim, Whole, Cell}
use Rattle.access.specs.declared.targets.Spot.{Spot}
use Rattle.access.specs.declared.targets.Spot.TheVariants.{OnStack, InHeap}
use Rattle.access.specs.Access.{shelf_of, heap_in}

-- what is done with the target of the pointer w, st being the stack left
abbrev pub through : Module → Heap → Slot → List Slot → (Target → Next) → Next
through m h w st k = pointing w (λ a. k (target_of m h st a))

-- the pointer w leads to x
abbrev pub LeadsTo : Module → Heap → Slot → List Slot → Target → Type 0
LeadsTo m h w st x = (k : Target → Next) → through m h w st k ≡ k x

-- cell x is cell `offset` of the live block of entry `entry`, and of this type
pub record CellOf (d g b : List ℕ) (kind x : ℕ) : Type 0 where
  pub entry : ℕ
  pub offset : ℕ
  pub number : Num
  pub live : entry < (shelf_of g).count
  pub inside : offset < width_in d (entry_at b entry).listed
  pub at : x ≡ (entry_at b entry).first + offset
  pub type : num_kind number ≡ kind

-- a pointer to a whole structure of n fields
pub record ToWhole (m : Module) (h : Heap) (w : Slot) (st : List Slot) (n : ℕ) : Type 0 where
  pub fields : List Num
  pub leads : LeadsTo m h w st (entire (serial_in w.payload) fields)
  pub count : length fields ≡ n
  pub few : n < 256
  pub block : offset_in w.payload ≡ 0

-- a pointer to cell x of the heap
pub record ToCell (m : Module) (h : Heap) (w : Slot) (st : List Slot) (d g c b : List ℕ) (kind x : ℕ) : Type 0 where
  pub cell : CellOf d g b kind x
  pub leads : LeadsTo m h w st (this (in_heap (entry_at b cell.entry).serial cell.offset) (slot kind (cell_in c x)))

-- what the pointer w is to, n slots being left
abbrev pub Leads : Module → ℕ → List ℕ → List ℕ → List ℕ → List ℕ → List ℕ → List ℕ → ℕ → Slot → Result Aim Exception → Type 0
Leads m size d g p t c b n w (Ok (slotAim i)) = (i < n) × LeadsTo m (heap_in size d g c b) w (slots_of p t n) (this (on_stack i) (slot_at p t i))
Leads m size d g p t c b n w (Ok (Whole f)) = ToWhole m (heap_in size d g c b) w (slots_of p t n) f
Leads m size d g p t c b n w (Ok (Cell kind x)) = ToCell m (heap_in size d g c b) w (slots_of p t n) d g c b kind x
Leads m size d g p t c b n w (Err e) = (k : Target → Next) → k nowhere ≡ stops 33 → through m (heap_in size d g c b) w (slots_of p t n) k ≡ stops (exception_number e)

-- where the number v stands: the code's words for it, and the rules'
abbrev pub Stands : List ℕ → List ℕ → List ℕ → List ℕ → List ℕ → List ℕ → ℕ → Slot → Spot → rules.Spot → Type 0
Stands d g p t c b n v (OnStack i) s = (s ≡ on_stack i) × (i < n) × (v ≡ slot_at p t i)
Stands d g p t c b n v (InHeap x) s =
    (cell : CellOf d g b v.kind x) × (s ≡ in_heap (entry_at b cell.entry).serial cell.offset) × (v.payload ≡ cell_in c x)

-- the pointer w is to the number v, which stands at x
pub record NamesAt (m : Module) (size : ℕ) (d g p t c b : List ℕ) (n : ℕ) (w v : Slot) (x : Spot) : Type 0 where
  pub spot : rules.Spot
  pub leads : LeadsTo m (heap_in size d g c b) w (slots_of p t n) (this spot v)
  pub stands : Stands d g p t c b n v x spot

abbrev pub Names : Module → ℕ → List ℕ → List ℕ → List ℕ → List ℕ → List ℕ → List ℕ → ℕ → Slot → Result (Spot × Slot) Exception → Type 0
Names m size d g p t c b n w (Ok (x, v)) = NamesAt m size d g p t c b n w v x
Names m size d g p t c b n w (Err e) =
    (k : rules.Spot → Slot → Next) → through m (heap_in size d g c b) w (slots_of p t n) (λ x. as_number x k) ≡ stops (exception_number e)

-- the same of the pointer on top of h slots, in a frame with this floor
abbrev pub TopNames : Module → ℕ → List ℕ → List ℕ → List ℕ → List ℕ → List ℕ → List ℕ → ℕ → ℕ → Result (Spot × Slot) Exception → Type 0
TopNames m size d g p t c b floor h (Ok (x, v)) = (floor + 1 ≤ h) × NamesAt m size d g p t c b (h - 1) (slot_at p t (h - 1)) v x
TopNames m size d g p t c b floor h (Err e) =
    (k : List Slot → rules.Spot → Slot → Next)
    → take1 floor (slots_of p t h) (λ w st. through m (heap_in size d g c b) w st (λ x. as_number x (k st))) ≡ stops (exception_number e)

-- ---- a payload put there

-- lent bytes reach
abbrev pub Reaches : Spot → List ℕ → List ℕ → Type 0
Reaches (OnStack i) p c = i * 8 + 8 ≤ length p
Reaches (InHeap x) p c = x * 8 + 8 ≤ length c

abbrev pub PutAt : Spot → ℕ → List ℕ → List ℕ → List ℕ → List ℕ → Type 0
PutAt (OnStack i) v p c p' c' = (p' ≡ written 8 p (i * 8) v) × (c' ≡ c)
PutAt (InHeap x) v p c p' c' = (p' ≡ p) × CellPut c' c x v

-- the code went on with x's payload there and the pointer gone; or it stopped with x's exception
abbrev pub PutsAt : Registers → Spot → Result Value Exception → Progress → List ℕ → List ℕ → List ℕ → List ℕ → Type 0
PutsAt r at (Ok v) a p c p' c' = (a ≡ Goes (moved_to r (r.place + 1) (r.height - 1))) × PutAt at (payload_of v) p c p' c' × (payload_of v < 2 ^ 64)
PutsAt r at (Err e) a p c p' c' = (a ≡ Stops e) × (p' ≡ p) × (c' ≡ c)
