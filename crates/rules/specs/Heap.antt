-- 02, A6 and A9: the heap. Blocks by serial, addresses, what `new`, `delete`, `gcnew` do to the blocks, and the heap as it is lent.
-- A block holds its cells' payloads itself, so a heap is its blocks: which cells they lie in decides only where the next one
-- goes, and what the lent memory shows.
use Rattle.std.specs.Prelude.{ℕ, zero, suc, ◌+◌, ◌*◌, ◌-◌, ◌/◌, ◌%◌, min, Bool, true, false, not, ◌&&◌, ◌||◌, cond, List, [], ◌∷◌, ◌++◌, length, get_or, set, drop, ltb, leb, eqb}
use Rattle.std.proofs.Math.Option.{Option, none, some}
use Rattle.rules.specs.Bytes.{maybe, within, bytes, zeros}
use Rattle.rules.specs.Instructions.{Num, num_kind, num_of, Pointee, cell, struct}
use Rattle.rules.specs.Tables.{Module}
use Rattle.rules.specs.Stack.{Slot, slot, at}

-- ---- addresses: "A pointer's payload is its block's serial times 65,536, plus 0 for the whole block or 1 + field. .. stack
-- pointers have serial 0 and their slot; null is all ones."

abbrev pub serial_in : ℕ → ℕ
serial_in a = a / 65536

abbrev pub offset_in : ℕ → ℕ
offset_in a = a % 65536

abbrev pub block_address : ℕ → ℕ
block_address s = s * 65536

abbrev pub field_address : ℕ → ℕ → ℕ
field_address s i = s * 65536 + suc i

abbrev pub null_address : ℕ
null_address = 0xffffffffffffffff

-- "serials (to 2^48 - 2)": the first that is not given
abbrev pub serial_limit : ℕ
serial_limit = 0xffffffffffff

-- ---- shapes: what a type number is to the heap, a number or a structure of these fields, the last one first

pub data Shape : Type 0 where
  single : Num → Shape
  fields : List Num → Shape

-- "`new` also takes 3, 4 and 6"; none for a type number that there is not: 37
unfoldable pub shape_of : Module → ℕ → Option Shape
shape_of m n = maybe (num_of n) (maybe (m.structure n) none (λ fs. some (fields fs))) (λ τ. some (single τ))

-- "8-byte cells, holding payloads as slots do"
abbrev pub cells_in : Shape → ℕ
cells_in (single τ) = 1
cells_in (fields fs) = length fs

abbrev pub pointee_in : ℕ → Shape → Pointee
pointee_in n (single τ) = cell τ
pointee_in n (fields fs) = struct n

-- ---- blocks

-- from: its first cell; type: its type number; managed: given by `gcnew`; cells: the payloads, field 0's first
pub record Block : Type 0 where
  pub serial : ℕ
  pub from : ℕ
  pub type : ℕ
  pub managed : Bool
  pub cells : List ℕ

-- size: the cells that are lent; blocks: the live ones, the highest serial first; next: the serial that the next one will have
pub record Heap : Type 0 where
  pub size : ℕ
  pub blocks : List Block
  pub next : ℕ

abbrev pub having : Heap → List Block → Heap
having h bs = record { size = h.size; blocks = bs; next = h.next }

-- "Serials count a run's blocks from 1, as given"
abbrev pub empty_heap : ℕ → Heap
empty_heap n = record { size = n; blocks = []; next = 1 }

-- the live block of a serial
abbrev pub find : List Block → ℕ → Option Block
find [] s = none
find (b ∷ bs) s = cond (eqb b.serial s) (some b) (find bs s)

-- ---- what an address is

-- a number on the stack, or field i (0 for a block of a number) of the block of serial s
pub data Spot : Type 0 where
  on_stack : ℕ → Spot
  in_heap : ℕ → ℕ → Spot

-- no live thing (33); a whole structure; a number, where it is and what it holds
pub data Target : Type 0 where
  nowhere : Target
  entire : ℕ → List Num → Target
  this : Spot → Slot → Target

abbrev pub field_in : Block → ℕ → Num → Target
field_in b i τ = this (in_heap b.serial i) (slot (num_kind τ) (get_or b.cells i 0))

-- "A heap pointer to no live block, or no field of it, is 33". A block's type is always one that there is.
abbrev pub target_in : Block → Option Shape → ℕ → Target
target_in b none o = nowhere
target_in b (some (single τ)) zero = field_in b 0 τ
target_in b (some (single τ)) (suc i) = nowhere
target_in b (some (fields fs)) zero = entire b.serial fs
target_in b (some (fields fs)) (suc i) = maybe (at fs i) nowhere (λ τ. field_in b i τ)

-- st is the stack left after the operands are taken: "an address not below the height left .. is 33"
unfoldable pub target_of : Module → Heap → List Slot → ℕ → Target
target_of m h st a =
    cond (eqb (serial_in a) 0) (maybe (at st a) nowhere (λ w. this (on_stack a) w))
    (maybe (find h.blocks (serial_in a)) nowhere (λ b. target_in b (shape_of m b.type) (offset_in a)))

-- a payload written into a cell of the block of serial s
abbrev pub with_cell : Block → ℕ → ℕ → Block
with_cell b i x = record { serial = b.serial; from = b.from; type = b.type; managed = b.managed; cells = set b.cells i x }

abbrev pub stored : List Block → ℕ → ℕ → ℕ → List Block
stored [] s i x = []
stored (b ∷ bs) s i x = cond (eqb b.serial s) (with_cell b i x ∷ bs) (b ∷ stored bs s i x)

-- ---- `new`: "takes the lowest run of free cells that fits and clears it; it gives null exactly when there is none or serials
-- (to 2^48 - 2) have run out"

-- n cells from c on are in no block
abbrev pub apart : ℕ → ℕ → List Block → Bool
apart c n [] = true
apart c n (b ∷ bs) = (leb (c + n) b.from || leb (b.from + length b.cells) c) && apart c n bs

abbrev pub free : Heap → ℕ → ℕ → Bool
free h n c = leb (c + n) h.size && apart c n h.blocks

-- the lowest number below k that passes the test
unfoldable pub lowest_below : ℕ → (ℕ → Bool) → Option ℕ
lowest_below zero f = none
lowest_below (suc k) f = elim (lowest_below k f) [ some i ↦ some i | none ↦ within (f k) k ]

unfoldable pub lowest_run : Heap → ℕ → Option ℕ
lowest_run h n = lowest_below h.size (free h n)

-- the first cell of a new block of n cells; none where `new` gives null
abbrev pub place_for : Heap → ℕ → Option ℕ
place_for h n = cond (ltb h.next serial_limit) (lowest_run h n) none

-- the heap after `new` of n cells of type t, and the address that it gives
abbrev pub heap_with : Heap → ℕ → Bool → ℕ → Option ℕ → Heap
heap_with h t g n none = h
heap_with h t g n (some c) =
    record { size = h.size; blocks = record { serial = h.next; from = c; type = t; managed = g; cells = zeros n } ∷ h.blocks; next = suc h.next }

abbrev pub address_given : Heap → Option ℕ → ℕ
address_given h none = null_address
address_given h (some c) = block_address h.next

-- ---- `delete`: "takes only what `new` gave, else 33"

abbrev pub is_given : Heap → ℕ → Bool
is_given h a = eqb (offset_in a) 0 && maybe (find h.blocks (serial_in a)) false (λ b. not b.managed)

abbrev pub without : List Block → ℕ → List Block
without [] s = []
without (b ∷ bs) s = cond (eqb b.serial s) (without bs s) (b ∷ without bs s)

-- ---- `gcnew`: "first frees the dead blocks, then packs the rest, managed or not, toward cell 0 in serial order if no run is long
-- enough, then does as `new`"

-- "it is dead when no type 8 slot below the height holds its serial"
abbrev pub held : List Slot → ℕ → Bool
held [] s = false
held (v ∷ st) s = (eqb v.kind 8 && eqb (serial_in v.payload) s) || held st s

abbrev pub swept : List Slot → List Block → List Block
swept st [] = []
swept st (b ∷ bs) = cond (not b.managed || held st b.serial) (b ∷ swept st bs) (swept st bs)

-- the cells of all blocks; each block goes right after those of lower serials
abbrev pub total : List Block → ℕ
total [] = 0
total (b ∷ bs) = length b.cells + total bs

abbrev pub moved : Block → ℕ → Block
moved b c = record { serial = b.serial; from = c; type = b.type; managed = b.managed; cells = b.cells }

abbrev pub packed : List Block → List Block
packed [] = []
packed (b ∷ bs) = moved b (total bs) ∷ packed bs

-- before `gcnew` of n cells does as `new`
abbrev pub roomy : ℕ → Heap → Heap
roomy n h = maybe (lowest_run h n) (having h (packed h.blocks)) (λ c. h)

abbrev pub collected : ℕ → List Slot → Heap → Heap
collected n st h = roomy n (having h (swept st h.blocks))

-- ---- the lent heap: "8-byte cells .., with a lent table of 24-byte block entries (serial, first cell, type, 8 bytes each, little
-- endian); capacity is the smaller count, at most 4,096, the rest untouched"

pub record LentHeap : Type 0 where
  pub cells : List ℕ
  pub table : List ℕ

abbrev pub heap_capacity : LentHeap → ℕ
heap_capacity y = min (min (length y.cells / 8) (length y.table / 24)) 4096

-- "After a run the table lists the live blocks by serial; other entries and free cells are zero." A managed one is listed "with 64
-- added to its type".
abbrev pub listed_type : Block → ℕ
listed_type b = cond b.managed (64 + b.type) b.type

unfoldable pub entries : List Block → List ℕ
entries [] = []
entries (b ∷ bs) = entries bs ++ (bytes 8 b.serial ++ (bytes 8 b.from ++ bytes 8 (listed_type b)))

-- the payload in cell c
abbrev pub cell_at : List Block → ℕ → ℕ
cell_at [] c = 0
cell_at (b ∷ bs) c = cond (leb b.from c && ltb c (b.from + length b.cells)) (get_or b.cells (c - b.from) 0) (cell_at bs c)

unfoldable pub cell_bytes : List Block → ℕ → List ℕ
cell_bytes bs zero = []
cell_bytes bs (suc n) = cell_bytes bs n ++ bytes 8 (cell_at bs n)

unfoldable pub table_after : ℕ → List Block → List ℕ → List ℕ
table_after cap bs t = entries bs ++ (zeros (24 * (cap - length bs)) ++ drop (24 * cap) t)

unfoldable pub cells_after : ℕ → List Block → List ℕ → List ℕ
cells_after cap bs p = cell_bytes bs cap ++ drop (8 * cap) p

abbrev pub lent_heap_after : Heap → LentHeap → LentHeap
lent_heap_after h y =
    record { cells = cells_after (heap_capacity y) h.blocks y.cells; table = table_after (heap_capacity y) h.blocks y.table }
