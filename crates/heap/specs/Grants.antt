-- What `new` and `gcnew` do.
use Rattle.std.specs.Prelude.{ℕ, ◌≤◌, ◌≡◌, Bool, true, false, List, Some}
use Rattle.rules.specs.declared.Slot.{Slot}
use Rattle.rules.specs.Heap.{Heap, having, swept, packed, collected, place_for, heap_with, address_given}
use Rattle.heap.specs.declared.Shelf.{Shelf}
use Rattle.heap.specs.declared.Grant.{Grant}
use Rattle.heap.specs.declared.Room.{Room}
use Rattle.heap.specs.Blocks.{size_in, heap_of, Sane}
use Rattle.heap.specs.Changes.{Makes}
use Rattle.heap.specs.Rooms.{Finds}

-- a block of type number n, managed where g: its cells, the heap with it and its address are the rules'
pub record Grants (size : ℕ) (k : Shelf) (d p t t' : List ℕ) (g : Bool) (n : ℕ) (r : Grant) : Type 0 where
  pub makes : Makes size r.shelf d p t p t' (heap_with (heap_of size k d p t) n g (size_in d n) (place_for (heap_of size k d p t) (size_in d n)))
  pub address : r.address ≡ address_given (heap_of size k d p t) (place_for (heap_of size k d p t) (size_in d n))

-- the same where a run is at hand, whatever the heap is
abbrev pub GrantsAt : Shelf → Room → List ℕ → List ℕ → Bool → ℕ → Grant → Type 0
GrantsAt k a t t' g n r =
    (size : ℕ) (d p : List ℕ) → Sane size k d p t → Finds size k d p t (size_in d n) (Some a) → 1 ≤ size_in d n → Grants size k d p t t' g n r

-- ---- `gcnew`, where g; else `new`: the heap h after dead blocks are freed, after the others are packed, and the one that n cells are
-- given from, st being the stack

abbrev pub swept_for : Bool → List Slot → Heap → Heap
swept_for false st h = h
swept_for true st h = having h (swept st h.blocks)

abbrev pub packed_for : Bool → Heap → Heap
packed_for false h = h
packed_for true h = having h (packed h.blocks)

abbrev pub source : Bool → ℕ → List Slot → Heap → Heap
source false n st h = h
source true n st h = collected n st h

-- a block of type number n from that heap: what is made of the lent bytes, and the address
pub record Gives (size : ℕ) (d p t p' t' : List ℕ) (from : Heap) (g : Bool) (n : ℕ) (r : Grant) : Type 0 where
  pub makes : Makes size r.shelf d p t p' t' (heap_with from n g (size_in d n) (place_for from (size_in d n)))
  pub address : r.address ≡ address_given from (place_for from (size_in d n))
