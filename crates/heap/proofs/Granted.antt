-- What `new` does, a law for each way out.
use Prim.Native.Nat.{ℕ, suc, ◌+◌, ◌*◌, ◌%◌, ◌≤◌, ◌<◌}
use native.Mathlib.Numerals.{add-one}
use native.Mathlib.Omega.{arith}
use mathlib.Core.Path.{◌≡◌, refl, sym, ap, ◌∙◌}
use mathlib.Core.Option.{none}
use mathlib.Core.Bool.{Bool, true, false}
use mathlib.Core.Logic.{⊎_elim}
use mathlib.Core.List.{List}
use lib.Dec.{leb}
use borrow.Author.Tests.{lt-ltb, le-ltb, lt-leb, le-leb}
use Rattle.rules.specs.Heap.{Heap, place_for, serial_limit}
use Rattle.heap.specs.declared.Entry.{Entry}
use Rattle.heap.specs.declared.Shelf.{Shelf}
use Rattle.heap.specs.declared.Room.{Room}
use Rattle.std.specs.Prelude.{Some, None}
use Rattle.std.specs.declared.option.Option as found
use Rattle.heap.specs.declared.Grant.{Grant}
use Rattle.heap.specs.Blocks.{entry_at, size_in, listed_as, width_in, heap_of, Sane}
use Rattle.heap.specs.Changes.{EntryPut, Makes}
use Rattle.heap.specs.Rooms.{Fitting, Finds, room_of}
use Rattle.heap.specs.Grants.{Grants}
use Rattle.heap.proofs.Stores.{split_lt}
use Rattle.heap.proofs.Giving.{room_left, given_blocks, given_rising, given_laid}

-- ---- a type number, listed and back

listed_back : (g : Bool) (n : ℕ) → n < 64 → (listed_as g n % 64 ≡ n) × (leb 64 (listed_as g n) ≡ g) × (listed_as g n < 128)
listed_back false n h = (omega arith, lt-leb 64 n h, omega arith)
listed_back true n h = (omega arith, le-leb 64 (64 + n) (omega arith), omega arith)

listed_width : (d : List ℕ) (g : Bool) (n : ℕ) → n < 64 → width_in d (listed_as g n) ≡ size_in d n
unfolding width_in
listed_width d g n h = ap (size_in d) (listed_back g n h).0

-- ---- new

abbrev pub null_grant : Shelf → Grant
null_grant k = record { address = 0xffffffffffffffff; shelf = k }

module _ (size : ℕ) (k : Shelf) (d p t : List ℕ) (s : Sane size k d p t) where
  abbrev h : Heap
  h = heap_of size k d p t

  same : Makes size k d p t p t h
  same = record { heap = refl; sane = s; past_cells = refl; past_table = refl; same_cells = refl; same_table = refl }

  refused : (g : Bool) (n : ℕ) → place_for h (size_in d n) ≡ none → Grants size k d p t t g n (null_grant k)
  refused g n e = record { makes = rw e same; address = rw e refl }

  pub new_spent : (g : Bool) (n : ℕ) → serial_limit ≤ k.next → Grants size k d p t t g n (null_grant k)
  new_spent g n o = refused g n (rw (le-ltb k.next serial_limit o) refl)

  module _ (g : Bool) (n w : ℕ) (en : w ≡ size_in d n) (below : k.next < serial_limit) (r : found.Option Room) (f : Finds size k d p t w r) where
    place_is : place_for h (size_in d n) ≡ room_of r
    place_is = rw (lt-ltb k.next serial_limit below, ← en) (sym f.is)

    pub new_none : r ≡ None → Grants size k d p t t g n (null_grant k)
    new_none e = refused g n (place_is ∙ ap room_of e)

    module _ (a : Room) (e : r ≡ Some a) (wide : 1 ≤ w) where
      fit : Fitting (width_in d) (entry_at t) size k.count k.top w a.first a.low a.top
      fit = rw e at f.fits

      pub new_room : k.count < size
      new_room = room_left s.laid fit wide

      pub new_block : (t' : List ℕ) (l : ℕ) → l ≡ listed_as g n → n < 64 → EntryPut t' t k.count (record { serial = k.next; first = a.first; listed = l })
          → Grants size k d p t t' g n (record { address = k.next * 65536; shelf = record { count = k.count + 1; next = k.next + 1; low = a.low; top = a.top } })
      new_block t' l el low-type put =
          let back = listed_back g n low-type in
          let of_w : width_in d l ≡ w = ap (width_in d) el ∙ listed_width d g n low-type ∙ sym en in
          let known : l < 128 = omega (arith, el, back.2) in
          let added : Entry = record { serial = k.next; first = a.first; listed = l } in
          let type_is : l % 64 ≡ n = ap (λ (x : ℕ). x % 64) el ∙ back.0 in
          let managed_is : leb 64 l ≡ g = ap (leb 64) el ∙ back.1 in
          record {
            makes = record {
              heap = rw (place_is ∙ ap room_of e, add-one k.count, add-one k.next, ← en)
                  (ap (λ bs. record { size = size; blocks = bs; next = suc k.next })
                  (given_blocks s.laid fit wide (entry_at t') added put.same put.other refl of_w known ∙ rw (type_is, managed_is) refl));
              sane = record {
                small = s.small;
                room_cells = s.room_cells;
                room_table = omega (arith, s.room_table, put.same_length);
                few = omega (arith, new_room);
                next_1 = omega arith;
                to_limit = omega arith;
                rising = rw (add-one k.count, add-one k.next) (given_rising s.laid fit wide (entry_at t') added put.same put.other refl of_w known s.rising refl s.next_1);
                laid = rw (add-one k.count) (given_laid s.laid fit wide (entry_at t') added put.same put.other refl of_w known);
              };
              past_cells = refl;
              past_table = put.past (size * 24) (omega (arith, new_room));
              same_cells = refl;
              same_table = put.same_length;
            };
            address = rw (place_is ∙ ap room_of e) refl;
          }

  -- no run: null, whether serials are left or not
  pub new_nowhere : (g : Bool) (n w : ℕ) → w ≡ size_in d n → Finds size k d p t w None → Grants size k d p t t g n (null_grant k)
  new_nowhere g n w en f =
      ⊎_elim
      (λ (a : k.next < serial_limit). new_none g n w en a None f refl)
      (λ (a : serial_limit ≤ k.next). new_spent g n a)
      (split_lt k.next serial_limit)
