-- From the heap that `gcnew` frees and packs, or `new` takes as it is, to the block that is given.
use Prim.Native.Nat.{ℕ, ◌≤◌, ◌<◌}
use mathlib.Core.Path.{◌≡◌, refl, sym, ap, ◌∙◌, subst}
use mathlib.Core.Bool.{Bool, true, false}
use mathlib.Core.Option.{Option, none, some}
use mathlib.Core.List.{List}
use Rattle.rules.specs.declared.Slot.{Slot}
use Rattle.rules.specs.Heap.{Heap, having, lowest_run, swept, packed}
use Rattle.heap.specs.declared.Shelf.{Shelf}
use Rattle.heap.specs.declared.Grant.{Grant}
use Rattle.heap.specs.declared.Room.{Room}
use Rattle.std.specs.Prelude.{Some, None}
use Rattle.std.specs.declared.option.Option as found
use Rattle.heap.specs.Blocks.{heap_of, Sane}
use Rattle.heap.specs.Changes.{Makes}
use Rattle.heap.specs.Rooms.{Finds}
use Rattle.heap.specs.Grants.{Grants, Gives, swept_for, packed_for, source}
use Rattle.heap.proofs.Giving.{room_left}

-- ---- one heap made, and another from it

pub unmade : {size : ℕ} {k : Shelf} {d p t : List ℕ} → Sane size k d p t → Makes size k d p t p t (heap_of size k d p t)
unmade s = record { heap = refl; sane = s; past_cells = refl; past_table = refl; same_cells = refl; same_table = refl }

made_then : {size : ℕ} {k q : Shelf} {d p t p₁ t₁ p₂ t₂ : List ℕ} {h i : Heap} → Makes size k d p t p₁ t₁ h → Makes size q d p₁ t₁ p₂ t₂ i → Makes size q d p t p₂ t₂ i
made_then x y =
    record {
      heap = y.heap;
      sane = y.sane;
      past_cells = y.past_cells ∙ x.past_cells;
      past_table = y.past_table ∙ x.past_table;
      same_cells = y.same_cells ∙ x.same_cells;
      same_table = y.same_table ∙ x.same_table;
    }

module _ {size : ℕ} {q : Shelf} {d p t p₁ t₁ t₂ : List ℕ} {g : Bool} {n : ℕ} {r : Grant} where
  pub gives_from : {from : Heap} → Makes size q d p t p₁ t₁ from → Grants size q d p₁ t₁ t₂ g n r → Gives size d p t p₁ t₂ from g n r
  gives_from m y = record { makes = rw (← m.heap) (made_then m y.makes); address = rw (← m.heap) y.address }

  pub gives_then : {p₂ : List ℕ} {h from from' : Heap} → Makes size q d p t p₁ t₁ h → from ≡ from' → Gives size d p₁ t₁ p₂ t₂ from g n r → Gives size d p t p₂ t₂ from' g n r
  gives_then {p₂} m e y = subst (λ (z : Heap). Gives size d p t p₂ t₂ z g n r) e (record { makes = made_then m y.makes; address = y.address })

-- ---- a flag that was tested

pub makes_for : (F : Bool → Heap) {u v : Bool} {size : ℕ} {q : Shelf} {d p t p' t' : List ℕ} → u ≡ v → Makes size q d p t p' t' (F v) → Makes size q d p t p' t' (F u)
makes_for F {u} {v} {size} {q} {d} {p} {t} {p'} {t'} e x = subst (λ (b : Bool). Makes size q d p t p' t' (F b)) (sym e) x

pub gives_for : (F : Bool → Heap) {u v : Bool} {size n : ℕ} {r : Grant} {d p t p' t' : List ℕ} → u ≡ v → Gives size d p t p' t' (F v) v n r → Gives size d p t p' t' (F u) u n r
gives_for F {u} {v} {size} {n} {r} {d} {p} {t} {p'} {t'} e x = subst (λ (b : Bool). Gives size d p t p' t' (F b) b n r) (sym e) x

-- ---- the heap that a block is given from: a run is there, or none

module _ (size : ℕ) (k : Shelf) (d p t : List ℕ) (st : List Slot) (n : ℕ) (q : Shelf) (p₁ t₁ : List ℕ) where
  abbrev h : Heap
  h = heap_of size k d p t

  abbrev left : Heap
  left = heap_of size q d p₁ t₁

  abbrev freed : Heap
  freed = having h (swept st h.blocks)

  run_is : Makes size q d p t p₁ t₁ freed → (o : Option ℕ) → o ≡ lowest_run left n → lowest_run freed n ≡ o
  run_is m o e = sym (ap (λ (z : Heap). lowest_run z n) m.heap) ∙ sym e

  some_left : (g : Bool) → Makes size q d p t p₁ t₁ (swept_for g st h) → (c : ℕ) → some c ≡ lowest_run left n → left ≡ source g n st h
  some_left false m c e = m.heap
  some_left true m c e = m.heap ∙ rw (run_is m (some c) e) refl

  none_left : (g : Bool) → Makes size q d p t p₁ t₁ (swept_for g st h) → none ≡ lowest_run left n → packed_for g left ≡ source g n st h
  none_left false m e = m.heap
  none_left true m e = ap (λ (z : Heap). having z (packed z.blocks)) m.heap ∙ rw (run_is m none e) refl

  pub source_room : (g : Bool) → Makes size q d p t p₁ t₁ (swept_for g st h) → (a : Room) → Finds size q d p₁ t₁ n (Some a) → left ≡ source g n st h
  source_room g m a f = some_left g m a.first f.is

  pub source_none : (g : Bool) → Makes size q d p t p₁ t₁ (swept_for g st h) → Finds size q d p₁ t₁ n None → packed_for g left ≡ source g n st h
  source_none g m f = none_left g m f.is

-- what was found, as it is known
pub found_as : {size : ℕ} {k : Shelf} {d p t : List ℕ} {n : ℕ} {r o : found.Option Room} → r ≡ o → Finds size k d p t n r → Finds size k d p t n o
found_as {size} {k} {d} {p} {t} {n} e f = subst (λ (x : found.Option Room). Finds size k d p t n x) e f

pub found_of : {size : ℕ} {k : Shelf} {d p t : List ℕ} {n w : ℕ} {r : found.Option Room} → n ≡ w → Finds size k d p t n r → Finds size k d p t w r
found_of {size} {k} {d} {p} {t} {n} {w} {r} e f = subst (λ (x : ℕ). Finds size k d p t x r) e f

-- an entry is left where there is a run
pub room_of_lem : {size : ℕ} {k : Shelf} {d p t : List ℕ} {n : ℕ} {a : Room} → Sane size k d p t → Finds size k d p t n (Some a) → 1 ≤ n → k.count < size
room_of_lem s f wide = room_left s.laid f.fits wide
