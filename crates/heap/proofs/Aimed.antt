-- What an address is to, a law for each way out.
use Prim.Native.Nat.{ℕ, zero, suc, ◌+◌, ◌-◌, ◌%◌, ◌≤◌, ◌<◌}
use native.Mathlib.Nat.{add-zero}
use native.Mathlib.Omega.{arith}
use mathlib.Core.Path.{◌≡◌, refl, sym, ap, ◌∙◌}
use mathlib.Core.Bool.{Bool, true, false, cond}
use mathlib.Core.Option.{Option, none, some}
use mathlib.Core.Logic.{⊎_elim}
use mathlib.Core.List.{List}
use lib.ListN.{length, get_or}
use lib.Dec.{eqb}
use borrow.Author.Tests.{eq-eqb, ne_eqb, lt-ltb, le-ltb, lt-leb, le-leb, eqb-true}
use Rattle.rules.specs.declared.Slot.{Slot}
use Rattle.rules.specs.declared.Num.{Num}
use Rattle.rules.specs.Bytes.{maybe, byte}
use Rattle.rules.specs.Instructions.{num_of, num_kind}
use Rattle.rules.specs.Tables.{Module, structure_at, field_of, fields_from}
use Rattle.rules.specs.Stack.{at}
use Rattle.rules.specs.Heap.{Shape, single, fields, shape_of, cells_in, serial_in, offset_in, Target, nowhere, target_in, target_of}
use Rattle.heap.specs.declared.Entry.{Entry}
use Rattle.heap.specs.declared.Shelf.{Shelf}
use Rattle.heap.specs.declared.Target.TheVariants.{Whole, Cell}
use Rattle.heap.specs.Blocks.{cell_in, entry_at, fields_in, size_in, width_in, cells_of, block_of, heap_of, Sane}
use Rattle.heap.specs.Targets.{shape_in, Shapes, Plain, Aims}
use Rattle.heap.proofs.Stores.{split_lt}
use Rattle.heap.proofs.Lists.{get_or_cells, find_none, find_some}

decide : {P : Type 0} (b : Bool) → (b ≡ true → P) → (b ≡ false → P) → P
decide true y n = y refl
decide false y n = n refl

-- ---- fields

length_fields : (d : List ℕ) (a n : ℕ) → length (fields_from d a n) ≡ n
length_fields d a zero = refl
length_fields d a (suc n) = ap suc (length_fields d a n)

at_fields : (d : List ℕ) (a n i : ℕ) → i < n → at (fields_from d a n) i ≡ some (field_of (byte d (a + i)))
at_fields d a zero i h = absurd (omega arith)
at_fields d a (suc n) i h =
    ⊎_elim
    (λ (l : i < n). rw (length_fields d a n, ne_eqb i n (λ e. omega arith)) (at_fields d a n i l))
    (λ (l : n ≤ i). let e : i ≡ n = omega arith in rw (length_fields d a n, eq-eqb i n e) (ap (λ (j : ℕ). some (field_of (byte d (a + j)))) (sym e)))
    (split_lt i n)

at_fields_out : (d : List ℕ) (a n i : ℕ) → n ≤ i → at (fields_from d a n) i ≡ none
at_fields_out d a zero i h = refl
at_fields_out d a (suc n) i h = rw (length_fields d a n, ne_eqb i n (λ e. omega arith)) (at_fields_out d a n i (omega arith))

-- ---- types

-- a number's
number_shape : (d : List ℕ) (n : ℕ) → n < 10 → 1 ≤ size_in d n → (τ : Num) × (shape_in d n ≡ some (single τ)) × (num_kind τ ≡ n) × (size_in d n ≡ 1)
unfolding shape_in size_in fields_in
number_shape d n h w =
    decide (eqb n 3)
    (λ y. let e : n ≡ 3 = eqb-true n 3 y in (field_of 3, rw e refl, rw e refl, rw e refl))
    (λ y. decide (eqb n 4)
    (λ z. let e : n ≡ 4 = eqb-true n 4 z in (field_of 4, rw e refl, rw e refl, rw e refl))
    (λ z. decide (eqb n 6)
    (λ v. let e : n ≡ 6 = eqb-true n 6 v in (field_of 6, rw e refl, rw e refl, rw e refl))
    (λ v. absurd (omega (arith, rw (y, z, v, lt-ltb n 10 h) at w)))))

numbers_low : (n : ℕ) → 10 ≤ n → num_of n ≡ none
numbers_low n h = rw (ne_eqb n 3 (λ e. omega arith), ne_eqb n 4 (λ e. omega arith), ne_eqb n 6 (λ e. omega arith)) refl

-- there are no types from 26 on
pub type_low : (d : List ℕ) (n : ℕ) → 1 ≤ size_in d n → n < 26
unfolding size_in fields_in
type_low d n w =
    ⊎_elim (λ (l : n < 26). l) (λ (l : 26 ≤ n). absurd (omega (arith, rw (numbers_low n (omega arith), le-ltb n 10 (omega arith), le-leb 26 n l) at w)))
    (split_lt n 26)

structure_width : (d : List ℕ) (n : ℕ) → 10 ≤ n → n < 26 → size_in d n ≡ byte d (structure_at (n - 10))
unfolding size_in fields_in
structure_width d n h l = rw (numbers_low n h, le-ltb n 10 h, lt-leb 26 n l) refl

structure_shape : (d : List ℕ) (n : ℕ) → 10 ≤ n → n < 26 → 1 ≤ byte d (structure_at (n - 10))
    → shape_in d n ≡ some (fields (fields_from d (structure_at (n - 10) + 1) (byte d (structure_at (n - 10)))))
unfolding shape_in fields_in
structure_shape d n h l w =
    rw (numbers_low n h, le-ltb n 10 h, lt-leb 26 n l, ne_eqb (byte d (structure_at (n - 10))) 0 (λ e. omega arith)) refl

-- a type that there is not, and one that there is
module _ (d : List ℕ) (n : ℕ) where
  pub shape_none : size_in d n ≡ 0 → shape_in d n ≡ none
  unfolding shape_in size_in
  shape_none e = go (num_of n) e
    where
      go : (o : Option Num) → maybe o (fields_in d n) (λ τ. 1) ≡ 0
          → maybe o (cond (eqb (fields_in d n) 0) none (some (fields (fields_from d (structure_at (n - 10) + 1) (fields_in d n))))) (λ τ. some (single τ)) ≡ none
      go none e = rw (eq-eqb (fields_in d n) 0 e) refl
      go (some τ) e = absurd (omega (arith, e))

  pub shape_some : 1 ≤ size_in d n → (z : Shape) × (shape_in d n ≡ some z) × (cells_in z ≡ size_in d n)
  unfolding shape_in size_in
  shape_some w = go (num_of n) w
    where
      go : (o : Option Num) → 1 ≤ maybe o (fields_in d n) (λ τ. 1)
          → (z : Shape)
          × (maybe o (cond (eqb (fields_in d n) 0) none (some (fields (fields_from d (structure_at (n - 10) + 1) (fields_in d n))))) (λ τ. some (single τ)) ≡ some z)
          × (cells_in z ≡ maybe o (fields_in d n) (λ τ. 1))
      go none w =
          (fields (fields_from d (structure_at (n - 10) + 1) (fields_in d n)), rw (ne_eqb (fields_in d n) 0 (λ e. omega arith)) refl, length_fields d (structure_at (n - 10) + 1) (fields_in d n))
      go (some τ) w = (single τ, refl, refl)

-- a module whose structures d holds
pub module_with : List ℕ → Module
module_with d =
    record {
      edition = 4;
      structure = λ n. cond (eqb (fields_in d n) 0) none (some (fields_from d (structure_at (n - 10) + 1) (fields_in d n)));
      constant = λ k. none;
      function = λ k. none;
      label = λ k. none;
      code = λ p. none;
      entry_end = 0;
      is_place = λ x p. false;
      extent = 0;
    }

pub shapes_with : (d : List ℕ) → Shapes (module_with d) d
unfolding shape_of shape_in module_with
shapes_with d n = ap (λ (s : Option Shape). maybe (num_of n) s (λ τ. some (single τ))) (go (eqb (fields_in d n) 0))
  where
    go : (y : Bool)
        → maybe (cond y none (some (fields_from d (structure_at (n - 10) + 1) (fields_in d n)))) none (λ fs. some (fields fs))
        ≡ cond y none (some (fields (fields_from d (structure_at (n - 10) + 1) (fields_in d n))))
    go true = refl
    go false = refl

pub field_inside : (size : ℕ) (k : Shelf) (d p t : List ℕ) → Sane size k d p t → (i : ℕ) (e : Entry) (count o : ℕ) → i < k.count → e ≡ entry_at t i → 10 ≤ e.listed % 64
    → count ≡ byte d (structure_at (e.listed % 64 - 10)) → o ≤ count → e.first + (o - 1) ≤ 4096
unfolding width_in
field_inside size k d p t s i e count o hi ee large ec l =
    let q : size_in d (e.listed % 64) ≡ size_in d ((entry_at t i).listed % 64) = ap (λ (z : Entry). size_in d (z.listed % 64)) ee in
    let f : e.first ≡ (entry_at t i).first = ap (λ (z : Entry). z.first) ee in
    let below : e.listed % 64 < 26 = type_low d (e.listed % 64) (rw q (s.laid.wide i hi)) in
    omega (arith, structure_width d (e.listed % 64) large below, s.laid.inside i hi, s.laid.top_size, s.small)

-- a record's place is a small number
pub listed_low : (size : ℕ) (k : Shelf) (d p t : List ℕ) → Sane size k d p t → (i : ℕ) (e : Entry) → i < k.count → e ≡ entry_at t i → e.listed % 64 < 26
unfolding width_in
listed_low size k d p t s i e hi ee = rw ee (type_low d ((entry_at t i).listed % 64) (s.laid.wide i hi))

-- ---- addresses

module _ (size : ℕ) (k : Shelf) (d p t : List ℕ) (s : Sane size k d p t) (m : Module) (sh : Shapes m d) (st : List Slot) (a : ℕ) (high : 65536 ≤ a) where
  abbrev x : Target
  x = target_of m (heap_of size k d p t) st a

  above_0 : eqb (serial_in a) 0 ≡ false
  above_0 = ne_eqb (serial_in a) 0 (λ e. omega arith)

  pub aims_none : ((i : ℕ) → i < k.count → (entry_at t i).serial ≡ serial_in a → ⊥) → x ≡ nowhere
  unfolding target_of
  aims_none h = rw (above_0, find_none (width_in d) (cell_in p) (entry_at t) (serial_in a) k.count h) refl

  module _ (i : ℕ) (e : Entry) (hi : i < k.count) (es : (entry_at t i).serial ≡ serial_in a) (ee : e ≡ entry_at t i) where
    listed_is : e.listed ≡ (entry_at t i).listed
    listed_is = ap (λ (z : Entry). z.listed) ee

    first_is : e.first ≡ (entry_at t i).first
    first_is = ap (λ (z : Entry). z.first) ee

    wide : 1 ≤ size_in d (e.listed % 64)
    unfolding width_in
    wide = rw listed_is (s.laid.wide i hi)

    width_same : width_in d (entry_at t i).listed ≡ size_in d (e.listed % 64)
    unfolding width_in
    width_same = rw listed_is refl

    target_is : x ≡ target_in (block_of (width_in d) (cell_in p) (entry_at t i)) (shape_in d (e.listed % 64)) (offset_in a)
    unfolding target_of
    target_is = rw (above_0, find_some (width_in d) (cell_in p) (entry_at t) (serial_in a) k.count s.rising i hi es, sh ((entry_at t i).listed % 64), listed_is) refl

    cell_is : (o : ℕ) → o < width_in d (entry_at t i).listed → get_or (cells_of (cell_in p) (entry_at t i).first (width_in d (entry_at t i).listed)) o 0 ≡ cell_in p ((entry_at t i).first + o)
    cell_is o l = get_or_cells (cell_in p) (width_in d (entry_at t i).listed) (entry_at t i).first o l

    -- a block of a number
    module _ (small : e.listed % 64 < 10) where
      pub aims_number : offset_in a ≡ 0 → Aims x d p t k.count a (Cell (e.listed % 64) e.first)
      aims_number z =
          let q = number_shape d (e.listed % 64) small wide in
          let l : 0 < width_in d (entry_at t i).listed = omega (arith, s.laid.wide i hi) in
          let f : e.first ≡ (entry_at t i).first + 0 = first_is ∙ sym (add-zero (entry_at t i).first) in
          record { entry = i; offset = 0; number = q.0; live = hi; inside = l; serial = es; at = f; type = q.2; is = target_is ∙ rw (q.1, z, q.2, es, cell_is 0 l, f) refl }

      pub aims_past : (offset_in a ≡ 0 → ⊥) → x ≡ nowhere
      aims_past ne =
          let q = number_shape d (e.listed % 64) small wide in
          let z : offset_in a ≡ suc (offset_in a - 1) = ⊎_elim (λ (y : 0 < offset_in a). omega arith) (λ (y : offset_in a ≤ 0). let v : offset_in a ≡ 0 = omega arith in absurd (ne v)) (split_lt 0 (offset_in a)) in
          target_is ∙ rw (q.1, z) refl

    -- a block of a structure
    module _ (large : 10 ≤ e.listed % 64) (count : ℕ) (ec : count ≡ byte d (structure_at (e.listed % 64 - 10))) where
      below : e.listed % 64 < 26
      below = type_low d (e.listed % 64) wide

      count_is : size_in d (e.listed % 64) ≡ count
      count_is = structure_width d (e.listed % 64) large below ∙ sym ec

      shape : shape_in d (e.listed % 64) ≡ some (fields (fields_from d (structure_at (e.listed % 64 - 10) + 1) count))
      shape = structure_shape d (e.listed % 64) large below (omega (arith, wide, structure_width d (e.listed % 64) large below)) ∙ rw (← ec) refl

      pub aims_whole : count < 256 → offset_in a ≡ 0 → Aims x d p t k.count a (Whole count)
      aims_whole few z =
          record {
            fields = fields_from d (structure_at (e.listed % 64 - 10) + 1) count;
            is = target_is ∙ rw (shape, z, es) refl;
            count = length_fields d (structure_at (e.listed % 64 - 10) + 1) count;
            few = few;
            block = z;
          }

      module _ (ne : offset_in a ≡ 0 → ⊥) where
        up : offset_in a ≡ suc (offset_in a - 1)
        up = ⊎_elim (λ (y : 0 < offset_in a). omega arith) (λ (y : offset_in a ≤ 0). let v : offset_in a ≡ 0 = omega arith in absurd (ne v)) (split_lt 0 (offset_in a))

        pub aims_beyond : count < offset_in a → x ≡ nowhere
        aims_beyond l = target_is ∙ rw (shape, up, at_fields_out d (structure_at (e.listed % 64 - 10) + 1) count (offset_in a - 1) (omega arith)) refl

        pub aims_field : Plain d → (kind : ℕ) → offset_in a ≤ count → kind ≡ byte d (structure_at (e.listed % 64 - 10) + offset_in a)
            → Aims x d p t k.count a (Cell kind (e.first + (offset_in a - 1)))
        aims_field plain kind l ek =
            let b : offset_in a - 1 < count = omega (arith, up) in
            let w : offset_in a - 1 < width_in d (entry_at t i).listed = omega (arith, count_is, width_same) in
            let y : structure_at (e.listed % 64 - 10) + offset_in a ≡ structure_at (e.listed % 64 - 10) + 1 + (offset_in a - 1) = omega (arith, up) in
            let v : kind ≡ num_kind (field_of (byte d (structure_at (e.listed % 64 - 10) + 1 + (offset_in a - 1)))) =
            ek ∙ ap (byte d) y ∙ sym (plain (e.listed % 64 - 10) (offset_in a - 1) (omega (arith, ec))) in
            let f : e.first + (offset_in a - 1) ≡ (entry_at t i).first + (offset_in a - 1) = rw first_is refl in
            record {
              entry = i;
              offset = offset_in a - 1;
              number = field_of (byte d (structure_at (e.listed % 64 - 10) + 1 + (offset_in a - 1)));
              live = hi;
              inside = w;
              serial = es;
              at = f;
              type = sym v;
              is = target_is ∙ ap (target_in (block_of (width_in d) (cell_in p) (entry_at t i)) (shape_in d (e.listed % 64))) up
                  ∙ rw (shape, at_fields d (structure_at (e.listed % 64 - 10) + 1) count (offset_in a - 1) b, es, cell_is (offset_in a - 1) w, ← v, f) refl;
            }
