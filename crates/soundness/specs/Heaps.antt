-- Laws of the heap: what an address is to, and what `new`, `delete`, `gcnew` and writes do to blocks and addresses.
use Rattle.std.specs.Prelude.{◌≡◌, refl, ◌≢◌, ◌⊎◌, Bool, true, false, List, [], ◌∷◌, length, get_or, set, ltb, eqb}
use Rattle.std.proofs.Common.{sym, ap, ◌∙◌, inl, inr, arith, get_or-set_same, get_or-set_other}
use Rattle.std.proofs.Math.Path.{subst}
use Prim.Native.Nat.{ℕ, zero, suc, ◌+◌, ◌≤◌, ◌<◌}
use Rattle.std.proofs.Math.Option.{Option, none, some}
use Rattle.std.proofs.lemmas.List.{length-replicate}
use Rattle.std.proofs.Math.Seq.{set_out}
use Rattle.soundness.specs.Names.{Slot, Num}
use Rattle.rules.specs.Bytes.{maybe, zeros}
use Rattle.rules.specs.Instructions.{Pointee, void, cell, struct, num_kind, num_of}
use Rattle.rules.specs.Tables.{Module}
use Rattle.rules.specs.Stack.{slot, at}
use Rattle.rules.specs.Heap.{serial_in, offset_in, block_address, field_address, null_address, Shape, single, fields, shape_of, cells_in, pointee_in, Block, Heap, having, find, Spot, on_stack, in_heap, nowhere, this, field_in, target_in, target_of, with_cell, stored, place_for, heap_with, address_given, without, total, moved, packed, lowest_run, collected, apart, serial_limit}
use Rattle.rules.specs.Machine.{Next, stops, as_number, as_structure}
use Rattle.rules.specs.Claims.{Each, HeapLaid, cell_type}
use Rattle.soundness.specs.Layout.{each_find, each_stored, each_without, each_collected, each_map, find_serial, collected_next, run_is_free, laid_without, laid_stored, laid_collected}
use Rattle.soundness.specs.Tests.{decide, none_some, some_inj, eqb_is, eqb_isnt, eqb_other, ltb_is, ltb_isnt}

-- ---- what an address is to, of a shape

-- the number at an offset: 0 for the whole block, 1 + field
abbrev pub offset_type : Option Shape → ℕ → Option Num
offset_type none o = none
offset_type (some (single τ)) zero = some τ
offset_type (some (single τ)) (suc i) = none
offset_type (some (fields fs)) zero = none
offset_type (some (fields fs)) (suc i) = at fs i

-- an offset into a block of type t is to a number, or to the whole structure
abbrev pub Fits : Option Shape → ℕ → ℕ → Pointee → Type 0
Fits z t o void = ⊥
Fits z t o (cell τ) = offset_type z o ≡ some τ
Fits z t o (struct k) = (t ≡ k) × (o ≡ 0)

abbrev pub BlockFits : Module → ℕ → Pointee → Block → Type 0
BlockFits m a w b = b.serial ≡ serial_in a → Fits (shape_of m b.type) b.type (offset_in a) w

-- an address of the heap: null, or of a block that was given, which is of this type if it still lives. Only in edition 4.
abbrev pub Address : Module → Heap → ℕ → Pointee → Type 0
Address m h a w =
    (m.edition ≡ 4) × ((a ≡ null_address) ⊎ ((65536 ≤ a) × (serial_in a < h.next) × Each (BlockFits m a w) h.blocks))

-- every address of the heap is above every slot's number, so it names none
pub heap_names_none : (m : Module) (h : Heap) (a : ℕ) (w : Pointee) → Address m h a w → 65536 ≤ a
heap_names_none m h a w d = go d.1
  where
    go : (a ≡ null_address) ⊎ ((65536 ≤ a) × (serial_in a < h.next) × Each (BlockFits m a w) h.blocks) → 65536 ≤ a
    go (inl e) = omega arith
    go (inr x) = x.0

-- one that is not null
pub parts : (m : Module) (h : Heap) (a : ℕ) (w : Pointee) → Address m h a w → a ≢ null_address → (serial_in a < h.next) × Each (BlockFits m a w) h.blocks
parts m h a w d ne = go d.1
  where
    go : (a ≡ null_address) ⊎ ((65536 ≤ a) × (serial_in a < h.next) × Each (BlockFits m a w) h.blocks) → (serial_in a < h.next) × Each (BlockFits m a w) h.blocks
    go (inl e) = absurd (ne e)
    go (inr x) = (x.1, x.2)

-- a structure's shape is its fields
pub shape_structure : (m : Module) (k : ℕ) (fs : List Num) → shape_of m k ≡ some (fields fs) → m.structure k ≡ some fs
unfolding shape_of
shape_structure m k fs e = go (num_of k) (m.structure k) e
  where
    clash : (τ : Num) → ◌≡◌ {A = Shape} (single τ) (fields fs) → ⊥
    clash τ q = let z : ◌≡◌ {A = ℕ} 0 1 = cc in omega arith

    fields_inj : (a b : List Num) → fields a ≡ fields b → a ≡ b
    fields_inj a b q = cc

    go : (o : Option Num) (z : Option (List Num)) → maybe o (maybe z none (λ fs. some (fields fs))) (λ τ. some (single τ)) ≡ some (fields fs) → z ≡ some fs
    go (some τ) z q = absurd (clash τ (some_inj (single τ) (fields fs) q))
    go none none q = none_some q
    go none (some gs) q = ap some (fields_inj gs fs (some_inj (fields gs) (fields fs) q))

-- ---- an address stays one

module _ (m : Module) (h : Heap) (a : ℕ) (w : Pointee) where
  -- other blocks, of which each that has this serial fits
  pub address_blocks : (h' : Heap) → h.next ≤ h'.next → (serial_in a < h.next → Each (BlockFits m a w) h.blocks → Each (BlockFits m a w) h'.blocks) → Address m h a w → Address m h' a w
  address_blocks h' l k d = (d.0, go d.1)
    where
      go : (a ≡ null_address) ⊎ ((65536 ≤ a) × (serial_in a < h.next) × Each (BlockFits m a w) h.blocks)
          → (a ≡ null_address) ⊎ ((65536 ≤ a) × (serial_in a < h'.next) × Each (BlockFits m a w) h'.blocks)
      go (inl e) = inl e
      go (inr x) = let y : serial_in a < h.next = x.1 in inr (x.0, omega arith, k y x.2)

  pub address_stored : (s i x : ℕ) → Address m h a w → Address m (having h (stored h.blocks s i x)) a w
  address_stored s i x =
      address_blocks (having h (stored h.blocks s i x)) (omega arith)
      (λ l e. each_stored (BlockFits m a w) h.blocks s i x e (λ b q. each_find (BlockFits m a w) h.blocks s b e q))

  pub address_without : (s : ℕ) → Address m h a w → Address m (having h (without h.blocks s)) a w
  address_without s = address_blocks (having h (without h.blocks s)) (omega arith) (λ l e. each_without (BlockFits m a w) h.blocks s e)

  pub address_collected : (n : ℕ) (st : List Slot) → Address m h a w → Address m (collected n st h) a w
  address_collected n st =
      let q : (collected n st h).next ≡ h.next = (collected_next n st h).0 in
      address_blocks (collected n st h) (omega arith) (λ l e. each_collected (BlockFits m a w) (λ b c k. k) n st h e)

  pub address_given_lem : (t : ℕ) (g : Bool) (n : ℕ) (o : Option ℕ) → Address m h a w → Address m (heap_with h t g n o) a w
  address_given_lem t g n none d = d
  address_given_lem t g n (some c) d = address_blocks (heap_with h t g n (some c)) (omega arith) (λ l e. ((λ q. absurd (omega arith)), e)) d

-- the address that `new` gives
pub given_address : (m : Module) (h : Heap) (t : ℕ) (g : Bool) (z : Shape) (o : Option ℕ) → m.edition ≡ 4 → shape_of m t ≡ some z → 1 ≤ h.next
    → Each (λ b. b.serial < h.next) h.blocks → Address m (heap_with h t g (cells_in z) o) (address_given h o) (pointee_in t z)
given_address m h t g z none e q l f = (e, inl refl)
given_address m h t g z (some c) e q l f =
    let a : ℕ = block_address h.next in
    let r : serial_in a ≡ h.next = omega arith in
    let o : offset_in a ≡ 0 = omega arith in
    (e, inr (omega arith, omega arith, ((λ k. rw (q, o) (fitting z)), each_map (λ b. b.serial < h.next) (BlockFits m a (pointee_in t z)) (λ b k p. absurd (omega arith)) h.blocks f)))
  where
    fitting : (z : Shape) → Fits (some z) t 0 (pointee_in t z)
    fitting (single τ) = refl
    fitting (fields fs) = (refl, refl)

-- ---- what stands at an address

-- x holds w: a slot of st, or a cell of a live block
pub data Spotted (m : Module) (h : Heap) (st : List Slot) : Spot → Slot → Type 0 where
  at_slot : (s : ℕ) (w : Slot) → at st s ≡ some w → Spotted m h st (on_stack s) w
  at_cell : (b : Block) (i : ℕ) (τ : Num) → find h.blocks b.serial ≡ some b → cell_type (shape_of m b.type) i ≡ some τ
      → Spotted m h st (in_heap b.serial i) (slot (num_kind τ) (get_or b.cells i 0))

module _ (m : Module) (h : Heap) (st : List Slot) (a : ℕ) (Q : Next → Type 0) where
  found_again : (b : Block) → find h.blocks (serial_in a) ≡ some b → find h.blocks b.serial ≡ some b
  found_again b e = ap (find h.blocks) (find_serial h.blocks (serial_in a) b e) ∙ e

  -- a number at an address: 33, 50, or what stands there
  pub by_number : (k : Spot → Slot → Next) → Q (stops 33) → Q (stops 50) → ((x : Spot) (w : Slot) → Spotted m h st x w → Q (k x w)) → Q (as_number (target_of m h st a) k)
  unfolding target_of
  by_number k lost big met =
      decide (eqb (serial_in a) 0) (λ y. rw y (slots (at st a) refl)) (λ y. rw y (blocks (find h.blocks (serial_in a)) refl))
    where
      slots : (o : Option Slot) → at st a ≡ o → Q (as_number (maybe o nowhere (λ w. this (on_stack a) w)) k)
      slots none e = lost
      slots (some w) e = met (on_stack a) w (at_slot a w e)

      inside : (b : Block) → find h.blocks b.serial ≡ some b → (z : Option Shape) → shape_of m b.type ≡ z → (o : ℕ) → Q (as_number (target_in b z o) k)
      inside b e none q o = lost
      inside b e (some (single τ)) q zero = met (in_heap b.serial 0) (slot (num_kind τ) (get_or b.cells 0 0)) (at_cell b 0 τ e (rw q refl))
      inside b e (some (single τ)) q (suc i) = lost
      inside b e (some (fields fs)) q zero = big
      inside b e (some (fields fs)) q (suc i) = field (at fs i) refl
        where
          field : (o : Option Num) → at fs i ≡ o → Q (as_number (maybe o nowhere (λ τ. field_in b i τ)) k)
          field none r = lost
          field (some τ) r = met (in_heap b.serial i) (slot (num_kind τ) (get_or b.cells i 0)) (at_cell b i τ e (rw q r))

      blocks : (o : Option Block) → find h.blocks (serial_in a) ≡ o → Q (as_number (maybe o nowhere (λ b. target_in b (shape_of m b.type) (offset_in a))) k)
      blocks none e = lost
      blocks (some b) e = inside b (found_again b e) (shape_of m b.type) refl (offset_in a)

  -- a structure at an address: 33, 39, or the block and its fields
  pub by_structure : (k : ℕ → List Num → Next) → Q (stops 33) → Q (stops 39)
      → ((b : Block) (fs : List Num) → find h.blocks b.serial ≡ some b → shape_of m b.type ≡ some (fields fs) → Q (k b.serial fs)) → Q (as_structure (target_of m h st a) k)
  unfolding target_of
  by_structure k lost small met =
      decide (eqb (serial_in a) 0) (λ y. rw y (slots (at st a))) (λ y. rw y (blocks (find h.blocks (serial_in a)) refl))
    where
      slots : (o : Option Slot) → Q (as_structure (maybe o nowhere (λ w. this (on_stack a) w)) k)
      slots none = lost
      slots (some w) = small

      inside : (b : Block) → find h.blocks b.serial ≡ some b → (z : Option Shape) → shape_of m b.type ≡ z → (o : ℕ) → Q (as_structure (target_in b z o) k)
      inside b e none q o = lost
      inside b e (some (single τ)) q zero = small
      inside b e (some (single τ)) q (suc i) = lost
      inside b e (some (fields fs)) q zero = met b fs e q
      inside b e (some (fields fs)) q (suc i) = field (at fs i)
        where
          field : (o : Option Num) → Q (as_structure (maybe o nowhere (λ τ. field_in b i τ)) k)
          field none = lost
          field (some τ) = small

      blocks : (o : Option Block) → find h.blocks (serial_in a) ≡ o → Q (as_structure (maybe o nowhere (λ b. target_in b (shape_of m b.type) (offset_in a))) k)
      blocks none e = lost
      blocks (some b) e = inside b (found_again b e) (shape_of m b.type) refl (offset_in a)

-- a slot's number is no address of the heap
pub target_slot : (m : Module) (h : Heap) (st : List Slot) (s : ℕ) (w : Slot) → s < 65536 → at st s ≡ some w → target_of m h st s ≡ this (on_stack s) w
unfolding target_of
target_slot m h st s w l e = let z : serial_in s ≡ 0 = omega arith in rw (z, e) refl

-- an address of a number: 33, or a number of that type
module _ (m : Module) (h : Heap) (st : List Slot) (a : ℕ) (l : 65536 ≤ a) (Q : Next → Type 0) where
  above_0 : eqb (serial_in a) 0 ≡ false
  above_0 = eqb_other (serial_in a) 0 (λ z. absurd (omega arith))

  pub by_cell : (τ : Num) (k : Spot → Slot → Next) → Each (BlockFits m a (cell τ)) h.blocks → Q (stops 33) → ((s i c : ℕ) → Q (k (in_heap s i) (slot (num_kind τ) c))) → Q (as_number (target_of m h st a) k)
  unfolding target_of
  by_cell τ k E lost met = rw above_0 (blocks (find h.blocks (serial_in a)) refl)
    where
      inside : (b : Block) (z : Option Shape) (o : ℕ) → offset_type z o ≡ some τ → Q (as_number (target_in b z o) k)
      inside b none o q = none_some q
      inside b (some (single υ)) zero q = subst (λ x. Q (k (in_heap b.serial 0) (slot (num_kind x) (get_or b.cells 0 0)))) (sym (some_inj υ τ q)) (met b.serial 0 (get_or b.cells 0 0))
      inside b (some (single υ)) (suc i) q = none_some q
      inside b (some (fields fs)) zero q = none_some q
      inside b (some (fields fs)) (suc i) q = rw q (met b.serial i (get_or b.cells i 0))

      blocks : (o : Option Block) → find h.blocks (serial_in a) ≡ o → Q (as_number (maybe o nowhere (λ b. target_in b (shape_of m b.type) (offset_in a))) k)
      blocks none e = lost
      blocks (some b) e =
          inside b (shape_of m b.type) (offset_in a) (each_find (BlockFits m a (cell τ)) h.blocks (serial_in a) b E e (find_serial h.blocks (serial_in a) b e))

  -- an address of a structure: 33, or the block and its fields
  pub by_whole : (n : ℕ) (fs : List Num) (k : ℕ → List Num → Next) → shape_of m n ≡ some (fields fs) → Each (BlockFits m a (struct n)) h.blocks → Q (stops 33) → Q (k (serial_in a) fs)
      → Q (as_structure (target_of m h st a) k)
  unfolding target_of
  by_whole n fs k q E lost met = rw above_0 (blocks (find h.blocks (serial_in a)) refl)
    where
      blocks : (o : Option Block) → find h.blocks (serial_in a) ≡ o → Q (as_structure (maybe o nowhere (λ b. target_in b (shape_of m b.type) (offset_in a))) k)
      blocks none e = lost
      blocks (some b) e =
          let r : b.serial ≡ serial_in a = find_serial h.blocks (serial_in a) b e in
          let x : (b.type ≡ n) × (offset_in a ≡ 0) = each_find (BlockFits m a (struct n)) h.blocks (serial_in a) b E e r in
          rw (ap (shape_of m) x.0 ∙ q, x.1) (subst (λ s. Q (k s fs)) (sym r) met)

-- the address of field n of a structure
pub field_address_lem : (m : Module) (h : Heap) (a k n : ℕ) (fs : List Num) (τ : Num) → m.edition ≡ 4 → shape_of m k ≡ some (fields fs) → at fs n ≡ some τ → n ≤ 8 → 65536 ≤ a → serial_in a < h.next
    → Each (BlockFits m a (struct k)) h.blocks → Address m h (field_address (serial_in a) n) (cell τ)
field_address_lem m h a k n fs τ e q r l g u E =
    let c : ℕ = field_address (serial_in a) n in
    let s : serial_in c ≡ serial_in a = omega arith in
    let o : offset_in c ≡ suc n = omega arith in
    (e, inr (omega arith, omega arith, each_map (BlockFits m a (struct k)) (BlockFits m c (cell τ)) (λ b F p. let x : (b.type ≡ k) × (offset_in a ≡ 0) = F (p ∙ s) in rw (ap (shape_of m) x.0 ∙ q, o) r) h.blocks E))

-- ---- "Packing changes no payload and no value read through a pointer" (A9)

find_packed : (bs : List Block) (s : ℕ) → ((find (packed bs) s ≡ none) × (find bs s ≡ none)) ⊎ ((b : Block) × (c : ℕ) × (find bs s ≡ some b) × (find (packed bs) s ≡ some (moved b c)))
find_packed [] s = inl (refl, refl)
find_packed (b ∷ bs) s =
    decide (eqb b.serial s) (λ y. inr (b, total bs, rw y refl, rw y refl))
    (λ y. go y (find_packed bs s))
  where
    go : eqb b.serial s ≡ false → ((find (packed bs) s ≡ none) × (find bs s ≡ none)) ⊎ ((d : Block) × (c : ℕ) × (find bs s ≡ some d) × (find (packed bs) s ≡ some (moved d c)))
        → ((find (packed (b ∷ bs)) s ≡ none) × (find (b ∷ bs) s ≡ none)) ⊎ ((d : Block) × (c : ℕ) × (find (b ∷ bs) s ≡ some d) × (find (packed (b ∷ bs)) s ≡ some (moved d c)))
    go y (inl x) = inl (rw y x.0, rw y x.1)
    go y (inr x) = inr (x.0, x.1, rw y x.2, rw y x.3)

-- every address is to the same thing, with the same payload, before and after; the slots are no part of it
pub packing_keeps : (m : Module) (h : Heap) (st : List Slot) (a : ℕ) → target_of m (having h (packed h.blocks)) st a ≡ target_of m h st a
unfolding target_of
packing_keeps m h st a = decide (eqb (serial_in a) 0) (λ y. rw y refl) (λ y. rw y (go (find_packed h.blocks (serial_in a))))
  where
    same : (b : Block) (c : ℕ) (z : Option Shape) (o : ℕ) → target_in (moved b c) z o ≡ target_in b z o
    same b c none o = refl
    same b c (some (single τ)) zero = refl
    same b c (some (single τ)) (suc i) = refl
    same b c (some (fields fs)) zero = refl
    same b c (some (fields fs)) (suc i) = refl

    go : ((find (packed h.blocks) (serial_in a) ≡ none) × (find h.blocks (serial_in a) ≡ none))
        ⊎ ((b : Block) × (c : ℕ) × (find h.blocks (serial_in a) ≡ some b) × (find (packed h.blocks) (serial_in a) ≡ some (moved b c)))
        → maybe (find (packed h.blocks) (serial_in a)) nowhere (λ b. target_in b (shape_of m b.type) (offset_in a))
        ≡ maybe (find h.blocks (serial_in a)) nowhere (λ b. target_in b (shape_of m b.type) (offset_in a))
    go (inl x) = rw (x.0, x.1) refl
    go (inr x) = rw (x.2, x.3) (same x.0 x.1 (shape_of m x.0.type) (offset_in a))

-- ---- what holds of the heap at every moment: serials are below the next, and every cell has the property P of slots

abbrev pub CellsOk : Module → (Slot → Type 0) → Block → Type 0
CellsOk m P b = (i : ℕ) (τ : Num) → cell_type (shape_of m b.type) i ≡ some τ → P (slot (num_kind τ) (get_or b.cells i 0))

pub record HeapOk (m : Module) (P : Slot → Type 0) (h : Heap) : Type 0 where
  pub places : HeapLaid m h
  pub cells : Each (CellsOk m P) h.blocks

get_or_zeros : (n i : ℕ) → get_or (zeros n) i 0 ≡ 0
get_or_zeros zero i = refl
get_or_zeros (suc n) zero = refl
get_or_zeros (suc n) (suc i) = get_or_zeros n i

module _ (m : Module) (P : Slot → Type 0) where
  pub heap_stored : (h : Heap) (b : Block) (i : ℕ) (τ : Num) (v : Slot) → find h.blocks b.serial ≡ some b → cell_type (shape_of m b.type) i ≡ some τ
      → v.kind ≡ num_kind τ → P v → HeapOk m P h → HeapOk m P (having h (stored h.blocks b.serial i v.payload))
  heap_stored h b i τ v f q k p H =
      record {
        places = record {
          from_1 = H.places.from_1;
          to_limit = H.places.to_limit;
          serials = each_stored (λ b. b.serial < h.next) h.blocks b.serial i v.payload H.places.serials (λ c e. each_find (λ b. b.serial < h.next) h.blocks b.serial c H.places.serials e);
          laid = laid_stored m h.size b.serial i v.payload h.blocks H.places.laid;
        };
        cells = each_stored (CellsOk m P) h.blocks b.serial i v.payload H.cells
            (λ c e. set_cell c (subst (λ d. cell_type (shape_of m d.type) i ≡ some τ) (some_inj b c (sym f ∙ e)) q) (each_find (CellsOk m P) h.blocks b.serial c H.cells e));
      }
    where
      set_cell : (c : Block) → cell_type (shape_of m c.type) i ≡ some τ → CellsOk m P c → CellsOk m P (with_cell c i v.payload)
      set_cell c q' C j υ r =
          decide (eqb j i)
          (λ y. let w : j ≡ i = eqb_is j i y in
          let t : τ ≡ υ = some_inj τ υ (sym q' ∙ ap (cell_type (shape_of m c.type)) (sym w) ∙ r) in
          decide (ltb i (length c.cells))
          (λ z. let g : get_or (set c.cells i v.payload) j 0 ≡ v.payload = ap (λ x. get_or (set c.cells i v.payload) x 0) w ∙ get_or-set_same c.cells i v.payload 0 (ltb_is i (length c.cells) z) in
          subst P (λ l. slot ((k ∙ ap num_kind t) l) (sym g l)) p)
          (λ z. let g : set c.cells i v.payload ≡ c.cells = set_out c.cells i v.payload (ltb_isnt i (length c.cells) z) in
          subst (λ cs. P (slot (num_kind υ) (get_or cs j 0))) (sym g) (C j υ r)))
          (λ y. subst (λ x. P (slot (num_kind υ) x)) (sym (get_or-set_other c.cells i j v.payload 0 (eqb_isnt j i y))) (C j υ r))

  pub heap_without : (h : Heap) (s : ℕ) → HeapOk m P h → HeapOk m P (having h (without h.blocks s))
  heap_without h s H =
      record {
        places = record {
          from_1 = H.places.from_1;
          to_limit = H.places.to_limit;
          serials = each_without (λ b. b.serial < h.next) h.blocks s H.places.serials;
          laid = laid_without m h.size s h.blocks H.places.laid;
        };
        cells = each_without (CellsOk m P) h.blocks s H.cells;
      }

  pub heap_collected : (n : ℕ) (st : List Slot) (h : Heap) → HeapOk m P h → HeapOk m P (collected n st h)
  heap_collected n st h H =
      let q : (collected n st h).next ≡ h.next = (collected_next n st h).0 in
      record {
        places = record {
          from_1 = rw q H.places.from_1;
          to_limit = rw q H.places.to_limit;
          serials = rw q (each_collected (λ b. b.serial < h.next) (λ b c k. k) n st h H.places.serials);
          laid = laid_collected m n st h H.places.laid;
        };
        cells = each_collected (CellsOk m P) (λ b c k. k) n st h H.cells;
      }

  pub heap_given : ((τ : Num) → P (slot (num_kind τ) 0)) → (h : Heap) (t : ℕ) (g : Bool) (z : Shape) → shape_of m t ≡ some z → HeapOk m P h → HeapOk m P (heap_with h t g (cells_in z) (place_for h (cells_in z)))
  heap_given zero_ok h t g z q H = decide (ltb h.next serial_limit) (λ y. rw y (go (lowest_run h (cells_in z)) refl (ltb_is h.next serial_limit y))) (λ y. rw y H)
    where
      go : (o : Option ℕ) → lowest_run h (cells_in z) ≡ o → h.next < serial_limit → HeapOk m P (heap_with h t g (cells_in z) o)
      go none e l = H
      go (some c) e l =
          let n : ℕ = cells_in z in
          let f : (c + n ≤ h.size) × (apart c n h.blocks ≡ true) = run_is_free h n c e in
          let k : length (zeros n) ≡ n = length-replicate n 0 in
          let u : 1 ≤ h.next = H.places.from_1 in
          record {
            places = record {
              from_1 = omega arith;
              to_limit = l;
              serials = (omega arith, each_map (λ b. b.serial < h.next) (λ b. b.serial < suc h.next) (λ b k. omega arith) h.blocks H.places.serials);
              laid = ((z, q, k), rw k f.0, rw k f.1, u, H.places.serials, H.places.laid);
            };
            cells = ((λ i τ q. subst (λ x. P (slot (num_kind τ) x)) (sym (get_or_zeros n i)) (zero_ok τ)), H.cells);
          }
