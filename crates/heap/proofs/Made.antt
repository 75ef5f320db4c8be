-- What stores, removals and new entries make of the heap.
use Prim.Native.Nat.{ℕ, suc, ◌+◌, ◌*◌, ◌-◌, ◌≤◌, ◌<◌}
use native.Mathlib.Omega.{arith}
use mathlib.Core.Path.{◌≡◌, refl, sym, ap, ◌∙◌}
use mathlib.Core.Bool.{Bool, true, false, ◌&&◌}
use lib.Dec.{eqb}
use mathlib.Core.Logic.{◌⊎◌, inl, inr, ⊎_elim}
use mathlib.Core.List.{List}
use lib.ListN.{length}
use borrow.Author.Tests.{eq-eqb, ne_eqb, lt-leb, le-leb}
use Rattle.rules.specs.Bytes.{word}
use Rattle.rules.specs.Heap.{Heap, having, stored, without, is_given, serial_in, offset_in, empty_heap}
use Rattle.heap.specs.declared.Entry.{Entry}
use Rattle.heap.specs.declared.Shelf.{Shelf}
use Rattle.heap.specs.Blocks.{cell_in, entry_at, blank, bare, width_in, blocks_of, heap_of, end_of, Rising, Laid, Sane}
use Rattle.heap.specs.Changes.{CellPut, Cleared, Closed, Makes}
use Rattle.heap.proofs.Stores.{split_lt}
use Rattle.heap.proofs.Lists.{find_none, find_some, stored_blocks, stored_laid}
use Rattle.heap.proofs.Removal.{Gone, gone_rising, gone_blocks, gone_laid}

rising_as : {E : ℕ → Entry} {n next : ℕ} (m : ℕ) → n ≡ m → Rising E n next → Rising E m next
rising_as m e r = rw (← e) r

laid_as : {w C : ℕ → ℕ} {E : ℕ → Entry} {size n low top : ℕ} (m : ℕ) → n ≡ m → Laid w C E size n low top → Laid w C E size m low top
laid_as m e k = rw (← e) k

and_false : (b : Bool) → (b && false) ≡ false
and_false true = refl
and_false false = refl

module _ (size : ℕ) (k : Shelf) (d p t : List ℕ) (s : Sane size k d p t) where
  abbrev h : Heap
  h = heap_of size k d p t

  -- ---- x written to cell o of the block of entry i

  pub storing : (i o x : ℕ) (p' : List ℕ) → i < k.count → o < width_in d (entry_at t i).listed → CellPut p' p ((entry_at t i).first + o) x
      → Makes size k d p t p' t (having h (stored h.blocks (entry_at t i).serial o x))
  storing i o x p' hi ho put =
      record {
        heap = ap (having h) (stored_blocks s.laid (cell_in p') i o x hi ho put.same other s.rising k.count hi (omega arith));
        sane = record { small = s.small; room_cells = omega (arith, s.room_cells, put.within.same_length); room_table = s.room_table; few = s.few; next_1 = s.next_1; to_limit = s.to_limit; rising = s.rising; laid = stored_laid s.laid (cell_in p') i o x hi ho put.same other };
        past_cells = put.within.past (size * 8) (omega (arith, s.laid.inside i hi, s.laid.top_size));
        past_table = refl;
        same_cells = put.within.same_length;
        same_table = refl;
      }
    where
      other : (c : ℕ) → (c ≡ (entry_at t i).first + o → ⊥) → cell_in p' c ≡ cell_in p c
      other c ne =
          ⊎_elim
          (λ (l : c < (entry_at t i).first + o). put.within.other c (inl l))
          (λ (l : (entry_at t i).first + o ≤ c). put.within.other c (inr (⊎_elim (λ (g : (entry_at t i).first + o < c). let q : (entry_at t i).first + o + 1 ≤ c = omega arith in q) (λ (g : c ≤ (entry_at t i).first + o). let q : c ≡ (entry_at t i).first + o = omega arith in absurd (ne q)) (split_lt ((entry_at t i).first + o) c))))
          (split_lt c ((entry_at t i).first + o))

  -- ---- the block of entry i freed

  module _ (i : ℕ) (p' t' : List ℕ) (low top : ℕ) (hi : i < k.count) (clear : Cleared p' p (entry_at t i).first (end_of (width_in d) (entry_at t i)))
      (close : Closed t' t i (k.count - 1)) (lows : (low ≤ k.low) × (low ≤ (entry_at t i).first))
      (tops : (top ≡ k.top) ⊎ ((top ≡ (entry_at t i).first) × (end_of (width_in d) (entry_at t i) ≡ k.top))) where
    up : k.count ≡ suc (k.count - 1)
    up = omega arith

    below : i ≤ k.count - 1
    below = omega arith

    gone : Gone (entry_at t') (entry_at t) i (k.count - 1)
    gone = record { before = close.before; moved = close.moved; empty = close.empty; after = close.after }

    zeroed : (c : ℕ) → (entry_at t i).first ≤ c → c < end_of (width_in d) (entry_at t i) → cell_in p' c ≡ 0
    zeroed = clear.zero

    low_top : low ≤ top
    low_top = ⊎_elim (λ (a : top ≡ k.top). omega (arith, lows.0, s.laid.low_top)) (λ (a : (top ≡ (entry_at t i).first) × (end_of (width_in d) (entry_at t i) ≡ k.top)). omega (arith, lows.1)) tops

    removing_at : Makes size (record { count = k.count - 1; next = k.next; low = low; top = top }) d p t p' t' (having h (without h.blocks (entry_at t i).serial))
    removing_at =
        record {
          heap = ap (having h) (gone_blocks gone below (rising_as _ up s.rising) (laid_as _ up s.laid) (cell_in p') zeroed clear.within.other
              ∙ ap (λ (n : ℕ). without (blocks_of (width_in d) (cell_in p) (entry_at t) n) (entry_at t i).serial) (sym up));
          sane = record {
            small = s.small;
            room_cells = omega (arith, s.room_cells, clear.within.same_length);
            room_table = omega (arith, s.room_table, close.same_length);
            few = omega (arith, s.few);
            next_1 = s.next_1;
            to_limit = s.to_limit;
            rising = gone_rising gone below (rising_as _ up s.rising);
            laid = gone_laid gone below (rising_as _ up s.rising) (laid_as _ up s.laid) (cell_in p') zeroed clear.within.other low top lows.0 lows.1 low_top tops (omega (arith, s.few));
          };
          past_cells = clear.within.past (size * 8) (omega (arith, s.laid.inside i hi, s.laid.top_size));
          past_table = close.past (size * 24) (omega (arith, s.few));
          same_cells = clear.within.same_length;
          same_table = close.same_length;
        }

  pub removing : (i : ℕ) (e : Entry) (n : ℕ) (p' t' : List ℕ) (low top : ℕ) → i < k.count → e ≡ entry_at t i → n ≡ width_in d e.listed
      → Cleared p' p e.first (e.first + n) → Closed t' t i (k.count - 1) → (low ≤ k.low) × (low ≤ e.first)
      → ((top ≡ k.top) ⊎ ((top ≡ e.first) × (e.first + n ≡ k.top)))
      → Makes size (record { count = k.count - 1; next = k.next; low = low; top = top }) d p t p' t' (having h (without h.blocks (entry_at t i).serial))
  removing i e n p' t' low top hi ee en clear close lows tops =
      removing_at i p' t' low top hi (rw (en, ee) at clear) close (rw ee at lows) (rw (en, ee) at tops)

  -- ---- what `delete` takes

  module _ (a : ℕ) where
    pub given_offset : (offset_in a ≡ 0 → ⊥) → is_given h a ≡ false
    given_offset ne = rw (ne_eqb (offset_in a) 0 ne) refl

    pub given_none : ((i : ℕ) → i < k.count → (entry_at t i).serial ≡ serial_in a → ⊥) → is_given h a ≡ false
    given_none none_is = rw (find_none (width_in d) (cell_in p) (entry_at t) (serial_in a) k.count none_is) (and_false (eqb (offset_in a) 0))

    pub given_managed : (i : ℕ) (e : Entry) → i < k.count → (entry_at t i).serial ≡ serial_in a → e ≡ entry_at t i → 64 ≤ e.listed → is_given h a ≡ false
    given_managed i e hi q is l =
        rw (find_some (width_in d) (cell_in p) (entry_at t) (serial_in a) k.count s.rising i hi q, le-leb 64 (entry_at t i).listed (omega (arith, ap (λ (x : Entry). x.listed) is))) (and_false (eqb (offset_in a) 0))

    pub given_is : (i : ℕ) (e : Entry) → offset_in a ≡ 0 → i < k.count → (entry_at t i).serial ≡ serial_in a → e ≡ entry_at t i → e.listed < 64 → is_given h a ≡ true
    given_is i e z hi q is l =
        rw (eq-eqb (offset_in a) 0 z, find_some (width_in d) (cell_in p) (entry_at t) (serial_in a) k.count s.rising i hi q, lt-leb 64 (entry_at t i).listed (omega (arith, ap (λ (x : Entry). x.listed) is))) refl

  pub end_inside : (i : ℕ) (e : Entry) (n : ℕ) → i < k.count → e ≡ entry_at t i → n ≡ width_in d e.listed → e.first + n ≤ size
  end_inside i e n hi ee en = rw (en, ee) (omega (arith, s.laid.inside i hi, s.laid.top_size))

-- ---- an empty heap

entry_blank : (t : List ℕ) (n i : ℕ) → i < n → ((c : ℕ) → 0 ≤ c → c < n * 3 → cell_in t c ≡ 0) → entry_at t i ≡ blank
unfolding cell_in entry_at
entry_blank t n i h z =
    let a : i * 3 * 8 ≡ i * 24 = omega arith in
    let b : (i * 3 + 1) * 8 ≡ i * 24 + 8 = omega arith in
    let e : (i * 3 + 2) * 8 ≡ i * 24 + 16 = omega arith in
    let x : word 8 t (i * 24) ≡ 0 = ap (word 8 t) (sym a) ∙ z (i * 3) (omega arith) (omega arith) in
    let y : word 8 t (i * 24 + 8) ≡ 0 = ap (word 8 t) (sym b) ∙ z (i * 3 + 1) (omega arith) (omega arith) in
    let v : word 8 t (i * 24 + 16) ≡ 0 = ap (word 8 t) (sym e) ∙ z (i * 3 + 2) (omega arith) (omega arith) in
    rw (x, y, v) refl

pub starting : (size : ℕ) (d p t p' t' : List ℕ) → size ≤ 4096 → size * 8 ≤ length p → size * 24 ≤ length t → Cleared p' p 0 size → Cleared t' t 0 (size * 3)
    → Makes size bare d p t p' t' (empty_heap size)
unfolding blocks_of
starting size d p t p' t' hs hp ht cp ct =
    record {
      heap = refl;
      sane = record {
        small = hs;
        room_cells = omega (arith, cp.within.same_length);
        room_table = omega (arith, ct.within.same_length);
        few = omega arith;
        next_1 = omega arith;
        to_limit = omega arith;
        rising = record { rise = λ i j l m. absurd (omega arith); from_1 = λ i l. absurd (omega arith); given = λ i l. absurd (omega arith) };
        laid = record {
          listed = λ i l. absurd (omega arith);
          wide = λ i l. absurd (omega arith);
          inside = λ i l. absurd (omega arith);
          apart = λ i j l m. absurd (omega arith);
          full = λ c l f. absurd (omega arith);
          clear = λ c l f. cp.zero c (omega arith) l;
          low_top = omega arith;
          top_size = omega arith;
          rest = λ i l g. entry_blank t' size i g ct.zero;
        };
      };
      past_cells = cp.within.past (size * 8) (omega arith);
      past_table = ct.within.past (size * 24) (omega arith);
      same_cells = cp.within.same_length;
      same_table = ct.within.same_length;
    }
