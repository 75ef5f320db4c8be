-- Where blocks lie: apart and inside the heap, through `new`, `delete`, writes, sweeping and packing.
use Rattle.std.specs.Prelude.{◌≡◌, refl, ℕ, zero, suc, ◌+◌, ◌-◌, ◌≤◌, ◌<◌, min, Bool, true, false, not, cond, ◌&&◌, ◌||◌, List, [], ◌∷◌, length, set, ltb, leb, eqb}
use Rattle.std.proofs.Common.{sym, ap, ◌∙◌, subst, arith, length-set}
use Rattle.std.proofs.Math.Option.{Option, none, some}
use Rattle.soundness.specs.Names.{Slot}
use Rattle.rules.specs.Bytes.{maybe, within}
use Rattle.rules.specs.Tables.{Module}
use Rattle.rules.specs.Heap.{Block, Heap, having, find, apart, free, lowest_below, lowest_run, with_cell, stored, without, held, swept, total, moved, packed, roomy, collected}
use Rattle.rules.specs.Claims.{Each, Laid}
use Rattle.soundness.specs.Tests.{decide, none_some, some_inj, eqb_is, leb_is, leb_isnt, leb_yes, leb_no, ltb_is, ltb_isnt, ltb_no, and_both, and_intro}

-- ---- each block

module _ (Q : Block → Type 0) where
  pub each_find : (bs : List Block) (s : ℕ) (b : Block) → Each Q bs → find bs s ≡ some b → Q b
  each_find [] s b h e = none_some e
  each_find (c ∷ bs) s b h e =
      decide (eqb c.serial s) (λ y. subst Q (some_inj c b (rw y at e)) h.0) (λ y. each_find bs s b h.1 (rw y at e))

  pub each_stored : (bs : List Block) (s i x : ℕ) → Each Q bs → ((b : Block) → find bs s ≡ some b → Q (with_cell b i x)) → Each Q (stored bs s i x)
  each_stored [] s i x h k = tt
  each_stored (c ∷ bs) s i x h k =
      decide (eqb c.serial s) (λ y. rw y (k c (rw y refl), h.1))
      (λ y. rw y (h.0, each_stored bs s i x h.1 (λ b e. k b (rw y e))))

  pub each_without : (bs : List Block) (s : ℕ) → Each Q bs → Each Q (without bs s)
  each_without [] s h = tt
  each_without (c ∷ bs) s h = decide (eqb c.serial s) (λ y. rw y (each_without bs s h.1)) (λ y. rw y (h.0, each_without bs s h.1))

  pub each_swept : (st : List Slot) (bs : List Block) → Each Q bs → Each Q (swept st bs)
  each_swept st [] h = tt
  each_swept st (c ∷ bs) h =
      decide (not c.managed || held st c.serial) (λ y. rw y (h.0, each_swept st bs h.1)) (λ y. rw y (each_swept st bs h.1))

  pub each_packed : ((b : Block) (c : ℕ) → Q b → Q (moved b c)) → (bs : List Block) → Each Q bs → Each Q (packed bs)
  each_packed k [] h = tt
  each_packed k (c ∷ bs) h = (k c (total bs) h.0, each_packed k bs h.1)

  pub each_roomy : ((b : Block) (c : ℕ) → Q b → Q (moved b c)) → (n : ℕ) (h : Heap) → Each Q h.blocks → Each Q (roomy n h).blocks
  each_roomy k n h e = go (lowest_run h n)
    where
      go : (o : Option ℕ) → Each Q (maybe o (having h (packed h.blocks)) (λ c. h)).blocks
      go none = each_packed k h.blocks e
      go (some c) = e

  -- what `gcnew` does before it gives a block
  pub each_collected : ((b : Block) (c : ℕ) → Q b → Q (moved b c)) → (n : ℕ) (st : List Slot) (h : Heap) → Each Q h.blocks → Each Q (collected n st h).blocks
  each_collected k n st h e = each_roomy k n (having h (swept st h.blocks)) (each_swept st h.blocks e)

pub each_map : (Q R : Block → Type 0) → ((b : Block) → Q b → R b) → (bs : List Block) → Each Q bs → Each R bs
each_map Q R f [] h = tt
each_map Q R f (b ∷ bs) h = (f b h.0, each_map Q R f bs h.1)

pub find_serial : (bs : List Block) (s : ℕ) (b : Block) → find bs s ≡ some b → b.serial ≡ s
find_serial [] s b e = none_some e
find_serial (c ∷ bs) s b e =
    decide (eqb c.serial s) (λ y. ap (λ (z : Block). z.serial) (sym (some_inj c b (rw y at e))) ∙ eqb_is c.serial s y) (λ y. find_serial bs s b (rw y at e))

pub collected_next : (n : ℕ) (st : List Slot) (h : Heap) → ((collected n st h).next ≡ h.next) × ((collected n st h).size ≡ h.size)
collected_next n st h = go (lowest_run (having h (swept st h.blocks)) n)
  where
    h' : Heap
    h' = having h (swept st h.blocks)

    go : (o : Option ℕ) → ((maybe o (having h' (packed h'.blocks)) (λ c. h')).next ≡ h.next) × ((maybe o (having h' (packed h'.blocks)) (λ c. h')).size ≡ h.size)
    go none = (refl, refl)
    go (some c) = (refl, refl)

-- ---- a run that is found is free

pub lowest_passes : (k : ℕ) (f : ℕ → Bool) (i : ℕ) → lowest_below k f ≡ some i → f i ≡ true
unfolding lowest_below
lowest_passes zero f i e = none_some e
lowest_passes (suc k) f i e = go (lowest_below k f) (λ j q. lowest_passes k f j q) refl e
  where
    go : (o : Option ℕ) → ((j : ℕ) → lowest_below k f ≡ some j → f j ≡ true) → lowest_below k f ≡ o
        → (elim o as (λ z. Option ℕ) [ some i ↦ some i | none ↦ within (f k) k ]) ≡ some i → f i ≡ true
    go (some j) ih q r = subst (λ x. f x ≡ true) (some_inj j i r) (ih j q)
    go none ih q r = decide (f k) (λ y. subst (λ x. f x ≡ true) (some_inj k i (rw y at r)) y) (λ y. none_some (rw y at r))

pub run_is_free : (h : Heap) (n c : ℕ) → lowest_run h n ≡ some c → (c + n ≤ h.size) × (apart c n h.blocks ≡ true)
unfolding lowest_run
run_is_free h n c e =
    let x : (leb (c + n) h.size ≡ true) × (apart c n h.blocks ≡ true) = and_both (leb (c + n) h.size) (apart c n h.blocks) (lowest_passes h.size (free h n) c e) in
    (leb_is (c + n) h.size x.0, x.1)

-- ---- the cells that blocks take

abbrev in_run : ℕ → ℕ → ℕ → Bool
in_run c n i = leb c i && ltb i (c + n)

abbrev covered : List Block → ℕ → Bool
covered [] i = false
covered (b ∷ bs) i = in_run b.from (length b.cells) i || covered bs i

count : ℕ → (ℕ → Bool) → ℕ
count zero f = 0
count (suc n) f = cond (f n) 1 0 + count n f

count_le : (n : ℕ) (f : ℕ → Bool) → count n f ≤ n
unfolding count
count_le zero f = omega arith
count_le (suc n) f = let h : count n f ≤ n = count_le n f in decide (f n) (λ y. rw y (omega arith)) (λ y. rw y (omega arith))

count_none : (n : ℕ) → count n (λ i. false) ≡ 0
unfolding count
count_none zero = refl
count_none (suc n) = let h : count n (λ i. false) ≡ 0 = count_none n in omega arith

count_or : (n : ℕ) (f g : ℕ → Bool) → ((i : ℕ) → f i ≡ true → g i ≡ false) → count n (λ i. f i || g i) ≡ count n f + count n g
unfolding count
count_or zero f g d = refl
count_or (suc n) f g d =
    let h : count n (λ i. f i || g i) ≡ count n f + count n g = count_or n f g d in
    decide (f n) (λ y. let z : g n ≡ false = d n y in rw (y, z) (omega arith))
    (λ y. decide (g n) (λ z. rw (y, z) (omega arith)) (λ z. rw (y, z) (omega arith)))

count_run : (n c l : ℕ) → count n (in_run c l) ≡ min l (n - c)
unfolding count
count_run zero c l = omega arith
count_run (suc n) c l =
    let h : count n (in_run c l) ≡ min l (n - c) = count_run n c l in
    decide (leb c n)
    (λ y. let p : c ≤ n = leb_is c n y in
    decide (ltb n (c + l)) (λ z. let q : n < c + l = ltb_is n (c + l) z in rw (y, z) (omega arith)) (λ z. let q : c + l ≤ n = ltb_isnt n (c + l) z in rw (y, z) (omega arith)))
    (λ y. let p : n < c = leb_isnt c n y in rw y (omega arith))

-- a run that is apart takes no cell of the blocks
apart_free : (c n : ℕ) (bs : List Block) → apart c n bs ≡ true → (i : ℕ) → in_run c n i ≡ true → covered bs i ≡ false
apart_free c n [] a i r = refl
apart_free c n (b ∷ bs) a i r =
    let x : ((leb (c + n) b.from || leb (b.from + length b.cells) c) ≡ true) × (apart c n bs ≡ true) = and_both (leb (c + n) b.from || leb (b.from + length b.cells) c) (apart c n bs) a in
    let y : (leb c i ≡ true) × (ltb i (c + n) ≡ true) = and_both (leb c i) (ltb i (c + n)) r in
    let l : c ≤ i = leb_is c i y.0 in
    let u : i < c + n = ltb_is i (c + n) y.1 in
    rw (outside b.from (length b.cells) l u x.0) (apart_free c n bs x.1 i r)
  where
    outside : (k m : ℕ) → c ≤ i → i < c + n → (leb (c + n) k || leb (k + m) c) ≡ true → in_run k m i ≡ false
    outside k m l u o =
        decide (leb (c + n) k)
        (λ p. let q : c + n ≤ k = leb_is (c + n) k p in rw (leb_no k i (omega arith)) refl)
        (λ p. let q : k + m ≤ c = leb_is (k + m) c (rw p at o) in
        decide (leb k i) (λ z. rw (z, ltb_no i (k + m) (omega arith)) refl) (λ z. rw z refl))

module _ (m : Module) where
  total_covered : (n : ℕ) (bs : List Block) → Laid m n bs → total bs ≡ count n (covered bs)
  total_covered n [] h = sym (count_none n)
  total_covered n (b ∷ bs) h =
      let t : total bs ≡ count n (covered bs) = total_covered n bs h.5 in
      let o : count n (λ i. in_run b.from (length b.cells) i || covered bs i) ≡ count n (in_run b.from (length b.cells)) + count n (covered bs) =
      count_or n (in_run b.from (length b.cells)) (covered bs) (λ i r. apart_free b.from (length b.cells) bs h.2 i r) in
      let r : count n (in_run b.from (length b.cells)) ≡ min (length b.cells) (n - b.from) = count_run n b.from (length b.cells) in
      let l : b.from + length b.cells ≤ n = h.1 in omega arith

  -- blocks that are apart and inside the heap are no more than it
  pub total_fits : (n : ℕ) (bs : List Block) → Laid m n bs → total bs ≤ n
  total_fits n bs h = let t : total bs ≡ count n (covered bs) = total_covered n bs h in let l : count n (covered bs) ≤ n = count_le n (covered bs) in omega arith

-- ---- what stays apart

apart_without : (c n s : ℕ) (bs : List Block) → apart c n bs ≡ true → apart c n (without bs s) ≡ true
apart_without c n s [] a = refl
apart_without c n s (b ∷ bs) a =
    let x : ((leb (c + n) b.from || leb (b.from + length b.cells) c) ≡ true) × (apart c n bs ≡ true) = and_both (leb (c + n) b.from || leb (b.from + length b.cells) c) (apart c n bs) a in
    decide (eqb b.serial s) (λ y. rw y (apart_without c n s bs x.1))
    (λ y. rw y (and_intro (leb (c + n) b.from || leb (b.from + length b.cells) c) (apart c n (without bs s)) x.0 (apart_without c n s bs x.1)))

apart_swept : (c n : ℕ) (st : List Slot) (bs : List Block) → apart c n bs ≡ true → apart c n (swept st bs) ≡ true
apart_swept c n st [] a = refl
apart_swept c n st (b ∷ bs) a =
    let x : ((leb (c + n) b.from || leb (b.from + length b.cells) c) ≡ true) × (apart c n bs ≡ true) = and_both (leb (c + n) b.from || leb (b.from + length b.cells) c) (apart c n bs) a in
    decide (not b.managed || held st b.serial)
    (λ y. rw y (and_intro (leb (c + n) b.from || leb (b.from + length b.cells) c) (apart c n (swept st bs)) x.0 (apart_swept c n st bs x.1)))
    (λ y. rw y (apart_swept c n st bs x.1))

apart_stored : (c n s i x : ℕ) (bs : List Block) → apart c n bs ≡ true → apart c n (stored bs s i x) ≡ true
apart_stored c n s i x [] a = refl
apart_stored c n s i x (b ∷ bs) a =
    let y : ((leb (c + n) b.from || leb (b.from + length b.cells) c) ≡ true) × (apart c n bs ≡ true) = and_both (leb (c + n) b.from || leb (b.from + length b.cells) c) (apart c n bs) a in
    decide (eqb b.serial s)
    (λ z. rw z (rw (length-set b.cells i x) a))
    (λ z. rw z (and_intro (leb (c + n) b.from || leb (b.from + length b.cells) c) (apart c n (stored bs s i x)) y.0 (apart_stored c n s i x bs y.1)))

-- packed blocks are below their total, so the next one is apart from them
apart_packed : (c n : ℕ) (bs : List Block) → total bs ≤ c → apart c n (packed bs) ≡ true
apart_packed c n [] l = refl
apart_packed c n (b ∷ bs) l =
    and_intro (leb (c + n) (total bs) || leb (total bs + length b.cells) c) (apart c n (packed bs))
    (or_right (leb (c + n) (total bs)) (leb (total bs + length b.cells) c) (leb_yes (total bs + length b.cells) c (omega arith))) (apart_packed c n bs (omega arith))
  where
    or_right : (a b : Bool) → b ≡ true → (a || b) ≡ true
    or_right true b e = refl
    or_right false b e = e

module _ (m : Module) (n : ℕ) where
  pub laid_without : (s : ℕ) (bs : List Block) → Laid m n bs → Laid m n (without bs s)
  laid_without s [] h = tt
  laid_without s (b ∷ bs) h =
      decide (eqb b.serial s) (λ y. rw y (laid_without s bs h.5))
      (λ y. rw y (h.0, h.1, apart_without b.from (length b.cells) s bs h.2, h.3, each_without (λ c. c.serial < b.serial) bs s h.4, laid_without s bs h.5))

  pub laid_swept : (st : List Slot) (bs : List Block) → Laid m n bs → Laid m n (swept st bs)
  laid_swept st [] h = tt
  laid_swept st (b ∷ bs) h =
      decide (not b.managed || held st b.serial)
      (λ y. rw y (h.0, h.1, apart_swept b.from (length b.cells) st bs h.2, h.3, each_swept (λ c. c.serial < b.serial) st bs h.4, laid_swept st bs h.5))
      (λ y. rw y (laid_swept st bs h.5))

  pub laid_stored : (s i x : ℕ) (bs : List Block) → Laid m n bs → Laid m n (stored bs s i x)
  laid_stored s i x [] h = tt
  laid_stored s i x (b ∷ bs) h =
      let l : length (set b.cells i x) ≡ length b.cells = length-set b.cells i x in
      decide (eqb b.serial s)
      (λ y. rw y ((h.0.0, h.0.1, l ∙ h.0.2), rw l h.1, rw l h.2, h.3, h.4, h.5))
      (λ y. rw y (
        h.0,
        h.1,
        apart_stored b.from (length b.cells) s i x bs h.2,
        h.3,
        each_stored (λ c. c.serial < b.serial) bs s i x h.4 (λ c e. each_find (λ c. c.serial < b.serial) bs s c h.4 e),
        laid_stored s i x bs h.5,
      ))

  packed_laid : (bs : List Block) → Laid m n bs → total bs ≤ n → Laid m n (packed bs)
  packed_laid [] h l = tt
  packed_laid (b ∷ bs) h l =
      (h.0, omega arith, apart_packed (total bs) (length b.cells) bs (omega arith), h.3, each_packed (λ c. c.serial < b.serial) (λ c k q. q) bs h.4, packed_laid bs h.5 (omega arith))

  pub laid_packed : (bs : List Block) → Laid m n bs → Laid m n (packed bs)
  laid_packed bs h = packed_laid bs h (total_fits m n bs h)

pub laid_collected : (m : Module) (k : ℕ) (st : List Slot) (h : Heap) → Laid m h.size h.blocks → Laid m (collected k st h).size (collected k st h).blocks
laid_collected m k st h l = go (lowest_run h' k)
  where
    h' : Heap
    h' = having h (swept st h.blocks)

    go : (o : Option ℕ) → Laid m (maybe o (having h' (packed h'.blocks)) (λ c. h')).size (maybe o (having h' (packed h'.blocks)) (λ c. h')).blocks
    go none = laid_packed m h.size (swept st h.blocks) (laid_swept m h.size st h.blocks l)
    go (some c) = laid_swept m h.size st h.blocks l
