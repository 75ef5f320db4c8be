-- A record that flows to a node: recorded there, or the body has no typing.
use Prim.Native.Nat.{ℕ, suc, ◌+◌, ◌*◌, ◌-◌, ◌≤◌, ◌<◌}
use mathlib.Core.Path.{◌≡◌, ap, ◌∙◌, sym, subst}
use mathlib.Core.Logic.{◌≢◌}
use native.Mathlib.Omega.{arith}
use mathlib.Core.Bool.{Bool, true, false}
use mathlib.Core.List.{List}
use mathlib.Core.Option.{some}
use lib.ListN.{length, get_or}
use lib.Seq.{paste, length-paste}
use lib.Dec.{eqb, ltb}
use Rattle.rules.specs.Tables.{Body, body_of, body_end}
use Rattle.rules.specs.ModuleFile.{refusal, labels, code_length, read, code_in, bodies_in, tables_in}
use Rattle.format.specs.declared.Sections.{Sections}
use Rattle.rules.specs.Check.{record_bytes}
use Rattle.soundness.specs.Tests.{decide, some_inj, false_true, eqb_is, eqb_isnt, ltb_is, ltb_isnt}
use Rattle.soundness.specs.Forced.{Forced, forced_twice}
use Rattle.soundness.specs.Readable.{Has, has_end, label_is, label_own, label_inside, place_inside}
use Rattle.soundness.specs.Cutting.{label_count_lem, code_length_lem, good_file}
use Rattle.records.specs.Record.{lists_of, Holds, Labelled}
use Rattle.records.specs.Canon.{holds_record}
use Rattle.nodes.specs.Nodes.{place_of, owner_of, Tabled, record_of, mark_of, listed_at, count_of, done_of, appended, unseen, Fits, Merged}
use Rattle.nodes.proofs.Copies.{positive, drop_past, part_same, record_other}
use Rattle.nodes.proofs.Lists.{appended_long, appended_mark, appended_marks, appended_count, appended_done, appended_last, appended_before, unseen_some, unseen_less}
use Rattle.nodes.proofs.Numbering.{label_at}
use Rattle.checker.specs.Work.{Grows, Recorded, WalkedIn, WalkedNode, Sound, Working, Standing, Left}
use Rattle.checker.proofs.Growth.{grows_refl, walked_grows}

-- records that show the same lists are the same
pub same_record : (r r' : List ℕ) → Holds r → Holds r' → lists_of r ≡ lists_of r' → r ≡ r'
same_record r r' h h' e = holds_record r h ∙ ap record_bytes e ∙ sym (holds_record r' h')

module _ (s table : List ℕ) (t : Tabled s table) (b : Body) (room marks : List ℕ) (f : Fits (labels s) room marks) (w : Sound s table room marks b)
    (q k : ℕ) (st : List ℕ) (held : Holds st) (placed : (read s).is_place b q ≡ true) (forced-here : Forced (read s) b q (lists_of st)) (before : q < body_end (bodies_in s) b) (is-node : get_or table q 0 ≡ suc k)
    (own : owner_of s k ≡ b) where
  numbered : k < labels s
  numbered = (t.node q k is-node).0

  place_is : place_of s k ≡ q
  place_is = (t.node q k is-node).1

  -- ---- the first record there

  low : k < 256
  low = let n : k < labels s = numbered in let h : labels s ≤ 256 = f.few in omega arith

  -- a node to which nothing has flowed is not yet on the list
  room_left : mark_of marks k ≡ 0 → count_of marks < 256
  room_left z =
      let n : 0 < unseen marks (labels s) = unseen_some marks (labels s) k numbered z in
      let h : labels s ≤ 256 = f.few in
      let g : count_of marks + unseen marks (labels s) ≤ labels s = w.few in omega arith

  module _ (first : mark_of marks k ≡ 0) where
    abbrev room₁ : List ℕ
    room₁ = paste room (64 * k) st 64

    abbrev marks₁ : List ℕ
    marks₁ = appended marks k

    free : count_of marks < 256
    free = room_left first

    fits : 64 * k + 64 ≤ length room
    fits = let h : 64 * labels s ≤ length room = f.room_for in let n : k < labels s = numbered in omega arith

    here : record_of room₁ k ≡ st
    here = part_same room st (64 * k) fits held.long

    marked : mark_of marks₁ k ≡ 1
    marked = appended_mark marks k f.whole low free

    count_is : count_of marks₁ ≡ count_of marks + 1
    count_is = appended_count marks k f.whole low free

    done_is : done_of marks₁ ≡ done_of marks
    done_is = appended_done marks k f.whole low free

    elsewhere : (j : ℕ) → j < labels s → j ≢ k → (record_of room₁ j ≡ record_of room j) × (mark_of marks₁ j ≡ mark_of marks j)
    elsewhere j l n =
        (record_other room st k j fits held.long n, appended_marks marks k f.whole low free j (let h : labels s ≤ 256 = f.few in omega arith) n)

    seen_other : (j : ℕ) → 0 < mark_of marks j → j ≢ k
    seen_other j m e = let z : mark_of marks j ≡ 0 = ap (mark_of marks) e ∙ first in omega arith

    seen_still : (j : ℕ) → j < labels s → 0 < mark_of marks j → 0 < mark_of marks₁ j
    seen_still j l m = let z : mark_of marks₁ j ≡ mark_of marks j = (elsewhere j l (seen_other j m)).1 in omega arith

    grown : Grows (labels s) room marks room₁ marks₁
    grown =
        record {
          rest = drop_past room st (64 * k) fits held.long (64 * labels s) (let n : k < labels s = numbered in omega arith);
          long = let l : length st ≡ 64 = held.long in length-paste room (64 * k) st 64 fits (omega arith);
          many = appended_long marks k f.whole low free;
          kept = λ j l m. ((elsewhere j l (seen_other j m)).0, seen_still j l m);
          more = let z : count_of marks₁ ≡ count_of marks + 1 = count_is in omega arith;
          order = appended_before marks k f.whole low free;
        }

    -- a node of the list, as before or the new one
    on_list : (P : ℕ → Type 0) (i : ℕ) → i < count_of marks₁ → (i < count_of marks → P (listed_at marks i)) → (i ≡ count_of marks → P k) → P (listed_at marks₁ i)
    on_list P i l old new =
        let z : count_of marks₁ ≡ count_of marks + 1 = count_is in
        decide (ltb i (count_of marks)) (λ y. let h : i < count_of marks = ltb_is i (count_of marks) y in subst P (sym (appended_before marks k f.whole low free i h)) (old h))
        (λ y. let g : count_of marks ≤ i = ltb_isnt i (count_of marks) y in
        let e : i ≡ count_of marks = omega arith in subst P (sym (ap (listed_at marks₁) e ∙ appended_last marks k f.whole low free)) (new e))

    sound₁ : Sound s table room₁ marks₁ b
    sound₁ =
        record {
          holds = λ j l m. decide (eqb j k) (λ y. let e : j ≡ k = eqb_is j k y in subst Holds (sym (ap (record_of room₁) e ∙ here)) held)
              (λ y. let x : (record_of room₁ j ≡ record_of room j) × (mark_of marks₁ j ≡ mark_of marks j) = elsewhere j l (eqb_isnt j k y) in
              let z : mark_of marks₁ j ≡ mark_of marks j = x.1 in subst Holds (sym x.0) (w.holds j l (omega arith)));
          forced = λ j l m. decide (eqb j k)
              (λ y. let e : j ≡ k = eqb_is j k y in
              subst (λ (i : ℕ). Forced (read s) (owner_of s i) (place_of s i) (lists_of (record_of room₁ i))) (sym e)
              (subst (λ (r : List ℕ). Forced (read s) (owner_of s k) (place_of s k) (lists_of r)) (sym here)
              (subst (λ (p : ℕ). Forced (read s) (owner_of s k) p (lists_of st)) (sym place_is)
              (subst (λ (a : Body). Forced (read s) a q (lists_of st)) (sym own) forced-here))))
              (λ y. let x : (record_of room₁ j ≡ record_of room j) × (mark_of marks₁ j ≡ mark_of marks j) = elsewhere j l (eqb_isnt j k y) in
              let z : mark_of marks₁ j ≡ mark_of marks j = x.1 in
              subst (λ (r : List ℕ). Forced (read s) (owner_of s j) (place_of s j) (lists_of r)) (sym x.0) (w.forced j l (omega arith)));
          listed = λ j l m. let c : count_of marks₁ ≡ count_of marks + 1 = count_is in
              decide (eqb j k) (λ y. (count_of marks, omega arith, appended_last marks k f.whole low free ∙ sym (eqb_is j k y)))
              (λ y. let z : mark_of marks₁ j ≡ mark_of marks j = (elsewhere j l (eqb_isnt j k y)).1 in
              let x : (i : ℕ) × (i < count_of marks) × (listed_at marks i ≡ j) = w.listed j l (omega arith) in
              let u : x.0 < count_of marks = x.1 in (x.0, omega arith, appended_before marks k f.whole low free x.0 u ∙ x.2));
          each = λ i l. on_list (λ (j : ℕ). (j < labels s) × (0 < mark_of marks₁ j)) i l (λ h. ((w.each i h).0, seen_still (listed_at marks i) (w.each i h).0 (w.each i h).1))
              (λ e. (numbered, let z : mark_of marks₁ k ≡ 1 = marked in omega arith));
          walked = λ i l. let d : done_of marks₁ ≡ done_of marks = done_is in
              let g : done_of marks ≤ count_of marks = w.behind in
              let h : i < count_of marks = omega arith in
              let j : ℕ = listed_at marks i in
              subst (WalkedNode s table room₁ marks₁) (sym (appended_before marks k f.whole low free i h))
              (subst (λ (r : List ℕ). WalkedIn s table room₁ marks₁ (owner_of s j) (place_of s j) (lists_of r)) (sym (elsewhere j (w.each i h).0 (seen_other j (w.each i h).1)).0)
              (walked_grows s table t room marks room₁ marks₁ grown (owner_of s j) (place_of s j) (lists_of (record_of room j)) (w.walked i (omega arith))));
          mine = λ i h l. let d : done_of marks₁ ≡ done_of marks = done_is in on_list (λ (j : ℕ). owner_of s j ≡ b) i l (λ g. w.mine i (omega arith) g) (λ e. own);
          behind = let c : count_of marks₁ ≡ count_of marks + 1 = count_is in
              let d : done_of marks₁ ≡ done_of marks = done_is in
              let g : done_of marks ≤ count_of marks = w.behind in omega arith;
          few = let c : count_of marks₁ ≡ count_of marks + 1 = count_is in
              let u : unseen marks (labels s) ≡ unseen marks₁ (labels s) + 1 = unseen_less marks marks₁ (labels s) k numbered first marked (λ j l n. (elsewhere j l n).1) in
              let g : count_of marks + unseen marks (labels s) ≤ labels s = w.few in omega arith;
        }

    pub first_arrived : Left s table b room marks room₁ marks₁ true (Recorded s table room₁ marks₁ b q (lists_of st))
    first_arrived =
        record {
          grows = grown;
          sound = sound₁;
          done = λ e. (placed, before, k, is-node, (let z : mark_of marks₁ k ≡ 1 = marked in omega arith), ap lists_of here);
          refuted = λ e. false_true (sym e);
        }

  -- ---- a later one

  module _ (seen : mark_of marks k ≡ 0 → ⊥) where
    known : 0 < mark_of marks k
    known = positive (mark_of marks k) seen

    pub later_arrived : (ok : Bool) → (ok ≡ true → record_of room k ≡ st) → (ok ≡ false → record_of room k ≡ st → ⊥)
        → Left s table b room marks room marks ok (Recorded s table room marks b q (lists_of st))
    later_arrived ok same other =
        record {
          grows = grows_refl (labels s) room marks;
          sound = w;
          done = λ e. (placed, before, k, is-node, known, ap lists_of (same e));
          refuted = λ e T c.
              other e (same_record (record_of room k) st (w.holds k numbered known) held
              (forced_twice (read s) b T c q (lists_of (record_of room k)) (lists_of st)
              (subst (λ (p : ℕ). Forced (read s) b p (lists_of (record_of room k))) place_is
              (subst (λ (a : Body). Forced (read s) a (place_of s k) (lists_of (record_of room k))) own (w.forced k numbered known)))
              forced-here));
        }

  pub arrived : (room' marks' : List ℕ) (ok : Bool) → Merged k st room marks room' marks' ok
      → Left s table b room marks room' marks' ok (Recorded s table room' marks' b q (lists_of st))
  arrived room' marks' ok m =
      decide (eqb (mark_of marks k) 0) (λ y. let z : mark_of marks k ≡ 0 = eqb_is (mark_of marks k) 0 y in went (m.first z) z)
      (λ y. let z : mark_of marks k ≡ 0 → ⊥ = eqb_isnt (mark_of marks k) 0 y in met (m.later z) z)
    where
      Goal : List ℕ → List ℕ → Bool → Type 0
      Goal x y o = Left s table b room marks x y o (Recorded s table x y b q (lists_of st))

      went : (ok ≡ true) × (room' ≡ paste room (64 * k) st 64) × (marks' ≡ appended marks k) → mark_of marks k ≡ 0 → Goal room' marks' ok
      went x z = subst (Goal room' marks') (sym x.0) (subst (λ (y : List ℕ). Goal room' y true) (sym x.2) (subst (λ (y : List ℕ). Goal y (appended marks k) true) (sym x.1) (first_arrived z)))

      met : (room' ≡ room) × (marks' ≡ marks) × (ok ≡ true → record_of room k ≡ st) × (ok ≡ false → record_of room k ≡ st → ⊥) → (mark_of marks k ≡ 0 → ⊥) → Goal room' marks' ok
      met x z = subst (λ (y : List ℕ). Goal room' y ok) (sym x.1) (subst (λ (y : List ℕ). Goal y marks ok) (sym x.0) (later_arrived z ok x.2 x.3))

  pub arrived_done : (room' marks' : List ℕ) (ok : Bool) → Merged k st room marks room' marks' ok → done_of marks' ≡ done_of marks
  arrived_done room' marks' ok m =
      decide (eqb (mark_of marks k) 0) (λ y. let z : mark_of marks k ≡ 0 = eqb_is (mark_of marks k) 0 y in ap done_of (m.first z).2 ∙ done_is z)
      (λ y. ap done_of (m.later (eqb_isnt (mark_of marks k) 0 y)).1)

-- ---- at the node numbered v from 1

module _ (s : List ℕ) (c : Sections) (table : List ℕ) (owner : ℕ) (room marks : List ℕ) (w : Working s c table owner room marks)
    (q v : ℕ) (is-node : v ≡ get_or table q 0) (some-node : 0 < v) where
  numbered_from : get_or table q 0 ≡ suc (v - 1)
  numbered_from = omega arith

  -- a node before the body's end is the body's own
  owner_is : (read s).is_place (body_of owner) q ≡ true → q < body_end (bodies_in s) (body_of owner) → owner_of s (v - 1) ≡ body_of owner
  owner_is h l =
      let n : (v - 1 < labels s) × (place_of s (v - 1) ≡ q) = w.tabled.node q (v - 1) numbered_from in
      label_own (tables_in s) (good_file s w.readable) (v - 1) (owner_of s (v - 1)) (body_of owner) q (body_end (bodies_in s) (body_of owner))
      (label_at s w.readable (v - 1) n.0 ∙ ap (λ (p : ℕ). some (owner_of s (v - 1), p)) n.1) h (has_end (tables_in s) (good_file s w.readable) (body_of owner) w.has) l

  module _ (st : List ℕ) (at : Standing s owner q st) (l : q < body_end (bodies_in s) (body_of owner)) where
    pub node_arrived : (room' marks' : List ℕ) (ok : Bool) → Merged (v - 1) st room marks room' marks' ok
        → Left s table (body_of owner) room marks room' marks' ok (Recorded s table room' marks' (body_of owner) q (lists_of st))
    node_arrived =
        arrived s table w.tabled (body_of owner) room marks w.fits w.sound q (v - 1) st at.holds at.stands.place at.stands.forced l numbered_from (owner_is at.stands.place l)

    pub node_done : (room' marks' : List ℕ) (ok : Bool) → Merged (v - 1) st room marks room' marks' ok → done_of marks' ≡ done_of marks
    node_done =
        arrived_done s table w.tabled (body_of owner) room marks w.fits w.sound q (v - 1) st at.holds at.stands.place at.stands.forced l numbered_from (owner_is at.stands.place l)

    pub node_fits : (64 * (v - 1) + 64 ≤ length room) × (v - 1 < 256) × (mark_of marks (v - 1) ≡ 0 → count_of marks < 256)
    node_fits =
        let n : v - 1 < labels s = (w.tabled.node q (v - 1) numbered_from).0 in
        let x : 64 * labels s ≤ length room = w.fits.room_for in
        let y : labels s ≤ 256 = w.fits.few in (
          omega arith,
          omega arith,
          room_left s table w.tabled (body_of owner) room marks w.fits w.sound q (v - 1) st at.holds at.stands.place at.stands.forced l numbered_from (owner_is at.stands.place l),
        )

-- a place of the body that is not its end lies before it
pub before_end : (s : List ℕ) (e : refusal s ≡ 0) (b : Body) → Has (bodies_in s) b → (q : ℕ) → (read s).is_place b q ≡ true → (q ≡ body_end (bodies_in s) b → ⊥) → q < body_end (bodies_in s) b
before_end s e b h q i n =
    let x : q ≤ body_end (bodies_in s) b = (place_inside (tables_in s) (good_file s e) b q h i).1 in
    decide (ltb q (body_end (bodies_in s) b)) (λ y. ltb_is q (body_end (bodies_in s) b) y) (λ y. let z : body_end (bodies_in s) b ≤ q = ltb_isnt q (body_end (bodies_in s) b) y in absurd (n (omega arith)))

-- a place of a body is in the table
pub place_in_table : (s table : List ℕ) (e : refusal s ≡ 0) → Tabled s table → (b : Body) → Has (bodies_in s) b → (q : ℕ) → (read s).is_place b q ≡ true → q < length table
place_in_table s table e t b h q i =
    let x = place_inside (tables_in s) (good_file s e) b q h i in
    let y : q ≤ body_end (bodies_in s) b = x.1 in
    let z : body_end (bodies_in s) b ≤ length (code_in s) = x.2 in
    let w : code_length s < length table = t.wide in omega (arith, code_length_lem s e)

-- a labelled place is a node before the body's end
pub label_node : (s table : List ℕ) (e : refusal s ≡ 0) (t : Tabled s table) (b : Body) → Has (bodies_in s) b → (q : ℕ) → Labelled (read s) b q → (q < body_end (bodies_in s) b) × (0 < get_or table q 0)
label_node s table e t b h q n =
    let k : ℕ = n.0 in
    let l : k < labels s = subst (λ (n : ℕ). k < n) (label_count_lem s e) (label_is (tables_in s) (good_file s e) k b q n.1).0 in
    let z : place_of s k ≡ q = ap (λ (x : Body × ℕ). x.1) (some_inj (owner_of s k, place_of s k) (b, q) (sym (label_at s e k l) ∙ n.1)) in
    let x : (j : ℕ) × (get_or table (place_of s k) 0 ≡ suc j) × (j ≤ k) = t.found k l in
    let y : get_or table q 0 ≡ suc x.0 = ap (λ (p : ℕ). get_or table p 0) (sym z) ∙ x.1 in
    (label_inside (tables_in s) (good_file s e) k b q (body_end (bodies_in s) b) n.1 (has_end (tables_in s) (good_file s e) b h), omega arith)
