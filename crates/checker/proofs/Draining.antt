-- The nodes that wait, walked from one by one until none waits.
use Prim.Native.Nat.{ℕ, ◌+◌, ◌*◌, ◌-◌, ◌≤◌, ◌<◌}
use mathlib.Core.Path.{◌≡◌, refl, ap, ◌∙◌, sym, subst}
use native.Mathlib.Omega.{arith}
use mathlib.Core.Bool.{Bool, true, false}
use mathlib.Core.List.{List}
use lib.ListN.{length}
use lib.Dec.{ltb}
use Rattle.rules.specs.Tables.{Body, body_of}
use Rattle.rules.specs.ModuleFile.{labels, read, tables_in}
use Rattle.rules.specs.Typing.{Lists}
use Rattle.format.specs.declared.Sections.{Sections}
use Rattle.soundness.specs.Tests.{decide, false_true, ltb_is, ltb_isnt}
use Rattle.soundness.specs.Forced.{Forced}
use Rattle.soundness.specs.Readable.{orderly}
use Rattle.soundness.specs.Cutting.{good_file}
use Rattle.records.specs.Record.{lists_of}
use Rattle.std.specs.Prelude.{Some, None}
use Rattle.nodes.specs.Nodes.{place_of, owner_of, record_of, mark_of, listed_at, count_of, done_of, advanced, waiting_in, unseen, Fits}
use Rattle.nodes.proofs.Numbering.{label_at}
use Rattle.nodes.proofs.Lists.{advanced_long, advanced_done, advanced_word, node_waits, nothing_waits, unseen_same}
use Rattle.checker.specs.Work.{Grows, WalkedIn, WalkedNode, Sound, Working, Standing, Quiet, Next, Left}
use Rattle.checker.proofs.Growth.{grows_refl, grows_trans, walked_grows}
use Rattle.checker.proofs.Turns.{still_working}

-- all listed nodes are labels
pub few_listed : (s table room marks : List ℕ) (b : Body) → Sound s table room marks b → Fits (labels s) room marks → (count_of marks ≤ labels s) × (labels s ≤ 256)
few_listed s table room marks b w f = let h : count_of marks + unseen marks (labels s) ≤ labels s = w.few in (omega arith, f.few)

-- ---- one node

module _ (s : List ℕ) (c : Sections) (table : List ℕ) (owner : ℕ) (room marks : List ℕ) (w : Working s c table owner room marks) (k : ℕ) (next : Next marks k) where
  listed_next : listed_at marks (done_of marks) ≡ k
  listed_next = sym next.1

  pub next_numbered : k < labels s
  next_numbered = subst (λ (j : ℕ). j < labels s) listed_next (w.sound.each (done_of marks) next.0).0

  seen : 0 < mark_of marks k
  seen = subst (λ (j : ℕ). 0 < mark_of marks j) listed_next (w.sound.each (done_of marks) next.0).1

  owner_is : owner_of s k ≡ body_of owner
  owner_is = subst (λ (j : ℕ). owner_of s j ≡ body_of owner) listed_next (w.sound.mine (done_of marks) (omega arith) next.0)

  -- the walk starts with the node's record
  pub node_standing : (p : ℕ) (st : List ℕ) → p ≡ place_of s k → st ≡ record_of room k → Standing s owner p st
  node_standing p st e f =
      subst (λ (q : ℕ). Standing s owner q st) (sym e) (subst (λ (r : List ℕ). Standing s owner (place_of s k) r) (sym f)
      (record {
        holds = w.sound.holds k next_numbered seen;
        stands = record {
          place = subst (λ (b : Body). (read s).is_place b (place_of s k) ≡ true) owner_is ((orderly (tables_in s) (good_file s w.readable)).lands k (owner_of s k) (place_of s k) (label_at s w.readable k next_numbered));
          forced = subst (λ (b : Body). Forced (read s) b (place_of s k) (lists_of (record_of room k))) owner_is (w.sound.forced k next_numbered seen);
        };
      }))

  pub node_fits : 64 * k + 64 ≤ length room
  node_fits = let h : 64 * labels s ≤ length room = w.fits.room_for in let n : k < labels s = next_numbered in omega arith

  module _ (room₁ marks₁ : List ℕ) (p : ℕ) (st : List ℕ) (place_is : p ≡ place_of s k) (record_is : st ≡ record_of room k) (steady : done_of marks₁ ≡ done_of marks) where
    abbrev Result : Bool → Type 0
    Result ok = Left s table (body_of owner) room marks room₁ marks₁ ok (WalkedIn s table room₁ marks₁ (body_of owner) p (lists_of st))

    pub node_refused : Result false → Left s table (body_of owner) room marks room₁ marks₁ false (done_of marks₁ ≡ done_of marks + 1)
    node_refused x = record { grows = x.grows; sound = x.sound; done = λ z. false_true z; refuted = x.refuted }

    module _ (x : Result true) where
      whole : length marks₁ ≡ 514
      whole = x.grows.many ∙ w.fits.whole

      abbrev marks₂ : List ℕ
      marks₂ = advanced marks₁

      done_is : done_of marks₂ ≡ done_of marks₁ + 1
      done_is = advanced_done marks₁ whole

      count_is : count_of marks₂ ≡ count_of marks₁
      count_is = advanced_word marks₁ whole 512 (omega arith)

      few : (count_of marks₁ ≤ labels s) × (labels s ≤ 256)
      few = let h : count_of marks₁ + unseen marks₁ (labels s) ≤ labels s = x.sound.few in (omega arith, w.fits.few)

      mark_is : (j : ℕ) → j < labels s → mark_of marks₂ j ≡ mark_of marks₁ j
      mark_is j l = let h : labels s ≤ 256 = few.1 in advanced_word marks₁ whole j (omega arith)

      listed_is : (i : ℕ) → i < count_of marks₁ → listed_at marks₂ i ≡ listed_at marks₁ i
      listed_is i l = let g : count_of marks₁ ≤ labels s = few.0 in let h : labels s ≤ 256 = few.1 in advanced_word marks₁ whole (256 + i) (omega arith)

      -- what holds of the nodes of the list, and of those to which something has flowed, holds still
      on_list : (P : ℕ → Type 0) (i : ℕ) → i < count_of marks₂ → (i < count_of marks₁ → P (listed_at marks₁ i)) → P (listed_at marks₂ i)
      on_list P i l f = let c : count_of marks₂ ≡ count_of marks₁ = count_is in let h : i < count_of marks₁ = omega arith in subst P (sym (listed_is i h)) (f h)

      was_seen : (j : ℕ) → j < labels s → 0 < mark_of marks₂ j → 0 < mark_of marks₁ j
      was_seen j l m = let z : mark_of marks₂ j ≡ mark_of marks₁ j = mark_is j l in omega arith

      is_seen : (j : ℕ) → j < labels s → 0 < mark_of marks₁ j → 0 < mark_of marks₂ j
      is_seen j l m = let z : mark_of marks₂ j ≡ mark_of marks₁ j = mark_is j l in omega arith

      marked_more : Grows (labels s) room₁ marks₁ room₁ marks₂
      marked_more =
          record {
            rest = refl;
            long = refl;
            many = advanced_long marks₁ whole;
            kept = λ j l m. (refl, is_seen j l m);
            more = let c : count_of marks₂ ≡ count_of marks₁ = count_is in omega arith;
            order = listed_is;
          }

      still : (b : Body) (q : ℕ) (l : Lists) → WalkedIn s table room₁ marks₁ b q l → WalkedIn s table room₁ marks₂ b q l
      still = walked_grows s table w.tabled room₁ marks₁ room₁ marks₂ marked_more

      -- the walk from this node
      walked_here : WalkedNode s table room₁ marks₂ k
      walked_here =
          subst (λ (b : Body). WalkedIn s table room₁ marks₂ b (place_of s k) (lists_of (record_of room₁ k))) (sym owner_is)
          (subst (λ (r : List ℕ). WalkedIn s table room₁ marks₂ (body_of owner) (place_of s k) (lists_of r)) (record_is ∙ sym (x.grows.kept k next_numbered seen).0)
          (subst (λ (q : ℕ). WalkedIn s table room₁ marks₂ (body_of owner) q (lists_of st)) place_is (still (body_of owner) p (lists_of st) (x.done refl))))

      -- it is the first of those that waited
      this_listed : listed_at marks₁ (done_of marks₁) ≡ k
      this_listed = ap (listed_at marks₁) steady ∙ x.grows.order (done_of marks) next.0 ∙ listed_next

      this_waited : done_of marks₁ < count_of marks₁
      this_waited = let a : done_of marks < count_of marks = next.0 in let b : count_of marks ≤ count_of marks₁ = x.grows.more in omega arith

      walked_all : (i : ℕ) → i < done_of marks₂ → WalkedNode s table room₁ marks₂ (listed_at marks₂ i)
      walked_all i l =
          let d : done_of marks₂ ≡ done_of marks₁ + 1 = done_is in
          let g : done_of marks₁ < count_of marks₁ = this_waited in
          let h : i < count_of marks₁ = omega arith in
          subst (WalkedNode s table room₁ marks₂) (sym (listed_is i h))
          (decide (ltb i (done_of marks₁))
          (λ y. let j : ℕ = listed_at marks₁ i in still (owner_of s j) (place_of s j) (lists_of (record_of room₁ j)) (x.sound.walked i (ltb_is i (done_of marks₁) y)))
          (λ y. let u : done_of marks₁ ≤ i = ltb_isnt i (done_of marks₁) y in
          let e : i ≡ done_of marks₁ = omega arith in subst (WalkedNode s table room₁ marks₂) (sym (ap (listed_at marks₁) e ∙ this_listed)) walked_here))

      pub node_walked : Left s table (body_of owner) room marks room₁ marks₂ true (done_of marks₂ ≡ done_of marks + 1)
      node_walked =
          record {
            grows = grows_trans (labels s) room marks room₁ marks₁ room₁ marks₂ x.grows marked_more;
            sound = record {
              holds = λ j l m. x.sound.holds j l (was_seen j l m);
              forced = λ j l m. x.sound.forced j l (was_seen j l m);
              listed = λ j l m. let y : (i : ℕ) × (i < count_of marks₁) × (listed_at marks₁ i ≡ j) = x.sound.listed j l (was_seen j l m) in
                  let c : count_of marks₂ ≡ count_of marks₁ = count_is in
                  let u : y.0 < count_of marks₁ = y.1 in (y.0, omega arith, listed_is y.0 u ∙ y.2);
              each = λ i l. on_list (λ (j : ℕ). (j < labels s) × (0 < mark_of marks₂ j)) i l
                  (λ h. ((x.sound.each i h).0, is_seen (listed_at marks₁ i) (x.sound.each i h).0 (x.sound.each i h).1));
              walked = walked_all;
              mine = λ i h l. let d : done_of marks₂ ≡ done_of marks₁ + 1 = done_is in on_list (λ (j : ℕ). owner_of s j ≡ body_of owner) i l (λ g. x.sound.mine i (omega arith) g);
              behind = let c : count_of marks₂ ≡ count_of marks₁ = count_is in
                  let d : done_of marks₂ ≡ done_of marks₁ + 1 = done_is in
                  let g : done_of marks₁ < count_of marks₁ = this_waited in omega arith;
              few = let c : count_of marks₂ ≡ count_of marks₁ = count_is in
                  let u : unseen marks₂ (labels s) ≡ unseen marks₁ (labels s) = unseen_same marks₁ marks₂ (labels s) mark_is in
                  let h : count_of marks₁ + unseen marks₁ (labels s) ≤ labels s = x.sound.few in omega arith;
            };
            done = λ z. done_is ∙ ap (λ (n : ℕ). n + 1) steady;
            refuted = λ z. false_true (sym z);
          }

      pub advance_fits : done_of marks₁ < 256
      advance_fits = let g : done_of marks₁ < count_of marks₁ = this_waited in let h : count_of marks₁ ≤ labels s = few.0 in let n : labels s ≤ 256 = few.1 in omega arith

-- ---- all of them

pub record Draining (s table : List ℕ) (owner : ℕ) (room₀ marks₀ room marks : List ℕ) : Type 0 where
  pub grows : Grows (labels s) room₀ marks₀ room marks
  pub sound : Sound s table room marks (body_of owner)

module _ (s : List ℕ) (c : Sections) (table : List ℕ) (owner : ℕ) (room₀ marks₀ : List ℕ) (w₀ : Working s c table owner room₀ marks₀) where
  pub drain_first : Draining s table owner room₀ marks₀ room₀ marks₀
  drain_first = record { grows = grows_refl (labels s) room₀ marks₀; sound = w₀.sound }

  module _ (room marks : List ℕ) (d : Draining s table owner room₀ marks₀ room marks) where
    pub draining_works : Working s c table owner room marks
    draining_works = still_working s c table owner room₀ marks₀ room marks w₀ d.grows d.sound

    pub first_fits : (length marks ≡ 514) × (done_of marks ≤ count_of marks) × (count_of marks ≤ 256)
    first_fits =
        let x : (count_of marks ≤ labels s) × (labels s ≤ 256) = few_listed s table room marks (body_of owner) d.sound draining_works.fits in
        let y : count_of marks ≤ labels s = x.0 in let z : labels s ≤ 256 = x.1 in (draining_works.fits.whole, d.sound.behind, omega arith)

    pub drained : waiting_in marks ≡ None → Left s table (body_of owner) room₀ marks₀ room marks true (Quiet marks)
    drained e = record { grows = d.grows; sound = d.sound; done = λ z. nothing_waits marks e; refuted = λ z. false_true (sym z) }

    module _ (k : ℕ) (e : waiting_in marks ≡ Some k) where
      pub next_is : Next marks k
      next_is = let h : done_of marks ≤ count_of marks = d.sound.behind in let n = (node_waits marks k e).0 in (less h n, (node_waits marks k e).1)
        where
          less : done_of marks ≤ count_of marks → (done_of marks ≡ count_of marks → ⊥) → done_of marks < count_of marks
          less h n = decide (ltb (done_of marks) (count_of marks)) (λ y. ltb_is (done_of marks) (count_of marks) y)
              (λ y. let g : count_of marks ≤ done_of marks = ltb_isnt (done_of marks) (count_of marks) y in absurd (n (omega arith)))

      module _ (room' marks' : List ℕ) where
        pub drain_on : Left s table (body_of owner) room marks room' marks' true (done_of marks' ≡ done_of marks + 1) → Draining s table owner room₀ marks₀ room' marks'
        drain_on x = record { grows = grows_trans (labels s) room₀ marks₀ room marks room' marks' d.grows x.grows; sound = x.sound }

        pub drain_less : Left s table (body_of owner) room marks room' marks' true (done_of marks' ≡ done_of marks + 1) → labels s - done_of marks' < labels s - done_of marks
        drain_less x =
            let a : done_of marks < count_of marks = next_is.0 in
            let b : count_of marks ≤ labels s = (few_listed s table room marks (body_of owner) d.sound draining_works.fits).0 in
            let z : done_of marks' ≡ done_of marks + 1 = x.done refl in omega arith

        pub drain_stops : Left s table (body_of owner) room marks room' marks' false (done_of marks' ≡ done_of marks + 1)
            → Left s table (body_of owner) room₀ marks₀ room' marks' false (Quiet marks')
        drain_stops x =
            record {
              grows = grows_trans (labels s) room₀ marks₀ room marks room' marks' d.grows x.grows;
              sound = x.sound;
              done = λ z. false_true z;
              refuted = x.refuted;
            }
