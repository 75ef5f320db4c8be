-- A walk's turns: what follows an instruction, up to the next nodes.
use Prim.Native.Nat.{ℕ, ◌≤◌}
use mathlib.Core.Path.{refl}
use native.Mathlib.Omega.{arith}
use mathlib.Core.Bool.{true, false}
use mathlib.Core.List.{List, [], ◌∷◌}
use Rattle.rules.specs.Tables.{Body, body_of, body_end}
use Rattle.rules.specs.ModuleFile.{labels, bodies_in}
use Rattle.format.specs.declared.Sections.{Sections}
use Rattle.rules.specs.Typing.{Lists}
use Rattle.soundness.specs.Walks.{ends, meets, passes}
use Rattle.records.specs.declared.Transfer.{Transfer}
use Rattle.checker.specs.declared.walk.Turn.{Turn}
use Rattle.checker.specs.declared.walk.Turn.TheVariants.{Breaks, Ends, Goes as On}
use Rattle.nodes.specs.Nodes.{Tabled}
use Rattle.checker.specs.Work.{Grows, Recorded, Passed, Sound, Working, Stands, Refuted, Left, TurnIs, Turned, Leads, TurnLeads}
use Rattle.checker.proofs.Growth.{grows_refl, grows_trans, fits_grows, recorded_grows}

module _ (s table : List ℕ) (b : Body) (p q : ℕ) (l : Lists) where
  -- the walk goes on at a place that is passed
  pub passes_on : (room marks : List ℕ) → Sound s table room marks b → p ≤ q → Stands s b q l → Passed table (body_end (bodies_in s) b) q
      → Turned s table b p l ((q, l) ∷ []) room marks room marks (On q)
  passes_on room marks w h st u =
      record {
        grows = grows_refl (labels s) room marks;
        sound = w;
        turn = (h, st, u, λ room' marks' g x. passes q l x.next [] u x.fine x.flow x.goes ends);
      }

  -- it comes to a node
  pub node_met : (room marks room' marks' : List ℕ) → Left s table b room marks room' marks' true (Recorded s table room' marks' b q l)
      → Turned s table b p l ((q, l) ∷ []) room marks room' marks' Ends
  node_met room marks room' marks' a = record { grows = a.grows; sound = a.sound; turn = meets q l [] (a.done refl) ends }

  -- no typing: another record stands there
  pub node_breaks : (ns : List (ℕ × Lists)) (room marks room' marks' : List ℕ) → Left s table b room marks room' marks' false (Recorded s table room' marks' b q l)
      → Turned s table b p l ns room marks room' marks' Breaks
  node_breaks ns room marks room' marks' a = record { grows = a.grows; sound = a.sound; turn = a.refuted refl }

pub stops_turn : (s table : List ℕ) (b : Body) (p : ℕ) (l : Lists) (room marks : List ℕ) → Sound s table room marks b → Turned s table b p l [] room marks room marks Ends
stops_turn s table b p l room marks w = record { grows = grows_refl (labels s) room marks; sound = w; turn = ends }

pub breaks_turn : (s table : List ℕ) (b : Body) (p : ℕ) (l : Lists) (ns : List (ℕ × Lists)) (room marks : List ℕ) → Sound s table room marks b → Refuted s b
    → Turned s table b p l ns room marks room marks Breaks
breaks_turn s table b p l ns room marks w r = record { grows = grows_refl (labels s) room marks; sound = w; turn = r }

-- after a node, the other way of a branch
pub both_ways : (s table : List ℕ) (t : Tabled s table) (b : Body) (p x : ℕ) (l : Lists) (ns : List (ℕ × Lists)) (room marks room₁ marks₁ room₂ marks₂ : List ℕ) (a : Turn)
    → Left s table b room marks room₁ marks₁ true (Recorded s table room₁ marks₁ b x l) → Turned s table b p l ns room₁ marks₁ room₂ marks₂ a
    → Turned s table b p l ((x, l) ∷ ns) room marks room₂ marks₂ a
both_ways s table t b p x l ns room marks room₁ marks₁ room₂ marks₂ a f g =
    record { grows = grows_trans (labels s) room marks room₁ marks₁ room₂ marks₂ f.grows g.grows; sound = g.sound; turn = on a g.turn }
  where
    there : (room' marks' : List ℕ) → Grows (labels s) room₁ marks₁ room' marks' → Recorded s table room' marks' b x l
    there room' marks' h = recorded_grows s table t room₁ marks₁ room' marks' h b x l (f.done refl)

    on : (a : Turn) → TurnIs s table b p l ns room₂ marks₂ a → TurnIs s table b p l ((x, l) ∷ ns) room₂ marks₂ a
    on Breaks r = r
    on Ends r = meets x l ns (there room₂ marks₂ g.grows) r
    on (On q) r =
        (r.0, r.1, r.2, λ room' marks' h y. meets x l ns (there room' marks' (grows_trans (labels s) room₁ marks₁ room₂ marks₂ room' marks' g.grows h)) (r.3 room' marks' h y))

-- ---- between the parts of a turn

pub from_earlier : (s table : List ℕ) (b : Body) (p q : ℕ) (l : Lists) (ns : List (ℕ × Lists)) (room marks room' marks' : List ℕ) (a : Turn) → p ≤ q
    → Turned s table b q l ns room marks room' marks' a → Turned s table b p l ns room marks room' marks' a
from_earlier s table b p q l ns room marks room' marks' a h x = record { grows = x.grows; sound = x.sound; turn = go a x.turn }
  where
    go : (a : Turn) → TurnIs s table b q l ns room' marks' a → TurnIs s table b p l ns room' marks' a
    go Breaks r = r
    go Ends r = r
    go (On x) r = (let k : q ≤ x = r.0 in omega arith, r.1, r.2, r.3)

pub turn_leads : (a : Transfer) → Leads a → (t : Turn) → TurnLeads a t
turn_leads a h Breaks = tt
turn_leads a h Ends = h
turn_leads a h (On q) = h

-- the parts of the loop can go on with what a part has left
pub still_working : (s : List ℕ) (c : Sections) (table : List ℕ) (owner : ℕ) (room marks room' marks' : List ℕ) → Working s c table owner room marks
    → Grows (labels s) room marks room' marks' → Sound s table room' marks' (body_of owner) → Working s c table owner room' marks'
still_working s c table owner room marks room' marks' w g h =
    record { packed = w.packed; readable = w.readable; tabled = w.tabled; has = w.has; fits = fits_grows (labels s) room marks room' marks' w.fits g; sound = h }
