-- A walk: from a place straight on, instruction by instruction, until it ends at nodes or the body has no typing.
use Prim.Native.Nat.{ℕ, ◌+◌, ◌-◌, ◌≤◌, ◌<◌}
use mathlib.Core.Path.{◌≡◌, refl, ap, ◌∙◌, sym, subst}
use mathlib.Core.Logic.{inl, inr}
use native.Mathlib.Omega.{arith}
use mathlib.Core.Bool.{true, false}
use mathlib.Core.Option.{none, some}
use mathlib.Core.List.{List, [], ◌∷◌}
use lib.ListN.{length}
use lib.Dec.{leb, eqb}
use Rattle.rules.specs.declared.Instruction.{Instruction}
use Rattle.reader.proofs.Records.{code_length_lem}
use Rattle.rules.specs.Bytes.{word}
use Rattle.rules.specs.Instructions.{size}
use Rattle.rules.specs.Tables.{Body, entry, fn, body_of, body_start, body_end}
use Rattle.rules.specs.ModuleFile.{code_length, refusal, labels, read, bodies_in, tables_in, code_in}
use Rattle.format.specs.declared.Sections.{Sections}
use Rattle.rules.specs.Typing.{Lists, Flow, AllNext, Flows, Gives, end_of, end_flow, place_flow}
use Rattle.rules.specs.Check.{small}
use Rattle.soundness.specs.Tests.{decide, none_some, some_inj, false_true, and_intro, leb_isnt, leb_yes, eqb_is, eqb_isnt}
use Rattle.soundness.specs.Exact.{After as Behind}
use Rattle.soundness.specs.Forced.{along, forced_given}
use Rattle.soundness.specs.Readable.{Has, orderly, has_end, place_inside}
use Rattle.soundness.specs.Cutting.{good_file}
use Rattle.soundness.specs.Walks.{ends, size_some}
use Rattle.keys.specs.Keys.{decoded, Keyed}
use Rattle.std.specs.Prelude.{Some, None}
use Rattle.keys.proofs.Places.{at_end_lem, at_key}
use Rattle.keys.proofs.Files.{code_long}
use Rattle.transfer.specs.Transfers.{KeyAt, Moves}
use Rattle.records.specs.Record.{lists_of, Holds, Labelled, flow_of, all_small, bounded}
use Rattle.records.specs.Laws.{holds_small}
use Rattle.records.specs.declared.Transfer.{Transfer}
use Rattle.checker.specs.declared.walk.Turn.{Turn}
use Rattle.checker.specs.declared.walk.Turn.TheVariants.{Breaks, Ends, Goes as On}
use Rattle.checker.specs.Work.{Grows, Moved, WalkedIn, GoesIn, Sound, Working, Stands, Refuted, Left, Heads, targets, Turned, Leads, TurnLeads}
use Rattle.checker.proofs.Growth.{grows_refl, grows_trans}
use Rattle.checker.proofs.Steps.{key_at_lem, moved, entry_ends, function_ends}

flow_live : (a : Transfer) (l : Lists) → Leads a → flow_of a l ≡ some (targets a l)
flow_live Transfer.Breaks l h = absurd h
flow_live Transfer.Stops l h = refl
flow_live (Transfer.Falls q) l h = refl
flow_live (Transfer.Jumps q) l h = refl
flow_live (Transfer.Forks x q) l h = refl

-- a flow that is not cut off is the whole flow
whole_flow : (w : Flow) (ns : List (ℕ × Lists)) → bounded w ≡ some ns → w ≡ some ns
unfolding bounded
whole_flow none ns e = none_some e
whole_flow (some xs) ns e = decide (all_small xs) (λ y. rw y at e) (λ y. none_some (rw y at e))

-- ---- the loop: started at p₀ with the record st₀, now at p with st

module _ (s table : List ℕ) (owner : ℕ) where
  pub record Walking (p₀ : ℕ) (st₀ room₀ marks₀ : List ℕ) (p : ℕ) (st room marks : List ℕ) : Type 0 where
    pub grows : Grows (labels s) room₀ marks₀ room marks
    pub sound : Sound s table room marks (body_of owner)
    pub holds : Holds st
    pub stands : Stands s (body_of owner) p (lists_of st)
    pub rest : (room' marks' : List ℕ) → Grows (labels s) room marks room' marks'
        → WalkedIn s table room' marks' (body_of owner) p (lists_of st) → WalkedIn s table room' marks' (body_of owner) p₀ (lists_of st₀)

module _ (s table : List ℕ) (e : refusal s ≡ 0) (owner : ℕ) (has : Has (bodies_in s) (body_of owner)) where
  ended : end_of (read s) (body_of owner) ≡ some (body_end (bodies_in s) (body_of owner))
  ended = has_end (tables_in s) (good_file s e) (body_of owner) has

  flow_is : (p : ℕ) (st : List ℕ) (a : Transfer) (st' : List ℕ) → Moved s owner p st a st' → Leads a → place_flow (read s) (body_of owner) p (lists_of st) ≡ some (targets a (lists_of st'))
  flow_is p st a st' m h = whole_flow (place_flow (read s) (body_of owner) p (lists_of st)) (targets a (lists_of st')) (m.flow ∙ flow_live a (lists_of st') h)

  -- no typing, where an instruction has no flow or leaves lists that are too long
  breaks : (p : ℕ) (st st' : List ℕ) → Stands s (body_of owner) p (lists_of st) → Moved s owner p st Transfer.Breaks st' → Refuted s (body_of owner)
  unfolding bounded
  breaks p st st' at m T c = go (place_flow (read s) (body_of owner) p (lists_of st)) m.flow (c.flows p (lists_of st) (forced_given (read s) (body_of owner) T c p (lists_of st) at.forced))
    where
      all_small_lem : (ns : List (ℕ × Lists)) → AllNext (Gives T) ns → all_small ns ≡ true
      all_small_lem [] h = refl
      all_small_lem (x ∷ ns) h =
          let f : (length x.1.locals ≤ 16) × (length x.1.operands ≤ 32) = c.few x.0 x.1 h.0 in
          and_intro (small x.1) (all_small ns)
          (and_intro (leb (length x.1.locals) 16) (leb (length x.1.operands) 32) (leb_yes (length x.1.locals) 16 f.0) (leb_yes (length x.1.operands) 32 f.1))
          (all_small_lem ns h.1)

      go : (w : Flow) → bounded w ≡ none → Flows (Gives T) w → ⊥
      go none q h = h
      go (some ns) q h = none_some (sym (rw (all_small_lem ns h) at q))

  -- ---- the places that follow

  inside : (p : ℕ) (l : Lists) (x : ℕ × Lists) (ns : List (ℕ × Lists)) → place_flow (read s) (body_of owner) p l ≡ some (x ∷ ns) → p < body_end (bodies_in s) (body_of owner)
  inside p l x ns q = decide (leb (body_end (bodies_in s) (body_of owner)) p) (λ y. absurd (at_end_lem (body_of owner) (rw (ended, y) at q))) (λ y. leb_isnt (body_end (bodies_in s) (body_of owner)) p y)
    where
      at_end_lem : (d : Body) → end_flow d ≡ some (x ∷ ns) → ⊥
      at_end_lem entry z = let k : ◌≡◌ {A = ℕ} 0 1 = cc in omega arith
      at_end_lem (fn k) z = none_some z

  next_stands : (p q : ℕ) → (read s).is_place (body_of owner) p ≡ true → p < body_end (bodies_in s) (body_of owner) → Behind (read s) (body_of owner) p q → (p + 1 ≤ q) × ((read s).is_place (body_of owner) q ≡ true)
  next_stands p q h l n =
      let x : (i : Instruction) × ((read s).code p ≡ some i) × ((read s).is_place (body_of owner) (p + size i) ≡ true) = (orderly (tables_in s) (good_file s e)).goes_on (body_of owner) (body_end (bodies_in s) (body_of owner)) p ended h l in
      let z : x.0 ≡ n.0 = some_inj x.0 n.0 (sym x.1 ∙ n.1) in
      let y : q ≡ p + size n.0 = n.2 in
      let o : 0 < size n.0 = size_some n.0 in
      (omega arith, subst (λ (k : ℕ). (read s).is_place (body_of owner) k ≡ true) (ap (λ (i : Instruction). p + size i) z ∙ sym y) x.2)

  label_stands : (x : ℕ) → Labelled (read s) (body_of owner) x → (read s).is_place (body_of owner) x ≡ true
  label_stands x n = (orderly (tables_in s) (good_file s e)).lands n.0 (body_of owner) x n.1

  pub heads : (p : ℕ) (st : List ℕ) (a : Transfer) (st' : List ℕ) → Stands s (body_of owner) p (lists_of st) → Moved s owner p st a st' → Heads s (body_of owner) (p + 1) (lists_of st') a
  heads p st Transfer.Breaks st' at m = breaks p st st' at m
  heads p st Transfer.Stops st' at m = tt
  heads p st (Transfer.Falls q) st' at m =
      let l : Lists = lists_of st' in
      let f : place_flow (read s) (body_of owner) p (lists_of st) ≡ some ((q, l) ∷ []) = flow_is p st (Transfer.Falls q) st' m tt in
      let n : (p + 1 ≤ q) × ((read s).is_place (body_of owner) q ≡ true) = next_stands p q at.place (inside p (lists_of st) (q, l) [] f) m.leads in
      (n.0, record { place = n.1; forced = along p (lists_of st) ((q, l) ∷ []) q l at.forced f (inl (refl, refl)) })
  heads p st (Transfer.Jumps q) st' at m =
      let l : Lists = lists_of st' in
      let f : place_flow (read s) (body_of owner) p (lists_of st) ≡ some ((q, l) ∷ []) = flow_is p st (Transfer.Jumps q) st' m tt in
      (m.leads, record { place = label_stands q m.leads; forced = along p (lists_of st) ((q, l) ∷ []) q l at.forced f (inl (refl, refl)) })
  heads p st (Transfer.Forks x q) st' at m =
      let l : Lists = lists_of st' in
      let f : place_flow (read s) (body_of owner) p (lists_of st) ≡ some ((x, l) ∷ (q, l) ∷ []) = flow_is p st (Transfer.Forks x q) st' m tt in
      let n : (p + 1 ≤ q) × ((read s).is_place (body_of owner) q ≡ true) = next_stands p q at.place (inside p (lists_of st) (x, l) ((q, l) ∷ []) f) m.leads.1 in (
        (m.leads.0, record { place = label_stands x m.leads.0; forced = along p (lists_of st) ((x, l) ∷ (q, l) ∷ []) x l at.forced f (inl (refl, refl)) }),
        (n.0, record { place = n.1; forced = along p (lists_of st) ((x, l) ∷ (q, l) ∷ []) q l at.forced f (inr (inl (refl, refl))) }),
      )

  -- walked from a place, where what follows it goes on
  walked_from : (p : ℕ) (st : List ℕ) (a : Transfer) (st' : List ℕ) → Holds st → Stands s (body_of owner) p (lists_of st) → Moved s owner p st a st' → Leads a
      → (room marks : List ℕ) → GoesIn s table room marks (body_of owner) (targets a (lists_of st')) → WalkedIn s table room marks (body_of owner) p (lists_of st)
  walked_from p st a st' h at m live room marks g =
      record {
        fine = and_intro ((read s).is_place (body_of owner) p) (small (lists_of st)) at.place (holds_small st h);
        next = targets a (lists_of st');
        flow = flow_is p st a st' m live;
        goes = g;
      }

  -- ---- its turns

  pub walk_first : (p : ℕ) (st room marks : List ℕ) → Sound s table room marks (body_of owner) → Holds st → Stands s (body_of owner) p (lists_of st) → Walking s table owner p st room marks p st room marks
  walk_first p st room marks w h at = record { grows = grows_refl (labels s) room marks; sound = w; holds = h; stands = at; rest = λ room' marks' g x. x }

  -- at the body's end
  pub walk_ended : (p₀ : ℕ) (st₀ room₀ marks₀ : List ℕ) (p : ℕ) (st room marks : List ℕ) → Walking s table owner p₀ st₀ room₀ marks₀ p st room marks → body_end (bodies_in s) (body_of owner) ≤ p
      → Left s table (body_of owner) room₀ marks₀ room marks (eqb owner 0xffffffff) (WalkedIn s table room marks (body_of owner) p₀ (lists_of st₀))
  walk_ended p₀ st₀ room₀ marks₀ p st room marks w h =
      record {
        grows = w.grows;
        sound = w.sound;
        done = λ y. w.rest room marks (grows_refl (labels s) room marks)
            (walked_from p st Transfer.Stops st w.holds w.stands (entry_ends s e owner has p h st w.holds (eqb_is owner 0xffffffff y)) tt room marks ends);
        refuted = λ y. breaks p st st w.stands (function_ends s e owner has p h st w.holds (eqb_isnt owner 0xffffffff y));
      }

  module _ (p₀ : ℕ) (st₀ room₀ marks₀ : List ℕ) (p : ℕ) (st room marks : List ℕ) (w : Walking s table owner p₀ st₀ room₀ marks₀ p st room marks)
      (a : Transfer) (st' : List ℕ) (m : Moved s owner p st a st') (room' marks' : List ℕ) where
    grown : (t : Turn) → Turned s table (body_of owner) (p + 1) (lists_of st') (targets a (lists_of st')) room marks room' marks' t → Grows (labels s) room₀ marks₀ room' marks'
    grown t x = grows_trans (labels s) room₀ marks₀ room marks room' marks' w.grows x.grows

    pub walk_on : (q : ℕ) → Turned s table (body_of owner) (p + 1) (lists_of st') (targets a (lists_of st')) room marks room' marks' (On q) → TurnLeads a (On q)
        → Walking s table owner p₀ st₀ room₀ marks₀ q st' room' marks'
    walk_on q x live =
        record {
          grows = grown (On q) x;
          sound = x.sound;
          holds = m.holds;
          stands = x.turn.1;
          rest = λ room'' marks'' g y. w.rest room'' marks'' (grows_trans (labels s) room marks room' marks' room'' marks'' x.grows g)
              (walked_from p st a st' w.holds w.stands m live room'' marks'' (x.turn.3 room'' marks'' g y));
        }

    pub walk_ends : Turned s table (body_of owner) (p + 1) (lists_of st') (targets a (lists_of st')) room marks room' marks' Ends → TurnLeads a Ends
        → Left s table (body_of owner) room₀ marks₀ room' marks' true (WalkedIn s table room' marks' (body_of owner) p₀ (lists_of st₀))
    walk_ends x live =
        record {
          grows = grown Ends x;
          sound = x.sound;
          done = λ z. w.rest room' marks' x.grows (walked_from p st a st' w.holds w.stands m live room' marks' x.turn);
          refuted = λ z. false_true (sym z);
        }

    pub walk_breaks : Turned s table (body_of owner) (p + 1) (lists_of st') (targets a (lists_of st')) room marks room' marks' Breaks
        → Left s table (body_of owner) room₀ marks₀ room' marks' false (WalkedIn s table room' marks' (body_of owner) p₀ (lists_of st₀))
    walk_breaks x = record { grows = grown Breaks x; sound = x.sound; done = λ z. false_true z; refuted = λ z. x.turn }

-- ---- as the code asks it

module _ (s : List ℕ) (c : Sections) (table : List ℕ) (owner : ℕ) (room₀ marks₀ : List ℕ) (w : Working s c table owner room₀ marks₀) (e : ℕ) (end_is : e ≡ body_end (bodies_in s) (body_of owner)) where
  pub walk_bounds : (p : ℕ) (l : Lists) → Stands s (body_of owner) p l → (p ≤ e) × (e ≤ c.extent)
  walk_bounds p l h =
      let x : (body_start (bodies_in s) (body_of owner) ≤ p) × (p ≤ body_end (bodies_in s) (body_of owner)) × (body_end (bodies_in s) (body_of owner) ≤ length (code_in s)) = place_inside (tables_in s) (good_file s w.readable) (body_of owner) p w.has h.place in
      let a : p ≤ body_end (bodies_in s) (body_of owner) = x.1 in
      let b : body_end (bodies_in s) (body_of owner) ≤ length (code_in s) = x.2 in
      let d : length (code_in s) ≡ c.extent = code_length_lem s c w.packed in
      (omega arith, omega arith)

  pub walk_less : (p q : ℕ) (l : Lists) → p + 1 ≤ q → Stands s (body_of owner) q l → e - q < e - p
  walk_less p q l h at = let x : q ≤ e = (walk_bounds q l at).0 in omega arith

  -- ---- what is decoded at a place of the body

  module _ (code : List ℕ) (k : Keyed s code 0) (p : ℕ) (l : Lists) (at : Stands s (body_of owner) p l) where
    pub decode_fits : e ≤ length code
    decode_fits =
        let x : e ≤ c.extent = (walk_bounds p l at).1 in
        let y : code_length s ≤ length code = code_long s code 0 k w.readable in
        let z : c.extent ≡ code_length s = w.packed.extent_is in omega arith

    pub decoded_late : decoded code p e ≡ None → body_end (bodies_in s) (body_of owner) ≤ p
    decoded_late q = let x : e ≤ p = at_end_lem code p e q in omega arith

    module _ (b : ℕ) (key : decoded code p e ≡ Some b) where
      early : p < body_end (bodies_in s) (body_of owner)
      early = let x : p < e = (at_key code p e b key).0 in omega arith

      pub decoded_key : KeyAt code p b
      decoded_key = key_at_lem s c w.packed w.readable code k owner w.has p at.place early b (at_key code p e b key).1

      pub decoded_moved : (st : List ℕ) (a : Transfer) (st' : List ℕ) → Moves (read s) (body_of owner) b (word 4 code (p + 1)) p st a st' → Moved s owner p st a st'
      decoded_moved = moved s c w.packed w.readable code k owner w.has p at.place early b (at_key code p e b key).1
