-- Flow to nodes: by jumps, branches and falls; and calls.
use Rattle.std.proofs.Math.Path.{◌≡◌}
use Rattle.std.specs.Prelude.{refl, ◌≢◌, ℕ, suc, ◌+◌, ◌-◌, ◌≤◌, ◌<◌, max, true, List, [], ◌∷◌, length, get_or, set, eqb, ltb}
use Rattle.std.proofs.Common.{sym, ap, ◌∙◌, subst, inl, inr, length-set, get_or-set_same, get_or-set_other}
use native.Mathlib.Omega.{arith}
use Rattle.std.proofs.Math.Option.{some}
use Rattle.soundness.specs.Names.{Condition, Instruction, jmp, branch, call}
use Rattle.rules.specs.Instructions.{Ty, size}
use Rattle.rules.specs.Tables.{Body, Function, body_of, body_end}
use Rattle.rules.specs.ModuleFile.{labels, read, bodies_in, tables_in}
use Rattle.rules.specs.Machine.{owned}
use Rattle.rules.specs.Typing.{Lists, lists, place_flow}
use Rattle.format.specs.declared.Sections.{Sections}
use Rattle.soundness.specs.Tests.{decide, some_inj, eqb_is, eqb_isnt, ltb_is, ltb_isnt}
use Rattle.soundness.specs.Invariant.{owned_is}
use Rattle.soundness.specs.Readable.{orderly, label_own, label_inside}
use Rattle.soundness.specs.Cutting.{good_file}
use Rattle.keys.specs.Keys.{Keyed}
use Rattle.nodes.specs.Nodes.{place_of, owner_of}
use Rattle.nodes.proofs.Numbering.{label_at}
use Rattle.rules.specs.Need.{raised, height, Path, goes_on, called, call_at, arity, argument_at}
use Rattle.tracks.specs.Plans.{Plan, jumps, forks, calls, plan_of, result_slots, Leaves}
use Rattle.tracks.specs.Walks.{ends, meets, Grows, offset_of, Met, WalkedIn, RowMet, Climbing, Standing, Ready, Arrived, arrived_grows, arrived_met, climbing_arrived, met_grows}
use Rattle.tracks.specs.Steps.{raised_same, calls_plan, climbing_notes, ended, here, call_here, leaves}
use Rattle.tracks.specs.Leads.{Complete, Leads, noted}

module _ (s : List ℕ) (c : Sections) (table : List ℕ) (owner : ℕ) (R : Ready s c table owner) where
  few : labels s ≤ 256
  few = let u : c.labels ≤ 256 = R.packed.few_labels in let v : c.labels ≡ labels s = R.packed.labels_is in omega arith

  -- the node at a place of the body
  pub node_of : (q k : ℕ) → (read s).is_place (body_of owner) q ≡ true → q < body_end (bodies_in s) (body_of owner) → get_or table q 0 ≡ suc k
      → (k < labels s) × (k < 256) × (place_of s k ≡ q) × (owner_of s k ≡ body_of owner)
  node_of q k p l e =
      let n : (k < labels s) × (place_of s k ≡ q) = R.tabled.node q k e in
      let f : labels s ≤ 256 = few in
      let h : k < labels s = n.0 in (
        h,
        omega arith,
        n.1,
        label_own (tables_in s) (good_file s R.readable) k (owner_of s k) (body_of owner) q (body_end (bodies_in s) (body_of owner))
            (label_at s R.readable k h ∙ ap (λ x. some (owner_of s k, x)) n.1) p (ended s c table owner R) l,
      )

  -- the place of a label of the body, and its node
  pub labelled : (n p : ℕ) → owned (body_of owner) ((read s).label n) ≡ some p → ((read s).is_place (body_of owner) p ≡ true) × (p < body_end (bodies_in s) (body_of owner))
  labelled n p e =
      let x : (read s).label n ≡ some (body_of owner, p) = owned_is (body_of owner) ((read s).label n) p e in
      ((orderly (tables_in s) (good_file s R.readable)).lands n (body_of owner) p x, label_inside (tables_in s) (good_file s R.readable) n (body_of owner) p (body_end (bodies_in s) (body_of owner)) x (ended s c table owner R))

  -- what arrives at a node of the body, on a path
  module _ (marks grounds row : List ℕ) (most : ℕ) (C : Climbing s table (body_of owner) marks grounds row most) (q k : ℕ) (j : Lists) (g : ℕ) (path : Path (read s) (body_of owner) q j g)
      (place : (read s).is_place (body_of owner) q ≡ true) (before : q < body_end (bodies_in s) (body_of owner)) (node : get_or table q 0 ≡ suc k) (marks' grounds' : List ℕ) (a : Arrived k g marks grounds marks' grounds') where
    n : (k < labels s) × (k < 256) × (place_of s k ≡ q) × (owner_of s k ≡ body_of owner)
    n = node_of q k place before node

    pub arrival_climbs : Climbing s table (body_of owner) marks' grounds' row most
    arrival_climbs =
        climbing_arrived s table (body_of owner) k g marks grounds marks' grounds' a n.1 row most C n.0 n.3 j (subst (λ x. Path (read s) (body_of owner) x j g) (sym n.2) path)

    pub arrival_grows : Grows marks grounds row most marks' grounds' row most
    arrival_grows = arrived_grows s table (body_of owner) k g marks grounds marks' grounds' a n.1 row most

    pub arrival_met : Met s table (body_of owner) marks' grounds' q j g
    arrival_met = let m = arrived_met s table (body_of owner) k g marks grounds marks' grounds' a n.1 in (path, before, k, n.1, node, m.0, m.1)

  -- ---- instructions

  module _ (code : List ℕ) (K : Keyed s code 0) (marks grounds row : List ℕ) (most at locals ground_level h : ℕ)
      (C : Climbing s table (body_of owner) marks grounds row most) (S : Standing s table (body_of owner) at locals ground_level h) (high : h ≤ most) (before : at < body_end (bodies_in s) (body_of owner)) where
    abbrev b : Body
    b = body_of owner

    abbrev l : Lists
    l = S.given

    abbrev i : Instruction
    i = (here s c table owner R code K at S.place before).0

    abbrev next : ℕ
    next = at + size i

    next_place : (read s).is_place (body_of owner) next ≡ true
    next_place = (here s c table owner R code K at S.place before).2

    out : (ns : List (ℕ × Lists)) × (place_flow (read s) b at l ≡ some ns) × Leaves (read s) b next l.locals l.operands (plan_of i) ns
    out = leaves s c table owner R code K at S.place before l ground_level S.path

    planned : (p : Plan) → plan_of i ≡ p → Leaves (read s) b next l.locals l.operands p out.0
    planned p e = subst (λ p. Leaves (read s) b next l.locals l.operands p out.0) e out.2

    call_plan : (k : ℕ) → call_at (read s) b at ≡ some k → plan_of i ≡ calls k
    call_plan k e = calls_plan i k (sym (call_here s c table owner R code K at S.place before) ∙ e)

    fits_later : (M G Q : List ℕ) (x : ℕ) → most ≤ x → height l ground_level ≤ x
    fits_later M G Q x u = let v : h ≡ ground_level + length l.operands = S.height_is in omega arith

    -- the label's place, on a path
    pub jump_place : (w : ℕ) → i ≡ jmp w → (p : ℕ) × (owned b ((read s).label w) ≡ some p) × Path (read s) b p l ground_level
    jump_place w e =
        let y : Leaves (read s) b next l.locals l.operands (jumps w) out.0 = planned (jumps w) (ap plan_of e) in (
          y.0,
          y.1,
          subst (Path (read s) b y.0 l) (raised_same ground_level l.locals l.operands l.operands)
              (goes_on at l ground_level ((y.0, l) ∷ []) y.0 l S.path (out.1 ∙ ap some y.2) (inl (refl, refl))),
        )

    -- `jmp`, when its label was met
    pub jump_ends : (w : ℕ) (e : i ≡ jmp w) (marks' grounds' : List ℕ) → Met s table b marks' grounds' (jump_place w e).0 l ground_level → Complete s table b marks' grounds' row most at l ground_level
    unfolding jump_place
    jump_ends w e marks' grounds' t M G Q x g = go (planned (jumps w) (ap plan_of e)) t
      where
        clash : (k : ℕ) → jumps w ≡ calls k → ⊥
        clash k r = let z : ◌≡◌ {A = ℕ} 0 1 = cc in omega arith

        go : (y : Leaves (read s) b next l.locals l.operands (jumps w) out.0) → Met s table b marks' grounds' y.0 l ground_level → WalkedIn s table b M G Q x at l ground_level
        go y t =
            record {
              noted = record { fits = fits_later M G Q x g.higher; calls = λ k d. absurd (clash k (sym (ap plan_of e) ∙ call_plan k d)) };
              next = (y.0, l) ∷ [];
              flow = out.1 ∙ ap some y.2;
              goes = meets l ground_level y.0 l [] (subst (Met s table b M G y.0 l) (sym (raised_same ground_level l.locals l.operands l.operands)) (met_grows s table b marks' grounds' row most M G Q x g y.0 l ground_level t)) (ends l ground_level);
            }

    -- a branch: the lists on both ways
    pub fork_place : (o : Condition) (w : ℕ) → i ≡ branch o w → (1 ≤ h) × (p : ℕ) × (owned b ((read s).label w) ≡ some p) × (j : Lists) × Path (read s) b p j ground_level
    fork_place o w e =
        let y : Leaves (read s) b next l.locals l.operands (forks w) out.0 = planned (forks w) (ap plan_of e) in
        let k : Lists = lists l.locals y.2 in
        let u : suc (length y.2) ≡ length l.operands = y.4 in
        let v : h ≡ ground_level + length l.operands = S.height_is in (
          omega arith,
          y.0,
          y.1,
          k,
          subst (Path (read s) b y.0 k) (raised_same ground_level l.locals l.operands y.2)
              (goes_on at l ground_level ((y.0, k) ∷ (next, k) ∷ []) y.0 k S.path (out.1 ∙ ap some y.3) (inl (refl, refl))),
        )

    pub fork_leads : (o : Condition) (w : ℕ) (e : i ≡ branch o w) (marks' grounds' : List ℕ) → Met s table b marks' grounds' (fork_place o w e).1 (fork_place o w e).3 ground_level
        → Leads s table b marks' grounds' row most at l ground_level (at + 5) locals ground_level (h - 1)
    unfolding fork_place
    fork_leads o w e marks' grounds' t = go (planned (forks w) (ap plan_of e)) t
      where
        clash : (k : ℕ) → forks w ≡ calls k → ⊥
        clash k r = let z : ◌≡◌ {A = ℕ} 0 1 = cc in omega arith

        on : (p : ℕ) (P : List Ty) → out.0 ≡ (p, lists l.locals P) ∷ (next, lists l.locals P) ∷ [] → suc (length P) ≡ length l.operands → Met s table b marks' grounds' p (lists l.locals P) ground_level
            → Leads s table b marks' grounds' row most at l ground_level next locals ground_level (h - 1)
        on p P d u t =
            let k : Lists = lists l.locals P in
            let level : raised ground_level l k ≡ ground_level = raised_same ground_level l.locals l.operands P in
            record {
              standing = record {
                given = k;
                path = subst (Path (read s) b next k) level (goes_on at l ground_level ((p, k) ∷ (next, k) ∷ []) next k S.path (out.1 ∙ ap some d) (inr (inl (refl, refl))));
                place = next_place;
                locals_is = S.locals_is;
                height_is = let v : h ≡ ground_level + length l.operands = S.height_is in omega arith;
              };
              further = let z : next ≡ at + 5 = ap (λ z. at + size z) e in omega arith;
              same = sym level;
              joins = λ M G Q x g r. record {
                noted = record { fits = fits_later M G Q x g.higher; calls = λ k d. absurd (clash k (sym (ap plan_of e) ∙ call_plan k d)) };
                next = (p, k) ∷ (next, k) ∷ [];
                flow = out.1 ∙ ap some d;
                goes = meets l ground_level p k ((next, k) ∷ []) (subst (Met s table b M G p k) (sym level) (met_grows s table b marks' grounds' row most M G Q x g p k ground_level t)) r;
              };
            }

        go : (y : Leaves (read s) b next l.locals l.operands (forks w) out.0) → Met s table b marks' grounds' y.0 (lists l.locals y.2) ground_level → Leads s table b marks' grounds' row most at l ground_level (at + 5) locals ground_level (h - 1)
        go y t = subst (λ q. Leads s table b marks' grounds' row most at l ground_level q locals ground_level (h - 1)) (ap (λ z. at + size z) e) (on y.0 y.2 y.3 y.4 t)

    -- ---- `call`

    -- the arguments are there, and the note
    pub call_leads : (w : ℕ) → i ≡ call w → (F : Function) → (read s).function w ≡ some F → w < 128 → (length F.params ≤ h)
        × Climbing s table b marks grounds (noted row w (h - length F.params + 1)) most
        × Grows marks grounds row most marks grounds (noted row w (h - length F.params + 1)) most
        × Leads s table b marks grounds (noted row w (h - length F.params + 1)) most at l ground_level (at + 5) locals ground_level (h - length F.params + result_slots F.result)
    call_leads w e F f small = go (planned (calls w) (ap plan_of e))
      where
        called_here : call_at (read s) b at ≡ some w
        called_here = call_here s c table owner R code K at S.place before ∙ ap called e

        arity_is : arity (read s) w ≡ length F.params
        arity_is = rw f refl

        height_is : h ≡ ground_level + length l.operands
        height_is = S.height_is

        -- the note is where the first argument lies
        note : (under : ℕ) → under ≡ argument_at (read s) l ground_level w → (offset_of (noted row w (under + 1)) w ≡ max (offset_of row w) (under + 1)) × ((k : ℕ) → k ≢ w → offset_of (noted row w (under + 1)) k ≡ offset_of row k) × (length (noted row w (under + 1)) ≡ 128)
        note under q =
            decide (ltb (offset_of row w) (under + 1))
            (λ y. rw y (let z : offset_of row w < under + 1 = ltb_is (offset_of row w) (under + 1) y in
            let d : length row ≡ 128 = C.wide in
            let v : get_or (set row w (under + 1)) w 0 ≡ under + 1 = get_or-set_same row w (under + 1) 0 (omega arith) in
            (v ∙ (omega arith), (λ k n. get_or-set_other row w k (under + 1) 0 n), length-set row w (under + 1) ∙ C.wide)))
            (λ y. rw y (let z : under + 1 ≤ offset_of row w = ltb_isnt (offset_of row w) (under + 1) y in ((omega arith), (λ k n. refl), C.wide)))

        go : Leaves (read s) b next l.locals l.operands (calls w) out.0 → (length F.params ≤ h)
            × Climbing s table b marks grounds (noted row w (h - length F.params + 1)) most
            × Grows marks grounds row most marks grounds (noted row w (h - length F.params + 1)) most
            × Leads s table b marks grounds (noted row w (h - length F.params + 1)) most at l ground_level (at + 5) locals ground_level (h - length F.params + result_slots F.result)
        go y =
            let F-is : y.0 ≡ F = some_inj y.0 F (sym y.1 ∙ f) in
            let p_is : length y.0.params ≡ length F.params = ap (λ (z : Function). length z.params) F-is in
            let r_is : result_slots y.0.result ≡ result_slots F.result = ap (λ (z : Function). result_slots z.result) F-is in
            let ln : length y.2 + length y.0.params ≡ length l.operands + result_slots y.0.result = y.4 in
            let fit : length y.0.params ≤ length l.operands = y.5 in
            let hh : h ≡ ground_level + length l.operands = S.height_is in
            let ar : arity (read s) w ≡ length F.params = arity_is in
            let under_is : h - length F.params ≡ argument_at (read s) l ground_level w = omega arith in
            let n = note (h - length F.params) under_is in
            let g : Grows marks grounds row most marks grounds (noted row w (h - length F.params + 1)) most =
            record { each = λ n l. inl (refl, refl); higher = omega arith; wider = λ k. decide (eqb k w) (λ z. let q : k ≡ w = eqb_is k w z in rw q (let m : offset_of (noted row w (h - length F.params + 1)) w ≡ max (offset_of row w) (h - length F.params + 1) = n.0 in omega arith)) (λ z. let m : offset_of (noted row w (h - length F.params + 1)) k ≡ offset_of row k = n.1 k (eqb_isnt k w z) in omega arith) } in (
              omega arith,
              climbing_notes s table b marks grounds row most (noted row w (h - length F.params + 1)) most C n.2 C.own_met (met (h - length F.params) under_is n) (omega arith) g.wider,
              g,
              leads (h - length F.params) under_is n.0 y.2 y.3 (omega arith),
            )
          where
            met : (under : ℕ) → under ≡ argument_at (read s) l ground_level w
                → (offset_of (noted row w (under + 1)) w ≡ max (offset_of row w) (under + 1)) × ((k : ℕ) → k ≢ w → offset_of (noted row w (under + 1)) k ≡ offset_of row k) × (length (noted row w (under + 1)) ≡ 128)
                → RowMet s table b (noted row w (under + 1))
            met under q n k a d =
                decide (eqb k w) (λ z. at_w k (eqb_is k w z) d) (λ z. C.row_met k a (sym (n.1 k (eqb_isnt k w z)) ∙ d))
              where
                at_w : (k : ℕ) → k ≡ w → offset_of (noted row w (under + 1)) k ≡ suc a
                    → (p : ℕ) × (l : Lists) × (f : ℕ) × Path (read s) b p l f × (call_at (read s) b p ≡ some k) × (a ≡ argument_at (read s) l f k)
                at_w k z d =
                    decide (ltb (offset_of row w) (under + 1))
                    (λ y. let v : offset_of row w < under + 1 = ltb_is (offset_of row w) (under + 1) y in
                    let m : offset_of (noted row w (under + 1)) w ≡ max (offset_of row w) (under + 1) = n.0 in
                    let o : offset_of (noted row w (under + 1)) w ≡ suc a = subst (λ j. offset_of (noted row w (under + 1)) j ≡ suc a) z d in
                    let u : a ≡ under = omega arith in
                    subst (λ j. (p : ℕ) × (l : Lists) × (f : ℕ) × Path (read s) b p l f × (call_at (read s) b p ≡ some j) × (a ≡ argument_at (read s) l f j)) (sym z) (at, l, ground_level, S.path, called_here, u ∙ q))
                    (λ y. let v : under + 1 ≤ offset_of row w = ltb_isnt (offset_of row w) (under + 1) y in
                    let m : offset_of (noted row w (under + 1)) w ≡ max (offset_of row w) (under + 1) = n.0 in
                    let o : offset_of (noted row w (under + 1)) w ≡ suc a = subst (λ j. offset_of (noted row w (under + 1)) j ≡ suc a) z d in
                    let u : offset_of row w ≡ suc a = omega arith in
                    subst (λ j. (p : ℕ) × (l : Lists) × (f : ℕ) × Path (read s) b p l f × (call_at (read s) b p ≡ some j) × (a ≡ argument_at (read s) l f j)) (sym z) (C.row_met w a u))

            leads : (under : ℕ) → under ≡ argument_at (read s) l ground_level w → offset_of (noted row w (under + 1)) w ≡ max (offset_of row w) (under + 1) → (P : List Ty) → out.0 ≡ (next, lists l.locals P) ∷ []
                → under + result_slots F.result ≡ ground_level + length P → Leads s table b marks grounds (noted row w (under + 1)) most at l ground_level (at + 5) locals ground_level (under + result_slots F.result)
            leads under q m P d u =
                let k : Lists = lists l.locals P in
                let level : raised ground_level l k ≡ ground_level = raised_same ground_level l.locals l.operands P in
                subst (λ x. Leads s table b marks grounds (noted row w (under + 1)) most at l ground_level x locals ground_level (under + result_slots F.result)) (ap (λ z. at + size z) e)
                (record {
                  standing = record {
                    given = k;
                    path = subst (Path (read s) b next k) level (goes_on at l ground_level ((next, k) ∷ []) next k S.path (out.1 ∙ ap some d) (inl (refl, refl)));
                    place = next_place;
                    locals_is = S.locals_is;
                    height_is = u;
                  };
                  further = let z : next ≡ at + 5 = ap (λ z. at + size z) e in omega arith;
                  same = sym level;
                  joins = λ M G Q x g r. record {
                    noted = record {
                      fits = fits_later M G Q x g.higher;
                      calls = λ j z. note_of j (same_callee j z) Q (g.wider w);
                    };
                    next = (next, k) ∷ [];
                    flow = out.1 ∙ ap some d;
                    goes = r;
                  };
                })
              where
                same_callee : (j : ℕ) → call_at (read s) b at ≡ some j → w ≡ j
                same_callee j z = some_inj w j (sym called_here ∙ z)

                note_of : (j : ℕ) → w ≡ j → (Q : List ℕ) → offset_of (noted row w (under + 1)) w ≤ offset_of Q w → argument_at (read s) l ground_level j < offset_of Q j
                note_of j z Q v = subst (λ j. argument_at (read s) l ground_level j < offset_of Q j) z (omega arith)
