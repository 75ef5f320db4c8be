-- Where one instruction of a walk leads: an end, or a place from which the rest of the walk completes it.
use Rattle.std.specs.Prelude.{◌≡◌, refl, ℕ, suc, ◌+◌, ◌-◌, ◌≤◌, ◌<◌, true, cond, List, [], ◌∷◌, length, set, ltb}
use Rattle.std.proofs.Common.{sym, ap, ◌∙◌, subst, inl, arith}
use Rattle.std.proofs.Math.Option.{none, some}
use Rattle.soundness.specs.Names.{Instruction, store, ret}
use Rattle.rules.specs.Instructions.{Ty, size}
use Rattle.rules.specs.Tables.{Body, entry, fn, body_of, body_end}
use Rattle.rules.specs.ModuleFile.{read, bodies_in}
use Rattle.rules.specs.Typing.{Lists, lists, place_flow, end_flow, end_of, past}
use Rattle.format.specs.declared.Sections.{Sections}
use Rattle.soundness.specs.Tests.{none_some, some_inj, leb_yes}
use Rattle.soundness.specs.Walks.{size_some}
use Rattle.keys.specs.Keys.{Keyed}
use Rattle.rules.specs.Need.{raised, height, Path, goes_on, call_at}
use Rattle.tracks.specs.Plans.{falls, stores, calls, stops, plan_of, Leaves}
use Rattle.tracks.specs.Walks.{ends, Grows, offset_of, Noted, WalkedIn, GoesIn, Climbing, Standing, Ready}
use Rattle.tracks.specs.Steps.{raised_same, raised_bind, calls_plan, has_flow, ended, here, call_here, leaves}

module _ (s table : List ℕ) (b : Body) (marks grounds row : List ℕ) (most : ℕ) (at : ℕ) (l : Lists) (f : ℕ) where
  -- whatever comes later, the place has been walked from
  abbrev pub Complete : Type 0
  Complete = (M G R : List ℕ) (x : ℕ) → Grows marks grounds row most M G R x → WalkedIn s table b M G R x at l f

  -- it goes on at another place, and whatever comes later, what is left is to walk from there
  pub record Leads (at' locals' ground' h' : ℕ) : Type 0 where
    pub standing : Standing s table b at' locals' ground' h'
    pub further : at < at'
    pub same : ground' ≡ raised f l standing.given
    pub joins : (M G R : List ℕ) (x : ℕ) → Grows marks grounds row most M G R x → GoesIn s table b M G R x l f ((at', standing.given) ∷ []) → WalkedIn s table b M G R x at l f

-- a call's note is kept, where it is larger
abbrev pub noted : List ℕ → ℕ → ℕ → List ℕ
noted row k x = cond (ltb (offset_of row k) x) (set row k x) row

module _ (s : List ℕ) (c : Sections) (table : List ℕ) (owner : ℕ) (R : Ready s c table owner) (code : List ℕ) (K : Keyed s code 0) (marks grounds row : List ℕ) (most at locals ground_level h : ℕ)
    (C : Climbing s table (body_of owner) marks grounds row most) (S : Standing s table (body_of owner) at locals ground_level h) (high : h ≤ most) where
  abbrev b : Body
  b = body_of owner

  abbrev l : Lists
  l = S.given

  -- the place itself is noted, whatever comes later
  fits_later : (M G Q : List ℕ) (x : ℕ) → Grows marks grounds row most M G Q x → height l ground_level ≤ x
  fits_later M G Q x g = let u : most ≤ x = g.higher in let v : h ≡ ground_level + length l.operands = S.height_is in omega arith

  module _ (before : at < body_end (bodies_in s) (body_of owner)) where
    abbrev i : Instruction
    i = (here s c table owner R code K at S.place before).0

    abbrev next : ℕ
    next = at + size i

    next_place : (read s).is_place (body_of owner) next ≡ true
    next_place = (here s c table owner R code K at S.place before).2

    out : (ns : List (ℕ × Lists)) × (place_flow (read s) b at l ≡ some ns) × Leaves (read s) b next l.locals l.operands (plan_of i) ns
    out = leaves s c table owner R code K at S.place before l ground_level S.path

    -- an instruction that is no call
    no_call : (k : ℕ) → (plan_of i ≡ calls k → ⊥) → call_at (read s) b at ≡ some k → ⊥
    no_call k n e = n (calls_plan i k (sym (call_here s c table owner R code K at S.place before) ∙ e))

    abbrev NoCall : Type 0
    NoCall = (k : ℕ) → call_at (read s) b at ≡ some k → ⊥

    noted_later : NoCall → (M G Q : List ℕ) (x : ℕ) → Grows marks grounds row most M G Q x → Noted s table b Q x at l ground_level
    noted_later n M G Q x g = record { fits = fits_later M G Q x g; calls = λ k e. absurd (n k e) }

    -- one way, to q with lists k
    one_way : NoCall → (q : ℕ) (k : Lists) → place_flow (read s) b at l ≡ some ((q, k) ∷ []) → (read s).is_place b q ≡ true → at < q → (locals' ground' h' : ℕ)
        → length k.locals ≡ locals' → ground' ≡ raised ground_level l k → h' ≡ ground' + length k.operands → Leads s table b marks grounds row most at l ground_level q locals' ground' h'
    one_way n q k e p u locals' ground' h' a d z =
        record {
          standing = record { given = k; path = subst (Path (read s) b q k) (sym d) (goes_on at l ground_level ((q, k) ∷ []) q k S.path e (inl (refl, refl))); place = p; locals_is = a; height_is = z };
          further = u;
          same = d;
          joins = λ M G Q x g y. record { noted = noted_later n M G Q x g; next = (q, k) ∷ []; flow = e; goes = y };
        }

    -- it changes the height alone
    pub plain_leads : (d : ℕ) → plan_of i ≡ falls d → (2 ≤ h + d) × Leads s table b marks grounds row most at l ground_level next locals ground_level (h + d - 2)
    plain_leads d e =
        let y : Leaves (read s) b next l.locals l.operands (falls d) out.0 = subst (λ p. Leaves (read s) b next l.locals l.operands p out.0) e out.2 in
        let w : length y.0 + 2 ≡ length l.operands + d = y.2 in
        let v : h ≡ ground_level + length l.operands = S.height_is in
        let z : 0 < size i = size_plain i d e in (
          (omega arith),
          one_way (λ k q. no_call k (λ r. clash k (sym e ∙ r)) q) next (lists l.locals y.0) (out.1 ∙ ap some y.1) next_place (omega arith) locals ground_level (h + d - 2) S.locals_is
              (sym (raised_same ground_level l.locals l.operands y.0)) (omega arith),
        )
      where
        clash : (k : ℕ) → falls d ≡ calls k → ⊥
        clash k r = let z : ◌≡◌ {A = ℕ} 0 1 = cc in omega arith

        size_plain : (i : Instruction) (d : ℕ) → plan_of i ≡ falls d → 0 < size i
        size_plain i d e = size_some i

    -- `store`
    pub store_leads : (n : ℕ) → i ≡ store n
        → (n < locals → (1 ≤ h) × Leads s table b marks grounds row most at l ground_level (at + 5) locals ground_level (h - 1))
        × (locals ≤ n → Leads s table b marks grounds row most at l ground_level (at + 5) (locals + 1) h h)
    store_leads n e = (to_local, binds)
      where
        y : Leaves (read s) b next l.locals l.operands (stores n) out.0
        y = subst (λ p. Leaves (read s) b next l.locals l.operands p out.0) (ap plan_of e) out.2

        after : next ≡ at + 5
        after = ap (λ j. at + size j) e

        not_call : NoCall
        not_call k q = no_call k (λ r. clash (sym (ap plan_of e) ∙ r)) q
          where
            clash : stores n ≡ calls k → ⊥
            clash r = let z : ◌≡◌ {A = ℕ} 0 1 = cc in omega arith

        to_local : n < locals → (1 ≤ h) × Leads s table b marks grounds row most at l ground_level (at + 5) locals ground_level (h - 1)
        to_local u =
            let d : length l.locals ≡ locals = S.locals_is in
            let x : (P : List Ty) × (out.0 ≡ (next, lists l.locals P) ∷ []) × (suc (length P) ≡ length l.operands) = y.0 (omega arith) in
            let w : suc (length x.0) ≡ length l.operands = x.2 in
            let v : h ≡ ground_level + length l.operands = S.height_is in (
              (omega arith),
              subst (λ q. Leads s table b marks grounds row most at l ground_level q locals ground_level (h - 1)) after
                  (one_way not_call next (lists l.locals x.0) (out.1 ∙ ap some x.1) next_place (let z : next ≡ at + 5 = after in omega arith) locals ground_level (h - 1) S.locals_is
                  (sym (raised_same ground_level l.locals l.operands x.0)) (omega arith)),
            )

        binds : locals ≤ n → Leads s table b marks grounds row most at l ground_level (at + 5) (locals + 1) h h
        binds u =
            let d : length l.locals ≡ locals = S.locals_is in
            let x : (t : Ty) × (out.0 ≡ (next, lists (t ∷ l.locals) []) ∷ []) = y.1 (omega arith) in
            let v : h ≡ ground_level + length l.operands = S.height_is in
            subst (λ q. Leads s table b marks grounds row most at l ground_level q (locals + 1) h h) after
            (one_way not_call next (lists (x.0 ∷ l.locals) []) (out.1 ∙ ap some x.1) next_place (let z : next ≡ at + 5 = after in omega arith) (locals + 1) h h (omega arith)
            (v ∙ sym (raised_bind ground_level x.0 l.locals l.operands [])) (omega arith))

    -- `ret`
    pub ret_ends : i ≡ ret → Complete s table b marks grounds row most at l ground_level
    ret_ends e M G Q x g =
        record { noted = noted_later not_call M G Q x g; next = []; flow = out.1 ∙ ap some none_left; goes = ends l ground_level }
      where
        none_left : out.0 ≡ []
        none_left = subst (λ p. Leaves (read s) b next l.locals l.operands p out.0) (ap plan_of e) out.2

        not_call : NoCall
        not_call k q = no_call k (λ r. clash (sym (ap plan_of e) ∙ r)) q
          where
            clash : stops ≡ calls k → ⊥
            clash r = let z : ◌≡◌ {A = ℕ} 0 1 = cc in omega arith

  -- at the body's end nothing follows
  pub end_ends : body_end (bodies_in s) (body_of owner) ≤ at → Complete s table b marks grounds row most at l ground_level
  end_ends late M G Q x g =
      record { noted = record { fits = fits_later M G Q x g; calls = λ k e. absurd (none_some (no_call k e)) }; next = []; flow = f.1 ∙ ap some (nothing (body_of owner) f.0 (sym at_end_lem ∙ f.1)); goes = ends l ground_level }
    where
      f : (ns : List (ℕ × Lists)) × (place_flow (read s) b at l ≡ some ns)
      f = has_flow s c table owner R at l ground_level S.path

      over : past at (end_of (read s) b) ≡ true
      over = rw (ended s c table owner R) (leb_yes (body_end (bodies_in s) (body_of owner)) at late)

      at_end_lem : place_flow (read s) b at l ≡ end_flow b
      at_end_lem = rw over refl

      no_call : (k : ℕ) → call_at (read s) b at ≡ some k → none ≡ some k
      no_call k e = rw over at e

      nothing : (d : Body) (ns : List (ℕ × Lists)) → end_flow d ≡ some ns → ns ≡ []
      nothing entry ns e = sym (some_inj [] ns e)
      nothing (fn k) ns e = none_some e
