-- One instruction of a walk: where it leads, by numbers, and how the rest of the walk completes it.
use Rattle.std.specs.Prelude.{◌≡◌, refl, ◌⊎◌, ℕ, suc, ◌+◌, ◌-◌, ◌%◌, ◌≤◌, ◌<◌, max, true, false, List, ◌∷◌, length, leb}
use Rattle.std.proofs.Common.{sym, ap, ◌∙◌, subst, inl, inr, arith}
use Rattle.std.proofs.Math.Option.{none, some}
use Rattle.soundness.specs.Names.{Instruction, push, load, store, lea, one, two, tload, tstore, bump, jmp, branch, call, ret, null, new, delete, flea}
use Rattle.rules.specs.Bytes.{byte, word}
use Rattle.rules.specs.Instructions.{Ty, size, opcode_of, instruction_of}
use Rattle.rules.specs.Tables.{Body, body_of, body_end, module_of}
use Rattle.rules.specs.ModuleFile.{code_length, read, bodies_in, tables_in, code_in}
use Rattle.rules.specs.Typing.{Lists, lists, Flow, judge, Flows, Gives, end_of, past, place_flow, Consistent}
use Rattle.format.specs.declared.Sections.{Sections}
use Rattle.soundness.specs.Tests.{decide, none_some, some_inj, eqb_same, eqb_other, leb_no, leb_is, leb_isnt}
use Rattle.soundness.specs.Readable.{orderly, has_end, place_is, place_inside}
use Rattle.soundness.specs.Cutting.{code_length_lem, good_file}
use Rattle.soundness.specs.Numbering.{key_table}
use Rattle.keys.specs.Keys.{Says, Keyed}
use Rattle.keys.proofs.Places.{says_key}
use Rattle.keys.proofs.Files.{says_at}
use Rattle.rules.specs.Need.{raised, height, Path, goes_on, called, call_at}
use Rattle.need.specs.Safe.{path_given}
use Rattle.need.specs.Grounds.{ground_bound, height_bound}
use Rattle.tracks.specs.Plans.{calls, plan_of, Leaves, Follows, judge_follows, Means, effect_at, means_at}
use Rattle.tracks.specs.Walks.{offset_of, OwnMet, RowMet, Climbing, Standing, Ready, walked_grows}

-- ---- lists and grounds

pub raised_same : (f : ℕ) (L O P : List Ty) → raised f (lists L O) (lists L P) ≡ f
raised_same f L O P = rw (eqb_same (length L))

pub raised_bind : (f : ℕ) (t : Ty) (L O P : List Ty) → raised f (lists L O) (lists (t ∷ L) P) ≡ f + length O
raised_bind f t L O P = rw (eqb_other (length L) (suc (length L)) (omega arith))

-- only `call` calls
pub calls_plan : (i : Instruction) (k : ℕ) → called i ≡ some k → plan_of i ≡ calls k
calls_plan (push j) k e = none_some e
calls_plan (load j) k e = none_some e
calls_plan (store j) k e = none_some e
calls_plan (lea j) k e = none_some e
calls_plan (one o) k e = none_some e
calls_plan (two o) k e = none_some e
calls_plan tload k e = none_some e
calls_plan tstore k e = none_some e
calls_plan (bump d) k e = none_some e
calls_plan (jmp l) k e = none_some e
calls_plan (branch c l) k e = none_some e
calls_plan (call j) k e = ap calls (some_inj j k e)
calls_plan ret k e = none_some e
calls_plan (null g) k e = none_some e
calls_plan (new g n) k e = none_some e
calls_plan delete k e = none_some e
calls_plan (flea n) k e = none_some e

-- ---- notes

-- with other notes, that are met too
pub climbing_notes : (s table : List ℕ) (b : Body) (marks grounds row : List ℕ) (most : ℕ) (row' : List ℕ) (most' : ℕ) → Climbing s table b marks grounds row most → length row' ≡ 128
    → OwnMet s table b most' → RowMet s table b row' → most ≤ most' → ((k : ℕ) → offset_of row k ≤ offset_of row' k) → Climbing s table b marks grounds row' most'
climbing_notes s table b marks grounds row most row' most' C w o r h v =
    record {
      marked = C.marked;
      grounded = C.grounded;
      wide = w;
      small = C.small;
      numbered = C.numbered;
      mine = C.mine;
      paths = C.paths;
      between = C.between;
      top = C.top;
      own_met = o;
      row_met = r;
      walked = λ n d e l p. walked_grows s table b marks grounds row most marks grounds row' most' (record { each = λ n l. inl (refl, refl); higher = h; wider = v }) _ l _ (C.walked n d e l p);
    }

pub climbing_most : (s table : List ℕ) (b : Body) (marks grounds row : List ℕ) (most at locals ground_level h r : ℕ) → Climbing s table b marks grounds row most → Standing s table b at locals ground_level h → r ≡ max most h
    → Climbing s table b marks grounds row r × (most ≤ r) × (h ≤ r)
climbing_most s table b marks grounds row most at locals ground_level h r C S e =
    (climbing_notes s table b marks grounds row most row r C C.wide (go (pick most h)) C.row_met (omega arith) (λ k. omega arith), omega arith, omega arith)
  where
    pick : (a c : ℕ) → (max a c ≡ a) ⊎ (max a c ≡ c)
    pick a c = decide (leb a c) (λ y. let z : a ≤ c = leb_is a c y in inr (omega arith)) (λ y. let z : c < a = leb_isnt a c y in inl (omega arith))

    go : (max most h ≡ most) ⊎ (max most h ≡ h) → OwnMet s table b r
    go (inl z) = let o : OwnMet s table b most = C.own_met in (o.0, o.1, o.2, o.3, e ∙ z ∙ o.4)
    go (inr z) = (at, S.given, ground_level, S.path, e ∙ z ∙ S.height_is)

-- ---- the instruction at a place

module _ (s : List ℕ) (c : Sections) (table : List ℕ) (owner : ℕ) (R : Ready s c table owner) where
  b : Body
  b = body_of owner

  end : ℕ
  end = body_end (bodies_in s) (body_of owner)

  T-fits : Consistent (read s) (body_of owner) (R.typed.typing (body_of owner))
  T-fits = R.typed.consistent (body_of owner)

  pub one_lists : (p : ℕ) (k l : Lists) (f g : ℕ) → Path (read s) (body_of owner) p k f → Path (read s) (body_of owner) p l g → k ≡ l
  one_lists p k l f g x y = some_inj k l (sym (path_given (read s) (body_of owner) _ T-fits p k f x) ∙ path_given (read s) (body_of owner) _ T-fits p l g y)

  pub ended : end_of (read s) (body_of owner) ≡ some (body_end (bodies_in s) (body_of owner))
  ended = has_end (tables_in s) (good_file s R.readable) (body_of owner) R.has

  -- a path's place has a flow
  pub has_flow : (p : ℕ) (l : Lists) (f : ℕ) → Path (read s) (body_of owner) p l f → (ns : List (ℕ × Lists)) × (place_flow (read s) (body_of owner) p l ≡ some ns)
  has_flow p l f r = go (place_flow (read s) (body_of owner) p l) refl (T-fits.flows p l (path_given (read s) (body_of owner) _ T-fits p l f r))
    where
      go : (w : Flow) → place_flow (read s) (body_of owner) p l ≡ w → Flows (Gives (R.typed.typing (body_of owner))) w → (ns : List (ℕ × Lists)) × (place_flow (read s) (body_of owner) p l ≡ some ns)
      go none e h = absurd h
      go (some ns) e h = (ns, e)

  -- a place at a path's bounds
  pub low_ground : (at locals ground_level h : ℕ) → Standing s table (body_of owner) at locals ground_level h → (ground_level ≤ 512) × (h ≤ 544) × (locals ≤ 16) × (ground_level ≤ h)
  low_ground at locals ground_level h S =
      let g : ground_level ≤ 512 = ground_bound (read s) (body_of owner) _ T-fits at S.given ground_level S.path in
      let k : height S.given ground_level ≤ 544 = height_bound (read s) (body_of owner) _ T-fits at S.given ground_level S.path in
      let q : length S.given.locals ≤ 16 = (T-fits.few at S.given (path_given (read s) (body_of owner) _ T-fits at S.given ground_level S.path)).0 in
      let e : h ≡ ground_level + length S.given.operands = S.height_is in
      let d : length S.given.locals ≡ locals = S.locals_is in
      (g, omega arith, omega arith, omega arith)

  module _ (code : List ℕ) (K : Keyed s code 0) (at : ℕ) (place : (read s).is_place (body_of owner) at ≡ true) (before : at < body_end (bodies_in s) (body_of owner)) where
    pub here : (i : Instruction) × ((read s).code at ≡ some i) × ((read s).is_place (body_of owner) (at + size i) ≡ true)
    here = (orderly (tables_in s) (good_file s R.readable)).goes_on (body_of owner) (body_end (bodies_in s) (body_of owner)) at ended place before

    pub inside : (at + size here.0 ≤ code_length s) × (at + size here.0 ≤ body_end (bodies_in s) (body_of owner))
    inside =
        let x = place_inside (tables_in s) (good_file s R.readable) (body_of owner) (at + size here.0) R.has here.2 in
        let y : at + size here.0 ≤ body_end (bodies_in s) (body_of owner) = x.1 in
        let z : body_end (bodies_in s) (body_of owner) ≤ length (code_in s) = x.2 in
        let l : length (code_in s) ≡ code_length s = code_length_lem s R.readable in (omega arith, y)

    pub says : Says code at here.0
    unfolding module_of
    says = says_at s code 0 K R.readable at here.0 (place_is (tables_in s) (good_file s R.readable) (body_of owner) at place).2 here.1 inside.0

    -- by its number
    pub meant : (k x : ℕ) → k ≡ byte code at % 64 → x ≡ effect_at k → Means x (word 4 code (at + 1)) here.0
    meant k x e f =
        subst (λ y. Means y (word 4 code (at + 1)) here.0) (sym f)
        (means_at k (word 4 code (at + 1)) here.0 (ap (λ y. instruction_of (opcode_of key_table y) (word 4 code (at + 1))) (e ∙ says_key code at here.0 says) ∙ says.is))

    within : past at (end_of (read s) (body_of owner)) ≡ false
    within = rw ended (leb_no (body_end (bodies_in s) (body_of owner)) at before)

    pub call_here : call_at (read s) (body_of owner) at ≡ called here.0
    call_here = rw (within, here.1) refl

    -- what flows from it
    pub leaves : (l : Lists) (f : ℕ) → Path (read s) (body_of owner) at l f
        → (ns : List (ℕ × Lists)) × (place_flow (read s) (body_of owner) at l ≡ some ns) × Leaves (read s) (body_of owner) (at + size here.0) l.locals l.operands (plan_of here.0) ns
    leaves l f r =
        let x : (ns : List (ℕ × Lists)) × (place_flow (read s) (body_of owner) at l ≡ some ns) = has_flow at l f r in
        let y : judge (read s) (body_of owner) here.0 (at + size here.0) l.locals l.operands ≡ some x.0 = sym flow_is ∙ x.1 in (
          x.0,
          x.1,
          subst (Follows (read s) (body_of owner) (at + size here.0) l.locals l.operands (plan_of here.0)) y
              (judge_follows (read s) (body_of owner) (at + size here.0) l.locals here.0 l.operands),
        )
      where
        flow_is : place_flow (read s) (body_of owner) at l ≡ judge (read s) (body_of owner) here.0 (at + size here.0) l.locals l.operands
        flow_is = rw (within, here.1) refl
