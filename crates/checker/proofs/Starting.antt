-- A body checked from its start: begun, then drained; and the bodies in order.
use Prim.Native.Nat.{ℕ, ◌+◌, ◌≤◌, ◌<◌}
use mathlib.Core.Path.{◌≡◌, refl, ap, ◌∙◌, sym, subst}
use native.Mathlib.Omega.{arith}
use mathlib.Core.Bool.{Bool, true, false}
use mathlib.Core.Option.{some}
use mathlib.Core.List.{List, [], ◌∷◌}
use lib.ListN.{get_or}
use lib.Dec.{ltb}
use Rattle.rules.specs.Tables.{Body, entry, fn, body_of, body_number, body_start}
use Rattle.rules.specs.ModuleFile.{refusal, labels, functions, read, bodies_in, tables_in}
use Rattle.rules.specs.Instructions.{Ty}
use Rattle.rules.specs.Typing.{Lists, lists}
use Rattle.format.specs.declared.Sections.{Sections}
use Rattle.format.specs.Layout.{Packed}
use Rattle.soundness.specs.Tests.{decide, false_true, some_inj, ltb_is, ltb_isnt}
use Rattle.soundness.specs.Forced.{Forced, at_start_lem}
use Rattle.soundness.specs.Readable.{Has, orderly}
use Rattle.soundness.specs.Cutting.{function_count_lem, few_functions, good_file}
use Rattle.records.specs.Record.{lists_of}
use Rattle.checker.specs.declared.walk.Turn.TheVariants.{Breaks, Ends, Goes as On}
use Rattle.std.specs.Prelude.{Ok, Err}
use Rattle.nodes.specs.Nodes.{Tabled, mark_of, count_of, done_of, unseen, Fits, Seeded}
use Rattle.nodes.proofs.Bounds.{is_entry, is_function}
use Rattle.nodes.proofs.Lists.{unseen_most}
use Rattle.checker.specs.Work.{Grows, WalkedIn, GoesIn, Sound, Working, Standing, Quiet, Refuted, Started, Settled, Left, Turned, VerdictIs}
use Rattle.checker.proofs.Growth.{grows_refl, grows_trans, fits_grows, goes_grows}
use Rattle.checker.proofs.Covering.{typed, untyped, first_entry, first_function}

-- ---- the start

lists_of_lem : (st : List ℕ) → (lists_of st).operands ≡ [] → lists_of st ≡ lists (lists_of st).locals []
lists_of_lem st e = ap (λ (o : List Ty). lists (lists_of st).locals o) e

pub start_standing : (s : List ℕ) (e : refusal s ≡ 0) (owner p : ℕ) (st : List ℕ) → Seeded s (body_of owner) st → p ≡ body_start (bodies_in s) (body_of owner) → Standing s owner p st
start_standing s e owner p st h q =
    subst (λ (x : ℕ). Standing s owner x st) (sym q)
    (record {
      holds = h.holds;
      stands = record {
        place = (orderly (tables_in s) (good_file s e)).enters (body_of owner) (body_start (bodies_in s) (body_of owner), (lists_of st).locals) h.starts;
        forced = subst (Forced (read s) (body_of owner) (body_start (bodies_in s) (body_of owner))) (sym (lists_of_lem st h.bare)) (at_start_lem (body_start (bodies_in s) (body_of owner)) (lists_of st).locals h.starts);
      };
    })

-- what goes on from the start's record is the body, started
started_by : (s table room marks : List ℕ) (b : Body) (p : ℕ) (st : List ℕ) → Seeded s b st → p ≡ body_start (bodies_in s) b → GoesIn s table room marks b ((p, lists_of st) ∷ []) → Started s table room marks b
started_by s table room marks b p st h q g p' ts e =
    let z : ◌≡◌ {A = ℕ × List Ty} (body_start (bodies_in s) b, (lists_of st).locals) (p', ts) = some_inj (body_start (bodies_in s) b, (lists_of st).locals) (p', ts) (sym h.starts ∙ e) in
    subst (λ (x : ℕ × List Ty). GoesIn s table room marks b ((x.0, lists x.1 []) ∷ [])) z
    (subst (λ (l : Lists). GoesIn s table room marks b ((body_start (bodies_in s) b, l) ∷ [])) (lists_of_lem st h.bare) (subst (λ (x : ℕ). GoesIn s table room marks b ((x, lists_of st) ∷ [])) q g))

module _ (s table : List ℕ) (b : Body) (p : ℕ) (st : List ℕ) (h : Seeded s b st) (start_is : p ≡ body_start (bodies_in s) b) (room marks room₁ marks₁ : List ℕ) where
  pub begin_breaks : Turned s table b p (lists_of st) ((p, lists_of st) ∷ []) room marks room₁ marks₁ Breaks → Left s table b room marks room₁ marks₁ false (Started s table room₁ marks₁ b)
  begin_breaks t = record { grows = t.grows; sound = t.sound; done = λ z. false_true z; refuted = λ z. t.turn }

  pub begin_ends : Turned s table b p (lists_of st) ((p, lists_of st) ∷ []) room marks room₁ marks₁ Ends → Left s table b room marks room₁ marks₁ true (Started s table room₁ marks₁ b)
  begin_ends t = record { grows = t.grows; sound = t.sound; done = λ z. started_by s table room₁ marks₁ b p st h start_is t.turn; refuted = λ z. false_true (sym z) }

  pub begin_goes : (q : ℕ) → Turned s table b p (lists_of st) ((p, lists_of st) ∷ []) room marks room₁ marks₁ (On q) → (room₂ marks₂ : List ℕ) (ok : Bool)
      → Left s table b room₁ marks₁ room₂ marks₂ ok (WalkedIn s table room₂ marks₂ b q (lists_of st)) → Left s table b room marks room₂ marks₂ ok (Started s table room₂ marks₂ b)
  begin_goes q t room₂ marks₂ ok x =
      record {
        grows = grows_trans (labels s) room marks room₁ marks₁ room₂ marks₂ t.grows x.grows;
        sound = x.sound;
        done = λ z. started_by s table room₂ marks₂ b p st h start_is (t.turn.3 room₂ marks₂ x.grows (x.done z));
        refuted = x.refuted;
      }

-- ---- one body

module _ (s table : List ℕ) (b : Body) (room marks room₁ marks₁ : List ℕ) where
  pub body_refused : Left s table b room marks room₁ marks₁ false (Started s table room₁ marks₁ b) → Left s table b room marks room₁ marks₁ false (Settled s table room₁ marks₁ b)
  body_refused x = record { grows = x.grows; sound = x.sound; done = λ z. false_true z; refuted = x.refuted }

  pub body_drained : Tabled s table → Left s table b room marks room₁ marks₁ true (Started s table room₁ marks₁ b) → (room₂ marks₂ : List ℕ) (ok : Bool)
      → Left s table b room₁ marks₁ room₂ marks₂ ok (Quiet marks₂) → Left s table b room marks room₂ marks₂ ok (Settled s table room₂ marks₂ b)
  body_drained t x room₂ marks₂ ok y =
      record {
        grows = grows_trans (labels s) room marks room₁ marks₁ room₂ marks₂ x.grows y.grows;
        sound = y.sound;
        done = λ z. ((λ p ts e. goes_grows s table t room₁ marks₁ room₂ marks₂ y.grows b ((p, lists ts []) ∷ []) (x.done refl p ts e)), y.done z);
        refuted = y.refuted;
      }

-- ---- all bodies

-- where no node waits, any body may be next
sound_for : (s table room marks : List ℕ) (b b' : Body) → Sound s table room marks b → Quiet marks → Sound s table room marks b'
sound_for s table room marks b b' w q =
    record {
      holds = w.holds;
      forced = w.forced;
      listed = w.listed;
      each = w.each;
      walked = w.walked;
      mine = λ i h l. let d : done_of marks ≡ count_of marks = q in absurd (omega arith);
      behind = w.behind;
      few = w.few;
    }

-- the bodies before function i
abbrev Before : ℕ → Body → Type 0
Before i entry = Unit {0}
Before i (fn k) = k < i

pub record Judging (s table room₀ marks₀ : List ℕ) (i : ℕ) (room marks : List ℕ) : Type 0 where
  pub few : i ≤ functions s
  pub grows : Grows (labels s) room₀ marks₀ room marks
  pub sound : Sound s table room marks entry
  pub quiet : Quiet marks
  pub started : (b : Body) → Before i b → Started s table room marks b

-- the body of this owner is to be checked, and function i after it: what its check leaves
pub record AtBody (s : List ℕ) (c : Sections) (table room₀ marks₀ : List ℕ) (owner i : ℕ) (room marks : List ℕ) : Type 0 where
  pub few : i ≤ functions s
  pub works : Working s c table owner room marks
  pub grows : Grows (labels s) room₀ marks₀ room marks
  pub settles : (room' marks' : List ℕ) → Left s table (body_of owner) room marks room' marks' true (Settled s table room' marks' (body_of owner)) → Judging s table room₀ marks₀ i room' marks'
  pub refutes : (room' marks' : List ℕ) → Left s table (body_of owner) room marks room' marks' false (Settled s table room' marks' (body_of owner)) → VerdictIs s table room₀ marks₀ room' marks' (Err owner)

module _ (s : List ℕ) (c : Sections) (table room₀ marks₀ : List ℕ) (packed : Packed s c) (e : refusal s ≡ 0) (t : Tabled s table) (fits : Fits (labels s) room₀ marks₀) where
  -- with no mark
  entry_works : ((k : ℕ) → get_or marks₀ k 0 ≡ 0) → Working s c table 0xffffffff room₀ marks₀
  entry_works h =
      record {
        packed = packed;
        readable = e;
        tabled = t;
        has = subst (Has (bodies_in s)) (sym (is_entry 0xffffffff refl)) tt;
        fits = fits;
        sound = let z : count_of marks₀ ≡ 0 = h 512 in
            let d : done_of marks₀ ≡ 0 = h 513 in
            record {
              holds = λ k l m. let y : mark_of marks₀ k ≡ 0 = h k in absurd (omega arith);
              forced = λ k l m. let y : mark_of marks₀ k ≡ 0 = h k in absurd (omega arith);
              listed = λ k l m. let y : mark_of marks₀ k ≡ 0 = h k in absurd (omega arith);
              each = λ i l. absurd (omega arith);
              walked = λ i l. absurd (omega arith);
              mine = λ i m l. absurd (omega arith);
              behind = omega arith;
              few = let u : unseen marks₀ (labels s) ≤ labels s = unseen_most marks₀ (labels s) in omega arith;
            };
      }

  module _ (room marks : List ℕ) where
    entry_untyped : Left s table (body_of 0xffffffff) room₀ marks₀ room marks false (Settled s table room marks (body_of 0xffffffff)) → VerdictIs s table room₀ marks₀ room marks (Err 0xffffffff)
    entry_untyped x =
        record { grows = x.grows; decides = (first_entry s (untyped s entry (x.refuted refl)), refl, omega arith) }

    entry_settled : Left s table (body_of 0xffffffff) room₀ marks₀ room marks true (Settled s table room marks (body_of 0xffffffff)) → Judging s table room₀ marks₀ 0 room marks
    entry_settled x =
        record {
          few = omega arith;
          grows = x.grows;
          sound = x.sound;
          quiet = (x.done refl).1;
          started = before;
        }
      where
        before : (b : Body) → Before 0 b → Started s table room marks b
        before entry h = (x.done refl).0
        before (fn k) h = absurd (omega arith)

  module _ (i : ℕ) (room marks : List ℕ) (d : Judging s table room₀ marks₀ i room marks) where
    module _ (l : i < functions s) where
      not_entry : i ≡ 0xffffffff → ⊥
      not_entry z = omega (arith, few_functions s e, function_count_lem s e)

      function_is : body_of i ≡ fn i
      function_is = is_function i not_entry

      function_works : Working s c table i room marks
      function_works =
          record {
            packed = packed;
            readable = e;
            tabled = t;
            has = subst (Has (bodies_in s)) (sym function_is) (omega (arith, function_count_lem s e));
            fits = fits_grows (labels s) room₀ marks₀ room marks fits d.grows;
            sound = sound_for s table room marks entry (body_of i) d.sound d.quiet;
          }

      module _ (room' marks' : List ℕ) where
        function_settled : Left s table (body_of i) room marks room' marks' true (Settled s table room' marks' (body_of i)) → Judging s table room₀ marks₀ (i + 1) room' marks'
        function_settled x =
            record {
              few = omega arith;
              grows = grows_trans (labels s) room₀ marks₀ room marks room' marks' d.grows x.grows;
              sound = sound_for s table room' marks' (body_of i) entry x.sound (x.done refl).1;
              quiet = (x.done refl).1;
              started = now_started;
            }
          where
            later : (b : Body) → Started s table room marks b → Started s table room' marks' b
            later b f p ts z = goes_grows s table t room marks room' marks' x.grows b ((p, lists ts []) ∷ []) (f p ts z)

            now_started : (b : Body) → Before (i + 1) b → Started s table room' marks' b
            now_started entry h = later entry (d.started entry tt)
            now_started (fn k) h = decide (ltb k i) (λ y. later (fn k) (d.started (fn k) (ltb_is k i y)))
                (λ y. let u : i ≤ k = ltb_isnt k i y in let v : k ≡ i = omega arith in
                subst (Started s table room' marks') (function_is ∙ ap fn (sym v)) (x.done refl).0)

        -- every body before it has a typing
        function_untyped : Left s table (body_of i) room marks room' marks' false (Settled s table room' marks' (body_of i)) → VerdictIs s table room₀ marks₀ room' marks' (Err i)
        function_untyped x =
            record {
              grows = grows_trans (labels s) room₀ marks₀ room marks room' marks' d.grows x.grows;
              decides = (
                first_function s i l (typed s table e t room marks entry d.sound d.quiet entry tt (d.started entry tt))
                    (λ k h. typed s table e t room marks entry d.sound d.quiet (fn k) (omega (arith, function_count_lem s e)) (d.started (fn k) h))
                    (untyped s (fn i) (subst (λ (b : Body). Refuted s b) function_is (x.refuted refl)))
                    ∙ ap some (sym function_is),
                ap body_number function_is,
                omega (arith, few_functions s e, function_count_lem s e),
              );
            }

    pub all_settled : functions s ≤ i → VerdictIs s table room₀ marks₀ room marks (Ok tt)
    all_settled l = record { grows = d.grows; decides = (d.sound, d.quiet, λ b h. d.started b (before b h)) }
      where
        before : (b : Body) → Has (bodies_in s) b → Before i b
        before entry h = tt
        before (fn k) h = omega (arith, function_count_lem s e)

  -- ---- one after the other

  -- all marks are blank
  pub entry_first : ((k : ℕ) → get_or marks₀ k 0 ≡ 0) → AtBody s c table room₀ marks₀ 0xffffffff 0 room₀ marks₀
  entry_first h = record { few = omega arith; works = entry_works h; grows = grows_refl (labels s) room₀ marks₀; settles = entry_settled; refutes = entry_untyped }

  pub function_next : (i : ℕ) (room marks : List ℕ) → Judging s table room₀ marks₀ i room marks → i < functions s → AtBody s c table room₀ marks₀ i (i + 1) room marks
  function_next i room marks d l =
      record { few = omega arith; works = function_works i room marks d l; grows = d.grows; settles = function_settled i room marks d l; refutes = function_untyped i room marks d l }

  pub more_left : (i : ℕ) → i ≤ functions s → (i ≡ c.functions → ⊥) → i < functions s
  more_left i l n =
      decide (ltb i (functions s)) (λ y. ltb_is i (functions s) y)
      (λ y. let u : functions s ≤ i = ltb_isnt i (functions s) y in let f : c.functions ≡ functions s = packed.functions_is in absurd (n (omega arith)))
