-- What `ret` does, way by way: a law for each return.
use Prim.Native.Nat.{ℕ, zero, suc, ◌+◌, ◌*◌, ◌-◌, ◌/◌, ◌^◌, ◌≤◌, ◌<◌}
use native.Mathlib.Omega.{arith}
use mathlib.Core.Path.{◌≡◌, refl, sym, ap, ◌∙◌, subst}
use mathlib.Core.Bool.{Bool, true, false, cond}
use mathlib.Core.Logic.{inl, inr}
use mathlib.Core.Option.{none}
use mathlib.Core.List.{List, [], ◌∷◌, ◌++◌}
use lib.ListN.{length, get_or, drop}
use lib.Dec.{eqb}
use borrow.Author.Tests.{le-ltb, eq-eqb, ne_eqb, eqb-true}
use Rattle.rules.specs.declared.Exception.TheVariants as Exception
use Rattle.rules.specs.declared.Slot.{Slot}
use Rattle.rules.specs.declared.Instruction.TheVariants.{Ret}
use Rattle.rules.specs.Instructions.{type_byte, ty_of, kind_of}
use Rattle.rules.specs.Tables.{function_count, entry, fn, module_of}
use Rattle.rules.specs.ModuleFile.{edition, read, functions_in}
use Rattle.rules.specs.Stack.{slot_at, slots_of, under}
use Rattle.rules.specs.Machine.{exec_in, own, leaving}
use Rattle.soundness.specs.Started.{all_at}
use Rattle.soundness.specs.Kinds.{Kind, OfKind, Kinded}
use Rattle.reader.specs.declared.entries.FunctionRecord.{FunctionRecord}
use Rattle.std.specs.Prelude.{Some}
use Rattle.reader.specs.Answers.{function_found}
use Rattle.state.specs.Slots.{payloads_with, types_with}
use Rattle.state.specs.State.{body_in, depth_of, memory_of, state_of, frame_at, callers_of, Waiting, Caller, Ready, Does}
use Rattle.state.specs.declared.Registers.{Registers}
use Rattle.state.specs.declared.Progress.TheVariants.{Goes, Finishes, Stops}
use Rattle.state.proofs.Stack.{at_slots, take1_short, take1_has, under_slots, slots_push}
use Rattle.state.proofs.Outcomes.{stopping, putting}
use Rattle.control.specs.Control.{restored_at, past_frame}

-- ---- the function that returns

-- the entry's number is over every function's
own_is : (s : List ℕ) → function_count (edition s) (functions_in s) ≤ 128 → (b : ℕ) → own (read s) (body_in b) ≡ (read s).function b
unfolding module_of
own_is s few b = go (eqb b 65535) refl
  where
    go : (x : Bool) → eqb b 65535 ≡ x → own (read s) (cond x entry (fn b)) ≡ (read s).function b
    go true e = let q : b ≡ 65535 = eqb-true b 65535 e in rw (le-ltb b (function_count (edition s) (functions_in s)) (omega arith)) refl
    go false e = refl

-- ---- the value that is returned

same_kind : (x n : ℕ) → Kind n → type_byte (ty_of x) ≡ x → n ≡ x → n ≡ kind_of (ty_of x)
same_kind x n (inl e) b q = let z : x ≡ 3 = sym q ∙ e in rw (e, z) refl
same_kind x n (inr (inl e)) b q = let z : x ≡ 4 = sym q ∙ e in rw (e, z) refl
same_kind x n (inr (inr (inl e))) b q = let z : x ≡ 6 = sym q ∙ e in rw (e, z) refl
same_kind x n (inr (inr (inr (inl e)))) b q = let z : x ≡ 7 = sym q ∙ e in absurd (let w : ◌≡◌ {A = ℕ} 128 7 = rw z at b in omega arith)
same_kind x n (inr (inr (inr (inr e)))) b q = let z : x ≡ 8 = sym q ∙ e in absurd (let w : ◌≡◌ {A = ℕ} 128 8 = rw z at b in omega arith)

-- a type number that is a return type's byte is the number of that type: it is no pointer's
pub top_kind : (p t : List ℕ) (fl h x : ℕ) (v : Slot) → fl + 1 ≤ h → v ≡ slot_at p t (h - 1) → Kinded (slots_of p t h) → type_byte (ty_of x) ≡ x → v.kind ≡ x → v.kind ≡ kind_of (ty_of x)
top_kind p t fl h x v one top d =
    same_kind x v.kind (subst OfKind (sym top) (all_at OfKind (slots_of p t h) d (h - 1) (slot_at p t (h - 1)) (at_slots p t h (h - 1) (omega arith))))

-- ---- the frame that is left

module _ (r : Registers) (f : List ℕ) (h : ℕ) (whole : r.frame ≡ depth_of r * 24) where
  past : (d : ℕ) → depth_of r ≡ d → (r.frame ≡ 0 → ⊥) → Goes (restored_at f (r.frame - 24) h) ≡ past_frame d r f h
  past zero e ne = absurd (ne (omega arith))
  past (suc d) e ne = let q : r.frame - 24 ≡ d * 24 = omega arith in ap (λ (a : ℕ). Goes (restored_at f a h)) q

  -- a frame that is not the first
  pub past_frame_lem : (r.frame ≡ 0 → ⊥) → Goes (restored_at f (r.frame - 24) h) ≡ past_frame (depth_of r) r f h
  past_frame_lem = past (depth_of r) refl

  pub past_first : r.frame ≡ 0 → Finishes (record { place = r.place; stop = r.stop; floor = r.floor; frame = r.frame; height = h }) ≡ past_frame (depth_of r) r f h
  past_first e = let d : depth_of r ≡ 0 = omega arith in ap (λ (d : ℕ). past_frame d r f h) (sym d)

module _ (cap : ℕ) (r : Registers) (p t f : List ℕ) (k : Ready cap r p t f) where
  abbrev base : ℕ
  base = get_or f (r.frame + 2) 0

  -- ---- the frame is dropped

  module _ (p' t' : List ℕ) (vs : List Slot) (h : ℕ) (slots : slots_of p' t' h ≡ vs ++ under base (slots_of p t r.height))
      (over : base ≤ h) (high : h ≤ cap) (rp : drop (cap * 8) p' ≡ drop (cap * 8) p) (rt : drop cap t' ≡ drop cap t)
      (sp : length p' ≡ length p) (st : length t' ≡ length t) where
    dropped : (d : ℕ) → depth_of r ≡ d
        → Does cap r (past_frame d r f h) p t f p' t' f (leaving (memory_of p t r.height) vs base (slots_of p t r.height) (callers_of f d))
    unfolding callers_of frame_at Waiting
    dropped zero e =
        record { result = rw slots refl; unchanged = tt; ready = high; rest_payloads = rp; rest_types = rt; same_payloads = sp; same_types = st }
    dropped (suc d) e =
        let w : Waiting f (suc d) base = rw e at k.waiting in
        let caller : Caller f (d * 24) base = w.0 in
        let back : d * 24 / 24 ≡ d = omega arith in
        record {
          result = rw (slots, back) refl;
          unchanged = tt;
          ready = record {
            small = k.small;
            payloads = omega (arith, k.payloads);
            types = omega (arith, k.types);
            most = k.most;
            words = omega (arith, k.words, k.whole);
            whole = omega arith;
            high = high;
            over = omega (arith, caller.over);
            low = caller.low;
            few = caller.few;
            near = caller.near;
            waiting = rw back w.1;
          };
          rest_payloads = rp;
          rest_types = rt;
          same_payloads = sp;
          same_types = st;
        }

  -- ---- ret

  module _ (s : List ℕ) (few : function_count (edition s) (functions_in s) ≤ 128) where
    abbrev body : ℕ
    body = get_or f r.frame 0

    pub ret_30 : (read s).function body ≡ none → Does cap r (Stops Exception.FunctionTopOfCallStack) p t f p t f (exec_in (read s) cap Ret (state_of r p t f))
    unfolding exec_in
    ret_30 e = stopping cap r p t f k Exception.FunctionTopOfCallStack _ (rw (own_is s few body, e) refl)

    module _ (g : FunctionRecord) (is : function_found s body (Some g) ≡ (read s).function body) where
      abbrev x : ℕ
      x = g.result

      pub ret_bare : x ≡ 0 → Does cap r (past_frame (depth_of r) r f base) p t f p t f (exec_in (read s) cap Ret (state_of r p t f))
      unfolding exec_in
      ret_bare bare =
          rw (own_is s few body, ← is, eq-eqb x 0 bare)
          (dropped p t [] base (sym (under_slots p t r.height base (omega (arith, k.low, k.over)))) (omega arith)
          (omega (arith, k.low, k.over, k.high)) refl refl refl refl (depth_of r) refl)

      module _ (valued : x ≡ 0 → ⊥) where
        pub ret_21 : r.height < r.floor + 1 → Does cap r (Stops Exception.StackEmpty) p t f p t f (exec_in (read s) cap Ret (state_of r p t f))
        unfolding exec_in
        ret_21 h =
            stopping cap r p t f k Exception.StackEmpty _
            (rw (own_is s few body, ← is, ne_eqb x 0 valued) (take1_short p t r.floor r.height _ h))

        module _ (v : Slot) (one : r.floor + 1 ≤ r.height) (top : v ≡ slot_at p t (r.height - 1)) where
          pub ret_22 : (v.kind ≡ kind_of (ty_of x) → ⊥) → Does cap r (Stops Exception.StackDifferentType) p t f p t f (exec_in (read s) cap Ret (state_of r p t f))
          unfolding exec_in
          ret_22 ne =
              stopping cap r p t f k Exception.StackDifferentType _
              (rw (own_is s few body, ← is, ne_eqb x 0 valued) (take1_has p t r.floor r.height _ one ∙ rw (← top, ne_eqb v.kind (kind_of (ty_of x)) ne) refl))

          -- the value is written at the frame's first slot
          pub ret_value : (p' t' : List ℕ) → v.kind ≡ kind_of (ty_of x) → p' ≡ payloads_with p base v → t' ≡ types_with t base v → v.payload < 2 ^ 64
              → Does cap r (past_frame (depth_of r) r f (base + 1)) p t f p' t' f (exec_in (read s) cap Ret (state_of r p t f))
          unfolding exec_in
          ret_value p' t' eq ep et fits =
              let below : base < r.height = omega (arith, k.low) in
              let moved = putting cap r p t f k v base p' t' ep et fits (omega (arith, k.high)) 0 r.height _ below (omega arith) k.over refl in
              let pushed : slots_of p' t' (base + 1) ≡ v ∷ slots_of p t base =
              rw (ep, et) (slots_push p t base v (omega (arith, k.high, k.payloads)) (omega (arith, k.high, k.types)) fits) in
              rw (own_is s few body, ← is, ne_eqb x 0 valued)
              (rw (take1_has p t r.floor r.height _ one)
              (rw (← top, eq-eqb v.kind (kind_of (ty_of x)) eq)
              (dropped p' t' (v ∷ []) (base + 1) (pushed ∙ ap (λ (l : List Slot). v ∷ l) (sym (under_slots p t r.height base (omega arith))))
              (omega arith) (omega (arith, k.high)) moved.rest_payloads moved.rest_types moved.same_payloads moved.same_types (depth_of r) refl)))
