-- What the run of a body answers, return by return.
use Prim.Native.Nat.{ℕ, zero, suc, ◌+◌, ◌*◌, ◌≤◌, ◌<◌}
use native.Mathlib.Omega.{arith}
use mathlib.Core.Path.{◌≡◌, refl, sym, ap, ◌∙◌, subst}
use mathlib.Core.Bool.{Bool, true, false}
use mathlib.Core.Option.{none}
use mathlib.Core.List.{List, []}
use lib.ListN.{length}
use borrow.Author.Tests.{le-leb, lt-leb}
use Rattle.rules.specs.AnswerTypes.{RunAnswer}
use Rattle.rules.specs.AnswerTypes.{Rejected}
use Rattle.rules.specs.declared.Slot.{Slot}
use Rattle.rules.specs.Instructions.{Ty}
use Rattle.rules.specs.Tables.{body_of, function_at, params_from}
use Rattle.rules.specs.ModuleFile.{edition, refusal, read, functions_in}
use Rattle.rules.specs.Stack.{slots_of}
use Rattle.rules.specs.Heap.{empty_heap}
use Rattle.rules.specs.Machine.{Outcome, outcome, run}
use Rattle.rules.specs.Typing.{start_of}
use Rattle.rules.specs.Answers.{admitted, arguments, start_state, outcome_of, ran, run_refusal, made_for, other_profile, scan_refusal, run_module}
use Rattle.soundness.specs.Framed.{with_heap}
use Rattle.soundness.specs.Kinds.{start_kinds}
use Rattle.format.specs.declared.Sections.{Sections}
use Rattle.rules.specs.declared.Refusal.{Refusal}
use Rattle.rules.specs.Results.{refusal_number}
use Rattle.reader.proofs.Opening.{refusal_some}
use Rattle.state.specs.State.{memory_of, state_of, Ready}
use Rattle.state.specs.declared.Registers.{Registers}
use Rattle.heap.proofs.Lent.{Small}
use Rattle.state.proofs.Stack.{length_slots}
use Rattle.control.specs.Control.{opened_in, first_at}
use Rattle.control.proofs.Frames.{state_first, ready_first}
use Rattle.machine.specs.Ends.{Fits}
use Rattle.runs.specs.declared.BodyRecord.{BodyRecord}
use Rattle.runs.specs.Runs.{lent_of, slots_in, lent_heap_of, cells_in, ClosedAs, LeavesAs, RunIs, Empty, Emptied, Copied, BodyIs}
use Rattle.runs.proofs.Final.{capacity_payloads, capacity_types, capacity_most, joined, cells_blank, table_blank, stack_of, heap_of_lem}
use Rattle.runs.proofs.Arguments.{admitted_lengths}

-- the file s, the body's number f, the arguments a and b, the lent bytes p and t, c and h
module _ (s : List ℕ) (f : ℕ) (a b p t c h : List ℕ) where
  pub run_unread : (scan n : ℕ) (e : Refusal) → refusal s ≡ refusal_number e → RunIs s f a b scan n p t c h p t c h (Rejected (refusal_number e))
  unfolding run_module run_refusal scan_refusal
  run_unread scan n e q = subst (λ (k : ℕ). RunIs s f a b scan n p t c h p t c h (Rejected k)) q (go (refusal s) refl)
    where
      go : (r : ℕ) → refusal s ≡ r → RunIs s f a b scan n p t c h p t c h (Rejected (refusal s))
      go zero w = absurd (refusal_some e (sym q ∙ w))
      go (suc r) w = rw w refl

  pub run_12 : (scan n : ℕ) → refusal s ≡ 0 → start_of (read s) (body_of f) ≡ none → RunIs s f a b scan n p t c h p t c h (Rejected 12)
  unfolding run_module run_refusal scan_refusal
  run_12 scan n readable e = rw (readable, e) refl

  -- ---- a body that is there

  module _ (l : Sections) (g : BodyRecord) (is : BodyIs s l f g) where
    abbrev params : List Ty
    params = params_from (functions_in s) (function_at (edition s) g.body + 10) g.params

    pub run_13 : (scan n : ℕ) → refusal s ≡ 0 → (v : Bool) → v ≡ admitted params (lent_of a b) → v ≡ false → RunIs s f a b scan n p t c h p t c h (Rejected 13)
    unfolding run_module run_refusal scan_refusal
    run_13 scan n readable v ev q = rw (readable, is.starts, sym ev ∙ q) refl

    pub run_17 : (scan n : ℕ) → refusal s ≡ 0 → (v : Bool) → v ≡ admitted params (lent_of a b) → v ≡ true
        → (o : Bool) → o ≡ other_profile (made_for (read s) (body_of f)) scan → o ≡ true → RunIs s f a b scan n p t c h p t c h (Rejected 17)
    unfolding run_module run_refusal scan_refusal
    run_17 scan n readable v ev fit o eo q = rw (readable, is.starts, sym ev ∙ fit, sym eo ∙ q) refl

    module _ (v : Bool) (ev : v ≡ admitted params (lent_of a b)) (yes : v ≡ true) (cap : ℕ) (ec : cap ≡ slots_in p t) where
      fit : admitted params (lent_of a b) ≡ true
      fit = sym ev ∙ yes

      abbrev held : List Slot
      held = arguments (lent_of a b)

      lengths : (length b ≡ g.params) × (length a ≡ g.params * 8)
      lengths = admitted_lengths (functions_in s) (function_at (edition s) g.body + 10) a b g.params fit

      count : length held ≡ g.params
      count = length_slots a b (length b) ∙ lengths.0

      -- the run that the rules give, where the body is for this scan
      runs : (scan n : ℕ) → refusal s ≡ 0 → (o : Bool) → o ≡ other_profile (made_for (read s) (body_of f)) scan → o ≡ false
          → run_module s f (lent_of a b) scan n (lent_of p t) (lent_heap_of c h) ≡ ran (outcome_of (read s) (body_of f) held n cap (cells_in c h)) (lent_of p t) (lent_heap_of c h)
      unfolding run_module run_refusal scan_refusal
      runs scan n readable o eo q = rw (readable, is.starts, fit, sym eo ∙ q, ec) refl

      -- the cells and the table are cleared to c₁ and h₁
      module _ (c₁ h₁ : List ℕ) (clear : Emptied c h c₁ h₁) where
        pub same_cells : cells_in c₁ h₁ ≡ cells_in c h
        same_cells = rw (clear.same_cells, clear.same_table) refl

        pub still_empty : Empty (cells_in c₁ h₁) c₁ h₁
        still_empty = rw same_cells clear.empty

        pub run_20 : (scan n : ℕ) → refusal s ≡ 0 → (o : Bool) → o ≡ other_profile (made_for (read s) (body_of f)) scan → o ≡ false → cap < g.params → Small c₁ → Small h₁ → (p' t' : List ℕ) (x : RunAnswer)
            → ClosedAs (outcome 20 0 (memory_of p t 0)) p t p' t' x → RunIs s f a b scan n p t c h p' t' c₁ h₁ x
        unfolding outcome_of slots_of
        run_20 scan n readable ok eo q less sc sh p' t' x closed =
            let y : Outcome = outcome 20 0 (record { stack = []; heap = empty_heap (cells_in c h) }) in
            let o : outcome_of (read s) (body_of f) held n cap (cells_in c h) ≡ y = rw (count, lt-leb g.params cap less) refl in
            joined y p t c₁ h₁ p' t' c₁ h₁ x closed (cells_blank (cells_in c₁ h₁) c₁ h₁ still_empty sc) (table_blank (cells_in c₁ h₁) c₁ h₁ still_empty sh)
            ∙ heap_of_lem y (lent_of p t) c h c₁ h₁ clear
            ∙ ap (λ (z : Outcome). ran z (lent_of p t) (lent_heap_of c h)) (sym o) ∙ sym (runs scan n readable ok eo q)

      -- ---- arguments that fit

      module _ (enough : g.params ≤ cap) where
        pub room : (g.params * 8 ≤ length a) × (g.params ≤ length b) × (g.params * 8 ≤ length p) × (g.params ≤ length t)
        room = (
          omega (arith, lengths.1),
          omega (arith, lengths.0),
          omega (arith, capacity_payloads p t),
          omega (arith, capacity_types p t),
        )

        -- p₁ and t₁ have the arguments; r and w' are the first frame
        module _ (p₁ t₁ w w' : List ℕ) (r : Registers) (copied : Copied a b p t g.params p₁ t₁) (most : ℕ) (words : length w ≡ most) (one_frame : 24 ≤ most)
            (frames : most ≤ 1536) (er : r ≡ first_at g.start g.end g.params) (ew : w' ≡ opened_in w 0 g.body 0 g.params) where
          ready : Ready cap r p₁ t₁ w'
          ready =
              rw (er, ew)
              (ready_first p₁ t₁ w g.body g.start g.end g.params (omega arith) (omega (arith, is.few)) cap
              (omega (arith, capacity_most p t))
              (omega (arith, capacity_payloads p t, copied.same_payloads))
              (omega (arith, capacity_types p t, copied.same_types))
              (omega arith) enough is.near)

          -- over n cells of heap
          start_is : (n : ℕ) → with_heap (empty_heap n) (state_of r p₁ t₁ w') ≡ start_state (read s) (body_of f) held n
          start_is n =
              rw (er, ew)
              (ap (with_heap (empty_heap n)) (state_first p₁ t₁ w g.body g.start g.end g.params (omega arith) (omega (arith, is.few)))
              ∙ rw (is.starts, is.ends, is.named, count, copied.slots, ← lengths.0) refl)

          few_held : length held ≤ cap
          few_held = omega (arith, count)

          pub starts_fit : refusal s ≡ 0 → Fits (read s) cap r p₁ t₁ w'
          unfolding run_refusal
          starts_fit readable =
              record {
                ready = ready;
                fit = rw (start_is 0) (start_kinds s f (lent_of a b) (rw (readable, is.starts, fit) refl) cap 0 few_held);
              }

          pub same_slots : cap ≡ slots_in p₁ t₁
          same_slots = rw (copied.same_payloads, copied.same_types) ec

          -- the run that the rules give, over n cells, is that from here
          pub starts_as : (allowance n : ℕ) → outcome_of (read s) (body_of f) held allowance cap n ≡ run (read s) cap allowance 0 (with_heap (empty_heap n) (state_of r p₁ t₁ w'))
          unfolding outcome_of
          starts_as allowance n = rw (le-leb (length held) cap few_held) (ap (run (read s) cap allowance 0) (sym (start_is n)))

          pub run_over : (scan n : ℕ) → refusal s ≡ 0 → (o : Bool) → o ≡ other_profile (made_for (read s) (body_of f)) scan → o ≡ false → (c₁ h₁ : List ℕ) → Emptied c h c₁ h₁ → (p' t' c' h' : List ℕ) (x : RunAnswer)
              → LeavesAs (run (read s) cap n 0 (with_heap (empty_heap (cells_in c₁ h₁)) (state_of r p₁ t₁ w'))) p₁ t₁ c₁ h₁ p' t' c' h' x
              → RunIs s f a b scan n p t c h p' t' c' h' x
          run_over scan n readable ok eo q c₁ h₁ clear p' t' c' h' x left =
              let o : Outcome = run (read s) cap n 0 (with_heap (empty_heap (cells_in c₁ h₁)) (state_of r p₁ t₁ w')) in
              let came : outcome_of (read s) (body_of f) held n cap (cells_in c h) ≡ o =
              starts_as n (cells_in c h) ∙ ap (λ (i : ℕ). run (read s) cap n 0 (with_heap (empty_heap i) (state_of r p₁ t₁ w'))) (sym (same_cells c₁ h₁ clear)) in
              left
              ∙ heap_of_lem o (lent_of p₁ t₁) c h c₁ h₁ clear
              ∙ stack_of o p t p₁ t₁ (lent_heap_of c h) cap ec copied.same_payloads copied.same_types (copied.rest_payloads cap enough) (copied.rest_types cap enough)
              ∙ ap (λ (y : Outcome). ran y (lent_of p t) (lent_heap_of c h)) (sym came)
              ∙ sym (runs scan n readable ok eo q)
