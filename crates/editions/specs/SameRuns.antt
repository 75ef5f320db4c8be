-- 02, A7: each run of what went up is that of the old module.
use Rattle.std.specs.Prelude.{◌≡◌, Bool, cond, length, leb}
use Rattle.std.proofs.Math.Path.{refl, ap}
use Rattle.std.proofs.Common.{◌∙◌}
use Prim.Native.Nat.{ℕ, zero, suc}
use Rattle.std.proofs.Math.Bool.{true, false}
use Rattle.std.proofs.Math.Option.{Option}
use mathlib.Core.List.{List}
use Rattle.soundness.specs.Names.{Slot, Instruction, push, load, store, lea, one, two, tload, tstore, bump, jmp, branch, call, ret, null, new, delete, flea}
use Rattle.rules.specs.Tables.{Body, entry, fn, body_of, Module}
use Rattle.rules.specs.ModuleFile.{refusal, tables_in, read}
use Rattle.rules.specs.Instructions.{Ty}
use Rattle.rules.specs.Numbers.{done}
use Rattle.rules.specs.Stack.{Lent, capacity}
use Rattle.rules.specs.Heap.{LentHeap, heap_capacity, shape_of, target_of}
use Rattle.rules.specs.Machine.{State, Next, goes, stops, finishes, exec_in, step, at_end, end_number, advance, own, Outcome, outcome, run}
use Rattle.rules.specs.Typing.{start_of, end_of}
use Rattle.rules.specs.Answers.{start_refusal, run_refusal, made_for, scan_refusal_with, scan_refusal, start_state, outcome_of, arguments, ran, run_with, run_module}
use Rattle.rules.specs.Claims.{AreBytes}
use Rattle.rules.specs.Converting.{fourth, refusal_in}
use Rattle.soundness.specs.Tests.{decide, leb_is}
use Rattle.soundness.specs.Readable.{Orderly, orderly}
use Rattle.soundness.specs.Cutting.{good_file}
use Rattle.soundness.specs.Started.{Closed, Fit, NextFit, has_instruction, advance_fit}
use Rattle.soundness.specs.Narrow.{Narrow, narrow_closed}
use Rattle.soundness.specs.Begun.{start_fit}
use Rattle.soundness.specs.Whole.{started, scan_started}
use Rattle.editions.specs.Conversions.{up_read}
use Rattle.editions.specs.Recoded.{recoded, new_code, old_readable, recoded_is, same_instruction}

-- ---- what a module does without its edition and its code

module _ (m : Module) (e : ℕ) (c : ℕ → Option Instruction) where
  -- the function of a body, for `ret`
  pub same_own : (b : Body) → own (recoded m e c) b ≡ own m b
  same_own entry = refl
  same_own (fn k) = refl

  -- one instruction
  same_exec : (cap : ℕ) (i : Instruction) (s : State) → exec_in (recoded m e c) cap i s ≡ exec_in m cap i s
  unfolding exec_in shape_of target_of
  same_exec cap (push k) s = refl
  same_exec cap (load n) s = refl
  same_exec cap (store n) s = refl
  same_exec cap (lea n) s = refl
  same_exec cap (one o) s = refl
  same_exec cap (two o) s = refl
  same_exec cap tload s = refl
  same_exec cap tstore s = refl
  same_exec cap (bump u) s = refl
  same_exec cap (jmp l) s = refl
  same_exec cap (branch b l) s = refl
  same_exec cap (call k) s = refl
  same_exec cap ret s = rw (same_own s.top.body)
  same_exec cap (null g) s = refl
  same_exec cap (new false t) s = refl
  same_exec cap (new true t) s = refl
  same_exec cap delete s = refl
  same_exec cap (flea n) s = refl

  -- where a body starts and ends
  pub same_start : (b : Body) → start_of (recoded m e c) b ≡ start_of m b
  same_start entry = refl
  same_start (fn k) = refl

  pub same_end : (b : Body) → end_of (recoded m e c) b ≡ end_of m b
  same_end entry = refl
  same_end (fn k) = refl

  -- the profile that it was made for
  same_profile : (b : Body) → made_for (recoded m e c) b ≡ made_for m b
  same_profile entry = refl
  same_profile (fn k) = refl

  -- the state in which its run starts
  same_first : (b : Body) (vs : List Slot) (n : ℕ) → start_state (recoded m e c) b vs n ≡ start_state m b vs n
  same_first entry vs n = refl
  same_first (fn k) vs n = refl

-- ---- runs

module _ (m : Module) (O : Orderly m) (P : Slot → Type 0) (C : Closed m P) (cap e : ℕ) (c : ℕ → Option Instruction)
    (same : (b : Body) (p : ℕ) → m.is_place b p ≡ true → c p ≡ m.code p) where
  -- one moment: the top frame is at a place, and there the code is the same
  same_advance : (s : State) → Fit m P cap s → advance (recoded m e c) cap s ≡ advance m cap s
  unfolding advance step
  same_advance s I = go (at_end s.top) refl
    where
      ended : Next
      ended = stops (end_number s.top.body)

      go : (b : Bool) → at_end s.top ≡ b → cond b ended (step (recoded m e c) cap s) ≡ cond b ended (step m cap s)
      go true q = refl
      go false q =
          let x = has_instruction m O P C cap s I q in
          rw (same s.top.body s.top.place I.frames.0.placed, x.1) (same_exec m e c cap x.0 s)

  -- all that follow
  same_moments : (n k : ℕ) (s : State) → Fit m P cap s → run (recoded m e c) cap n k s ≡ run m cap n k s
  unfolding run
  same_moments zero k s I = refl
  same_moments (suc n) k s I =
      ap onward (same_advance s I) ∙ go (advance m cap s) (advance_fit m O P C cap s I) (λ s' I'. same_moments n (suc k) s' I')
    where
      onward : Next → Outcome
      onward x = elim x [ goes s' ↦ run (recoded m e c) cap n (suc k) s' | stops e ↦ outcome e k s.memory | finishes M ↦ outcome done (suc k) M ]

      go : (x : Next) → NextFit m P cap x → ((s' : State) → Fit m P cap s' → run (recoded m e c) cap n (suc k) s' ≡ run m cap n (suc k) s')
          → ◌≡◌ {A = Outcome} (onward x) (elim x [ goes s' ↦ run m cap n (suc k) s' | stops e ↦ outcome e k s.memory | finishes M ↦ outcome done (suc k) M ])
      go (goes s') h ih = ih s' h
      go (stops e) h ih = refl
      go (finishes M) h ih = refl

-- ---- of files

module _ (s : List ℕ) (h : refusal_in 3 s ≡ 0) (f : ℕ) (args : Lent) where
  -- 1 to 9, 12 and 13
  same_run_refusal : run_refusal (fourth s) f args ≡ run_refusal s f args
  unfolding run_refusal
  same_run_refusal =
      rw ((up_read s h).0, old_readable s h)
      (ap (λ (m : Module). start_refusal (start_of m (body_of f)) args) (recoded_is s h)
      ∙ ap (λ (o : Option (ℕ × List Ty)). start_refusal o args) (same_start (read s) 4 (new_code s) (body_of f)))

  -- 17
  same_made : made_for (read (fourth s)) (body_of f) ≡ made_for (read s) (body_of f)
  same_made = ap (λ (m : Module). made_for m (body_of f)) (recoded_is s h) ∙ same_profile (read s) 4 (new_code s) (body_of f)

  same_scan_refusal : (scan : ℕ) → scan_refusal (fourth s) f args scan ≡ scan_refusal s f args scan
  unfolding scan_refusal
  same_scan_refusal scan = rw same_run_refusal (go (run_refusal s f args))
    where
      go : (r : ℕ) → scan_refusal_with (fourth s) f scan r ≡ scan_refusal_with s f scan r
      go zero = rw same_made
      go (suc r) = refl

  -- a run that is not refused
  same_outcome : run_refusal s f args ≡ 0 → (n : ℕ) (x : Lent) (y : LentHeap)
      → outcome_of (read (fourth s)) (body_of f) (arguments args) n (capacity x) (heap_capacity y)
      ≡ outcome_of (read s) (body_of f) (arguments args) n (capacity x) (heap_capacity y)
  unfolding outcome_of
  same_outcome e n x y =
      ap (λ (m : Module). outcome_of m (body_of f) (arguments args) n (capacity x) (heap_capacity y)) (recoded_is s h)
      ∙ decide (leb (length (arguments args)) (capacity x))
      (λ z. let r : refusal s ≡ 0 = old_readable s h in
      let b : Body = body_of f in
      let st : State = start_state (read s) b (arguments args) (heap_capacity y) in
      let I : Fit (read s) (Narrow (AreBytes s)) (capacity x) st =
      start_fit s r b (arguments args) (started s f args e) (capacity x) (heap_capacity y) (leb_is (length (arguments args)) (capacity x) z) in
      rw (z, same_first (read s) 4 (new_code s) b (arguments args) (heap_capacity y))
      (same_moments (read s) (orderly (tables_in s) (good_file s r)) (Narrow (AreBytes s)) (narrow_closed s r) (capacity x) 4 (new_code s)
      (same_instruction s h) n 0 st I))
      (λ z. rw z)

  -- a refusal, or the run
  same_run_with : (n : ℕ) (x : Lent) (y : LentHeap) (r : ℕ) → (r ≡ 0 → run_refusal s f args ≡ 0)
      → run_with (fourth s) f args n x y r ≡ run_with s f args n x y r
  same_run_with n x y (suc r) k = refl
  same_run_with n x y zero k = ap (λ (o : Outcome). ran o x y) (same_outcome (k refl) n x y)

-- each run of what comes out, whatever the scan, answers as that of the old module and leaves the same
pub same_run : (s : List ℕ) → refusal_in 3 s ≡ 0 → (f : ℕ) (args : Lent) (scan allowance : ℕ) (x : Lent) (y : LentHeap)
    → run_module (fourth s) f args scan allowance x y ≡ run_module s f args scan allowance x y
unfolding run_module
same_run s h f args scan n x y =
    ap (run_with (fourth s) f args n x y) (same_scan_refusal s h f args scan)
    ∙ same_run_with s h f args n x y (scan_refusal s f args scan) (scan_started s f args scan)
