-- 02, A11: what a report says of runs (`Suffices` of the rules), proved.
use Rattle.std.specs.Prelude.{◌≡◌, Bool, cond, List, [], ◌++◌, ltb}
use Rattle.std.proofs.Math.Path.{refl, ap, subst}
use Rattle.std.proofs.Common.{sym, ◌∙◌, append_assoc, take_at, drop_at}
use Prim.Native.Nat.{ℕ, zero, suc, ◌+◌, ◌-◌, ◌*◌, ◌≤◌, ◌<◌}
use native.Mathlib.Omega.{arith}
use Rattle.std.proofs.Math.Bool.{true, false}
use Rattle.std.proofs.Math.Option.{Option, none, some}
use Rattle.std.proofs.Math.ListN.{length, take, drop, length-append}
use Rattle.std.proofs.Math.Seq.{drop-append-add}
use Rattle.soundness.specs.Names.{CheckAnswer}
use Rattle.soundness.specs.Names.{Refused, Untyped, Accepted}
use Rattle.rules.specs.Bytes.{maybe}
use Rattle.rules.specs.Instructions.{Ty}
use Rattle.rules.specs.Tables.{Body, entry, fn, body_of, body_number, Function, function_count, Module, module_of}
use Rattle.rules.specs.ModuleFile.{edition, refusal, functions, labels, functions_in, read}
use Rattle.rules.specs.Stack.{Lent}
use Rattle.rules.specs.Typing.{start_of, WellTyped}
use Rattle.rules.specs.Check.{bodies, functions_from, first_untyped}
use Rattle.rules.specs.Answers.{check, check_with, judged, check_number, run_refusal}
use Rattle.rules.specs.Demand3.{IsAccepted, Earlier, Exists}
use Rattle.soundness.specs.Tests.{decide, none_some, ltb_is, ltb_isnt, ltb_yes, ltb_no}
use Rattle.soundness.specs.Whole.{accepted_typed, started}
use Rattle.soundness.specs.Cutting.{function_count_lem, function_count_le, few_functions}
use Rattle.rules.specs.Need.{height, argument_at, Calls, Reaches, here, within, Stacks, alone, under_it, Needs, Recursive}
use Rattle.need.specs.Safe.{run_never_overflows}
use Rattle.need.specs.Grounds.{height_bound}
use Rattle.need.specs.Settle.{Long, long_recursive, needs_not_recursive}
use Rattle.rules.specs.Heights.{Found, need_of}
use Rattle.need.specs.Computed.{called_function, need_needs, none_recursive, recursive_none, needs_found}
use Rattle.rules.specs.AnswerTypes.{NeedAnswer}
use Rattle.rules.specs.AnswerTypes.{Unreported, ReportUntyped, ReportLoops, Reported}
use Rattle.rules.specs.Reporting.{need_number, first_looping, found_bytes, report_bytes, report_length, Reporting, reporting, report_with, report_after, report_needs}
use Rattle.rules.specs.Suffices.{FirstLooping, report_at, Shown, NoLoop, Suffices}

-- at most 128 functions
pub few : (s : List ℕ) → refusal s ≡ 0 → functions s ≤ 128
few s e = let a : function_count (edition s) (functions_in s) ≤ 128 = few_functions s e in let b : function_count (edition s) (functions_in s) ≡ functions s = function_count_lem s e in omega arith

-- ---- bounds

module _ (m : Module) (acc : WellTyped m) where
  -- 544 slots a frame
  tall_deep : (b : Body) (h : ℕ) → Reaches m b h → (d : ℕ) × Stacks m b d × (h ≤ 544 * d)
  tall_deep _ _ (here b p l f r) = (1, alone b, (let z : height l f ≤ 544 = height_bound m b (acc.typing b) (acc.consistent b) p l f r in omega arith))
  tall_deep _ _ (within b p l f k h r c t) = go (tall_deep (fn k) h t)
    where
      go : ((d : ℕ) × Stacks m (fn k) d × (h ≤ 544 * d)) → (d : ℕ) × Stacks m b d × (argument_at m l f k + h ≤ 544 * d)
      go x =
          let z : height l f ≤ 544 = height_bound m b (acc.typing b) (acc.consistent b) p l f r in
          let w : h ≤ 544 * x.0 = x.2 in (suc x.0, under_it b k x.0 (p, l, f, r, c) x.1, omega arith)

  stacks_long : (b : Body) (d : ℕ) → Stacks m b d → (n : ℕ) × (d ≡ suc n) × Long m n b
  stacks_long _ _ (alone b) = (0, refl, tt)
  stacks_long _ _ (under_it b k d c t) = go (stacks_long (fn k) d t)
    where
      go : ((n : ℕ) × (d ≡ suc n) × Long m n (fn k)) → (n : ℕ) × (suc d ≡ suc n) × Long m n b
      go x = (suc x.0, ap suc x.1, (k, c, x.2))

  long_first : (n j : ℕ) (b : Body) → j ≤ n → Long m n b → Long m j b
  long_first n zero b l h = tt
  long_first zero (suc j) b l h = absurd (omega arith)
  long_first (suc n) (suc j) b l h = (h.0, h.1, long_first n j (fn h.0) (omega arith) h.2)

  module _ (N : ℕ) (bounded : (b : Body) (k : ℕ) → Calls m b k → k < N) where
    pub few_frames : (b : Body) (n d : ℕ) → Needs m b n d → d ≤ suc N
    few_frames b n d h =
        let x : (j : ℕ) × (d ≡ suc j) × Long m j b = stacks_long b d h.deepest.0 in
        decide (ltb N x.0)
        (λ y. let z : N < x.0 = ltb_is N x.0 y in absurd (needs_not_recursive m b n d h (long_recursive m N bounded b (long_first x.0 (suc N) b z x.2))))
        (λ y. let z : x.0 ≤ N = ltb_isnt N x.0 y in let w : d ≡ suc x.0 = x.1 in omega arith)

    pub low_need : (b : Body) (n d : ℕ) → Needs m b n d → n ≤ 544 * suc N
    low_need b n d h =
        let x : (e : ℕ) × Stacks m b e × (n ≤ 544 * e) = tall_deep b n h.tallest.0 in
        let y : x.0 ≤ d = h.deepest.1 x.0 x.1 in
        let z : d ≤ suc N = few_frames b n d h in let w : n ≤ 544 * x.0 = x.2 in omega arith

-- ---- a module that can be read

module _ (s : List ℕ) where
  function_below : (k : ℕ) (F : Function) → (read s).function k ≡ some F → k < functions s
  unfolding module_of
  function_below k F e =
      let l : function_count (edition s) (functions_in s) ≤ functions s = function_count_le s in
      decide (ltb k (function_count (edition s) (functions_in s))) (λ y. let h : k < function_count (edition s) (functions_in s) = ltb_is k (function_count (edition s) (functions_in s)) y in omega arith)
      (λ y. none_some (rw y at e))

  function_there : refusal s ≡ 0 → (k : ℕ) → k < functions s → (read s).function k ≡ none → ⊥
  unfolding module_of
  function_there rd k h e =
      let c : function_count (edition s) (functions_in s) ≡ functions s = function_count_lem s rd in
      none_some (sym (rw (ltb_yes k (function_count (edition s) (functions_in s)) (omega arith)) at e))

  pub has_start : refusal s ≡ 0 → (b : Body) → Exists s b → (x : ℕ × List Ty) × (start_of (read s) b ≡ some x)
  has_start rd entry h = ((0, []), refl)
  has_start rd (fn k) h = go ((read s).function k) refl
    where
      go : (o : Option Function) → (read s).function k ≡ o → (x : ℕ × List Ty) × (maybe o none (λ F. some (F.start, F.params)) ≡ some x)
      go none e = absurd (function_there rd k h e)
      go (some F) e = ((F.start, F.params), refl)

  -- a body that the host may run
  pub run_exists : (f : ℕ) (args : Lent) → run_refusal s f args ≡ 0 → Exists s (body_of f)
  run_exists f args e = go (body_of f) (started s f args e).0 (started s f args e).1
    where
      go : (b : Body) (x : ℕ × List Ty) → start_of (read s) b ≡ some x → Exists s b
      go entry x q = tt
      go (fn k) x q = on ((read s).function k) refl q
        where
          on : (o : Option Function) → (read s).function k ≡ o → maybe o none (λ F. some (F.start, F.params)) ≡ some x → k < functions s
          on none h z = none_some z
          on (some F) h z = function_below k F h

  module _ (acc : WellTyped (read s)) (rd : refusal s ≡ 0) where
    pub below : (b : Body) (k : ℕ) → Calls (read s) b k → k < functions s
    below b k c = let F : (F : Function) × ((read s).function k ≡ some F) = called_function (read s) acc b k c in function_below k F.0 F.1

    abbrev Fails : Body → Type 0
    Fails b = need_of (read s) (suc (functions s)) b ≡ none

    fails_recursive : (b : Body) → Fails b → Recursive (read s) b
    fails_recursive b e = none_recursive (read s) acc (functions s) function_below b e

    pub recursive_fails : (b : Body) → Exists s b → Recursive (read s) b → Fails b
    recursive_fails b h r = recursive_none (read s) acc (functions s) function_below b (has_start rd b h) r

    pub needs_shown : (b : Body) → Exists s b → (n d : ℕ) → Needs (read s) b n d → need_of (read s) (suc (functions s)) b ≡ some (n, d)
    needs_shown b h n d x = needs_found (read s) acc (functions s) function_below b (has_start rd b h) n d x

    -- ---- the search

    abbrev Ok : Body → Type 0
    Ok b = (x : ℕ × ℕ) × (need_of (read s) (suc (functions s)) b ≡ some x)

    -- of the functions k to k + n - 1: all are found, or j is the first that is not
    record FirstOf (k n j : ℕ) : Type 0 where
      from : k ≤ j
      under : j < k + n
      fails : Fails (fn j)
      before : (i : ℕ) → k ≤ i → i < j → Ok (fn i)

    abbrev FunctionsFrom : ℕ → ℕ → Option Body → Type 0
    FunctionsFrom n k none = (i : ℕ) → k ≤ i → i < k + n → Ok (fn i)
    FunctionsFrom n k (some entry) = ⊥
    FunctionsFrom n k (some (fn j)) = FirstOf k n j

    functions_from_lem : (n k : ℕ) → FunctionsFrom n k (first_looping (read s) (functions s) (functions_from n k))
    unfolding first_looping
    functions_from_lem zero k = λ i h l. absurd (omega arith)
    functions_from_lem (suc n) k = go (need_of (read s) (suc (functions s)) (fn k)) refl (first_looping (read s) (functions s) (functions_from n (suc k))) (functions_from_lem n (suc k))
      where
        at_k : Ok (fn k) → (i : ℕ) → k ≤ i → (suc k ≤ i → Ok (fn i)) → Ok (fn i)
        at_k c i h f = decide (ltb k i) (λ y. f (ltb_is k i y)) (λ y. let z : i ≤ k = ltb_isnt k i y in let w : k ≡ i = omega arith in subst (λ j. Ok (fn j)) w c)

        on : Ok (fn k) → (o : Option Body) → FunctionsFrom n (suc k) o → FunctionsFrom (suc n) k o
        on q none h = λ i l u. at_k q i l (λ l'. h i l' (omega arith))
        on q (some entry) h = h
        on q (some (fn j)) h =
            record { from = let f : suc k ≤ j = h.from in omega arith; under = let f : j < suc k + n = h.under in omega arith; fails = h.fails; before = λ i l u. at_k q i l (λ l'. h.before i l' u) }

        go : (c : Found) → need_of (read s) (suc (functions s)) (fn k) ≡ c → (o : Option Body) → FunctionsFrom n (suc k) o
            → FunctionsFrom (suc n) k (elim c as (λ z. Option Body) [ none ↦ some (fn k) | some x ↦ o ])
        go none q o h = record { from = omega arith; under = omega arith; fails = q; before = λ i l u. absurd (omega arith) }
        go (some x) q o h = on (x, q) o h

    abbrev Search : Option Body → Type 0
    Search none = (b : Body) → Exists s b → Ok b
    Search (some b) = Exists s b × Fails b × ((c : Body) → Earlier c b → Ok c)

    searched : Search (first_looping (read s) (functions s) (bodies (functions s)))
    unfolding first_looping
    searched = go (need_of (read s) (suc (functions s)) entry) refl (first_looping (read s) (functions s) (functions_from (functions s) 0)) (functions_from_lem (functions s) 0)
      where
        none_earlier : (c : Body) → Earlier c entry → Ok c
        none_earlier entry k = absurd k
        none_earlier (fn i) k = absurd k

        on : Ok entry → (o : Option Body) → FunctionsFrom (functions s) 0 o → Search o
        on q none h = all
          where
            all : (b : Body) → Exists s b → Ok b
            all entry e = q
            all (fn k) e = h k (omega arith) (let z : k < functions s = e in omega arith)
        on q (some entry) h = absurd h
        on q (some (fn j)) h = ((let l : j < 0 + functions s = h.under in let w : j < functions s = omega arith in w), h.fails, earlier)
          where
            earlier : (c : Body) → Earlier c (fn j) → Ok c
            earlier entry e = q
            earlier (fn i) e = h.before i (omega arith) e

        go : (c : Found) → need_of (read s) (suc (functions s)) entry ≡ c → (o : Option Body) → FunctionsFrom (functions s) 0 o
            → Search (elim c as (λ z. Option Body) [ none ↦ some entry | some x ↦ o ])
        go none q o h = (tt, q, none_earlier)
        go (some x) q o h = on (x, q) o h

    ok_not : (b : Body) → Exists s b → Ok b → Recursive (read s) b → ⊥
    ok_not b h k r = none_some (sym (recursive_fails b h r) ∙ k.1)

    earlier_exists : (c b : Body) → Exists s b → Earlier c b → Exists s c
    earlier_exists entry b h e = tt
    earlier_exists (fn i) entry h e = absurd e
    earlier_exists (fn i) (fn j) h e = let z : j < functions s = h in let w : i < j = e in let v : i < functions s = omega arith in v

    -- ---- the report

    found_length : (o : Found) → ((x : ℕ × ℕ) × (o ≡ some x)) → length (found_bytes o) ≡ 8
    found_length none h = none_some h.1
    found_length (some x) h = refl

    blocks_length : (n k : ℕ) → ((i : ℕ) → k ≤ i → i < k + n → Ok (fn i)) → length (report_bytes (read s) (functions s) (functions_from n k)) ≡ 8 * n
    unfolding report_bytes
    blocks_length zero k h = refl
    blocks_length (suc n) k h =
        let a : length (found_bytes (need_of (read s) (suc (functions s)) (fn k))) ≡ 8 = found_length (need_of (read s) (suc (functions s)) (fn k)) (h k (omega arith) (omega arith)) in
        let c : length (report_bytes (read s) (functions s) (functions_from n (suc k))) ≡ 8 * n = blocks_length n (suc k) (λ i l u. h i (omega arith) (omega arith)) in
        length-append (found_bytes (need_of (read s) (suc (functions s)) (fn k))) (report_bytes (read s) (functions s) (functions_from n (suc k))) ∙ (omega arith)

    block_at : (n k : ℕ) → ((i : ℕ) → k ≤ i → i < k + n → Ok (fn i)) → (rest : List ℕ) (j : ℕ) → j < n
        → take 8 (drop (8 * j) (report_bytes (read s) (functions s) (functions_from n k) ++ rest)) ≡ found_bytes (need_of (read s) (suc (functions s)) (fn (k + j)))
    unfolding report_bytes
    block_at zero k h rest j l = absurd (omega arith)
    block_at (suc n) k h rest j l = rw (append_assoc (found_bytes (need_of (read s) (suc (functions s)) (fn k))) (report_bytes (read s) (functions s) (functions_from n (suc k))) rest) (go j l (λ i l'. block_at n (suc k) (λ i l u. h i (omega arith) (omega arith)) rest i l'))
      where
        first_length : length (found_bytes (need_of (read s) (suc (functions s)) (fn k))) ≡ 8
        first_length = found_length (need_of (read s) (suc (functions s)) (fn k)) (h k (omega arith) (omega arith))

        go : (j : ℕ) → j < suc n
            → ((i : ℕ) → i < n → take 8 (drop (8 * i) (report_bytes (read s) (functions s) (functions_from n (suc k)) ++ rest)) ≡ found_bytes (need_of (read s) (suc (functions s)) (fn (suc k + i))))
            → take 8 (drop (8 * j) (found_bytes (need_of (read s) (suc (functions s)) (fn k)) ++ (report_bytes (read s) (functions s) (functions_from n (suc k)) ++ rest))) ≡ found_bytes (need_of (read s) (suc (functions s)) (fn (k + j)))
        go zero l ih =
            take_at (found_bytes (need_of (read s) (suc (functions s)) (fn k))) (report_bytes (read s) (functions s) (functions_from n (suc k)) ++ rest) 8 first_length
            ∙ (let z : k ≡ k + 0 = omega arith in ap (λ i. found_bytes (need_of (read s) (suc (functions s)) (fn i))) z)
        go (suc j) l ih =
            let z : 8 * suc j ≡ length (found_bytes (need_of (read s) (suc (functions s)) (fn k))) + 8 * j = let y : length (found_bytes (need_of (read s) (suc (functions s)) (fn k))) ≡ 8 = first_length in omega arith in
            ap (λ i. take 8 (drop i (found_bytes (need_of (read s) (suc (functions s)) (fn k)) ++ (report_bytes (read s) (functions s) (functions_from n (suc k)) ++ rest)))) z
            ∙ ap (take 8) (drop-append-add (found_bytes (need_of (read s) (suc (functions s)) (fn k))) (report_bytes (read s) (functions s) (functions_from n (suc k)) ++ rest) (8 * j))
            ∙ ih j (omega arith) ∙ (let w : suc k + j ≡ k + suc j = omega arith in ap (λ i. found_bytes (need_of (read s) (suc (functions s)) (fn i))) w)

    module _ (all : (b : Body) → Exists s b → Ok b) where
      each : (i : ℕ) → 0 ≤ i → i < 0 + functions s → Ok (fn i)
      each i l u = all (fn i) (let w : i < functions s = omega arith in w)

      report_length_lem : length (report_bytes (read s) (functions s) (bodies (functions s))) ≡ report_length (functions s)
      unfolding report_bytes
      report_length_lem =
          let a : length (found_bytes (need_of (read s) (suc (functions s)) entry)) ≡ 8 = found_length (need_of (read s) (suc (functions s)) entry) (all entry tt) in
          let c : length (report_bytes (read s) (functions s) (functions_from (functions s) 0)) ≡ 8 * functions s = blocks_length (functions s) 0 each in
          length-append (found_bytes (need_of (read s) (suc (functions s)) entry)) (report_bytes (read s) (functions s) (functions_from (functions s) 0)) ∙ (omega arith)

      words_at : (b : Body) → Exists s b → (rest : List ℕ)
          → take 8 (drop (report_at b) (report_bytes (read s) (functions s) (bodies (functions s)) ++ rest)) ≡ found_bytes (need_of (read s) (suc (functions s)) b)
      unfolding report_bytes
      words_at entry h rest =
          rw (append_assoc (found_bytes (need_of (read s) (suc (functions s)) entry)) (report_bytes (read s) (functions s) (functions_from (functions s) 0)) rest)
          (take_at (found_bytes (need_of (read s) (suc (functions s)) entry)) (report_bytes (read s) (functions s) (functions_from (functions s) 0) ++ rest) 8 (found_length (need_of (read s) (suc (functions s)) entry) (all entry tt)))
      words_at (fn k) h rest =
          rw (append_assoc (found_bytes (need_of (read s) (suc (functions s)) entry)) (report_bytes (read s) (functions s) (functions_from (functions s) 0)) rest)
          (let y : length (found_bytes (need_of (read s) (suc (functions s)) entry)) ≡ 8 = found_length (need_of (read s) (suc (functions s)) entry) (all entry tt) in
          let z : 8 * suc k ≡ length (found_bytes (need_of (read s) (suc (functions s)) entry)) + 8 * k = omega arith in
          ap (λ i. take 8 (drop i (found_bytes (need_of (read s) (suc (functions s)) entry) ++ (report_bytes (read s) (functions s) (functions_from (functions s) 0) ++ rest)))) z
          ∙ ap (take 8) (drop-append-add (found_bytes (need_of (read s) (suc (functions s)) entry)) (report_bytes (read s) (functions s) (functions_from (functions s) 0) ++ rest) (8 * k))
          ∙ block_at (functions s) 0 each rest k h ∙ (let w : 0 + k ≡ k = omega arith in ap (λ i. found_bytes (need_of (read s) (suc (functions s)) (fn i))) w))

      shown : functions s ≤ 128 → (rest : List ℕ) (b : Body) → Exists s b → Shown s (report_bytes (read s) (functions s) (bodies (functions s)) ++ rest) b
      shown few rest b h =
          let x : Ok b = all b h in
          let n : Needs (read s) b x.0.0 x.0.1 = need_needs (read s) acc (suc (functions s)) b (has_start rd b h) x.0 x.1 in
          let u : x.0.0 ≤ 544 * suc (functions s) = low_need (read s) acc (functions s) below b x.0.0 x.0.1 n in
          let v : x.0.1 ≤ suc (functions s) = few_frames (read s) acc (functions s) below b x.0.0 x.0.1 n in
          record { need = x.0.0; frames = x.0.1; needs = n; need_fits = omega arith; frames_fit = omega arith; words = words_at b h rest ∙ ap found_bytes x.1 }

  -- ---- the answers

  -- accepted: the module can be read, and the answer is that it is accepted
  accepted_answer : (room : List ℕ) → IsAccepted s room → (refusal s ≡ 0) × ((check s room).answer ≡ Accepted)
  unfolding check
  accepted_answer room e = go (refusal s) refl e
    where
      on : (o : Option Body) → check_number (judged s room o).answer ≡ 0 → (judged s room o).answer ≡ Accepted
      on none q = refl
      on (some b) q = absurd (omega arith)

      go : (r : ℕ) → refusal s ≡ r → check_number (check_with s room r).answer ≡ 0 → (r ≡ 0) × ((check_with s room r).answer ≡ Accepted)
      go (suc r) q h = absurd (omega arith)
      go zero q h =
          decide (ltb (length room) (64 * labels s)) (λ y. let z : ◌≡◌ {A = ℕ} 10 0 = rw y at h in absurd (omega arith))
          (λ y. (refl, rw y (on (first_untyped (read s) (bodies (functions s))) (rw y at h))))

  report_accepted : (room report : List ℕ) → IsAccepted s room → report_needs s room report ≡ report_with s (check s room).room report (first_looping (read s) (functions s) (bodies (functions s)))
  unfolding report_needs
  report_accepted room report e = ap (report_after s (check s room).room report) (accepted_answer room e).1

  report_room : (room report : List ℕ) → (report_needs s room report).room ≡ (check s room).room
  unfolding report_needs
  report_room room report = go (check s room).answer
    where
      last : (b : Bool) → (cond b (reporting (Unreported 16) (check s room).room report)
          (reporting (Reported (report_length (functions s))) (check s room).room (report_bytes (read s) (functions s) (bodies (functions s)) ++ drop (report_length (functions s)) report))).room ≡ (check s room).room
      last true = refl
      last false = refl

      on : (o : Option Body) → (report_with s (check s room).room report o).room ≡ (check s room).room
      on none = last (ltb (length report) (report_length (functions s)))
      on (some b) = refl

      go : (a : CheckAnswer) → (report_after s (check s room).room report a).room ≡ (check s room).room
      go (Refused n) = refl
      go (Untyped b) = refl
      go Accepted = on (first_looping (read s) (functions s) (bodies (functions s)))

  report_refused : (room report : List ℕ) → (IsAccepted s room → ⊥) → (need_number (report_needs s room report).answer ≡ check_number (check s room).answer) × ((report_needs s room report).report ≡ report)
  unfolding report_needs
  report_refused room report n = go (check s room).answer n
    where
      go : (a : CheckAnswer) → (check_number a ≡ 0 → ⊥) → (need_number (report_after s (check s room).room report a).answer ≡ check_number a) × ((report_after s (check s room).room report a).report ≡ report)
      go (Refused k) h = (refl, refl)
      go (Untyped b) h = (refl, refl)
      go Accepted h = absurd (h refl)

  -- an answer that is 47 comes from an accepted module
  report_loops : (room report : List ℕ) (n : ℕ) → (report_needs s room report).answer ≡ ReportLoops n → IsAccepted s room × FirstLooping s n × ((report_needs s room report).report ≡ report)
  unfolding report_needs
  report_loops room report n = go (check s room).answer refl
    where
      body_of_lem : NeedAnswer → ℕ
      body_of_lem (Unreported k) = 0
      body_of_lem (ReportUntyped b) = 0
      body_of_lem (ReportLoops b) = b
      body_of_lem (Reported k) = 0

      is_loops : NeedAnswer → ℕ
      is_loops (Unreported k) = 0
      is_loops (ReportUntyped b) = 0
      is_loops (ReportLoops b) = 1
      is_loops (Reported k) = 0

      other : {P : Type 0} (a : NeedAnswer) → is_loops a ≡ 0 → a ≡ ReportLoops n → P
      other a z q = absurd (let w : is_loops a ≡ 1 = ap is_loops q in omega arith)

      last : {P : Type 0} (b : Bool) → (cond b (reporting (Unreported 16) (check s room).room report)
          (reporting (Reported (report_length (functions s))) (check s room).room (report_bytes (read s) (functions s) (bodies (functions s)) ++ drop (report_length (functions s)) report))).answer ≡ ReportLoops n → P
      last true q = other (Unreported 16) refl q
      last false q = other (Reported (report_length (functions s))) refl q

      on : (acc : WellTyped (read s)) (rd : refusal s ≡ 0) (o : Option Body) → Search acc rd o → (report_with s (check s room).room report o).answer ≡ ReportLoops n
          → FirstLooping s n × ((report_with s (check s room).room report o).report ≡ report)
      on acc rd none h q = last (ltb (length report) (report_length (functions s))) q
      on acc rd (some b) h q = (
        (b, ap body_of_lem q, h.0, fails_recursive acc rd b h.1, λ c e r. ok_not acc rd c (earlier_exists acc rd c b h.0 e) (h.2 c e) r),
        refl,
      )

      go : (a : CheckAnswer) → (check s room).answer ≡ a → (report_after s (check s room).room report a).answer ≡ ReportLoops n
          → IsAccepted s room × FirstLooping s n × ((report_after s (check s room).room report a).report ≡ report)
      go (Refused k) e q = other (Unreported k) refl q
      go (Untyped b) e q = other (ReportUntyped b) refl q
      go Accepted e q =
          let a : IsAccepted s room = ap check_number e in
          let x : FirstLooping s n × ((report_with s (check s room).room report (first_looping (read s) (functions s) (bodies (functions s)))).report ≡ report) =
          on (accepted_typed s room a) (accepted_answer room a).0 (first_looping (read s) (functions s) (bodies (functions s))) (searched (accepted_typed s room a) (accepted_answer room a).0) q in
          (a, x.0, x.1)

  module _ (room : List ℕ) (a : IsAccepted s room) where
    report_loops_exactly : (report : List ℕ) (b : Body) → Exists s b → Recursive (read s) b → (n : ℕ) × ((report_needs s room report).answer ≡ ReportLoops n)
    report_loops_exactly report b h r =
        let x : (n : ℕ) × ((report_with s (check s room).room report (first_looping (read s) (functions s) (bodies (functions s)))).answer ≡ ReportLoops n) =
        go (first_looping (read s) (functions s) (bodies (functions s))) (searched (accepted_typed s room a) (accepted_answer room a).0) in
        (x.0, ap (λ (t : Reporting). t.answer) (report_accepted room report a) ∙ x.1)
      where
        go : (o : Option Body) → Search (accepted_typed s room a) (accepted_answer room a).0 o → (n : ℕ) × ((report_with s (check s room).room report o).answer ≡ ReportLoops n)
        go none z = absurd (ok_not (accepted_typed s room a) (accepted_answer room a).0 b h (z b h) r)
        go (some c) z = (body_number c, refl)

    no_loop : NoLoop s → (first_looping (read s) (functions s) (bodies (functions s)) ≡ none) × ((b : Body) → Exists s b → Ok (accepted_typed s room a) (accepted_answer room a).0 b)
    no_loop f = go (first_looping (read s) (functions s) (bodies (functions s))) (searched (accepted_typed s room a) (accepted_answer room a).0)
      where
        go : (o : Option Body) → Search (accepted_typed s room a) (accepted_answer room a).0 o → (o ≡ none) × ((b : Body) → Exists s b → Ok (accepted_typed s room a) (accepted_answer room a).0 b)
        go none z = (refl, z)
        go (some c) z = absurd (f c z.0 (fails_recursive (accepted_typed s room a) (accepted_answer room a).0 c z.1))

    report_short : (report : List ℕ) → NoLoop s → length report < report_length (functions s) → report_needs s room report ≡ reporting (Unreported 16) (check s room).room report
    report_short report f l = report_accepted room report a ∙ ap (report_with s (check s room).room report) (no_loop f).0 ∙ rw (ltb_yes (length report) (report_length (functions s)) l)

    report_reports : (report : List ℕ) → NoLoop s → report_length (functions s) ≤ length report
        → report_needs s room report ≡ reporting (Reported (report_length (functions s))) (check s room).room (report_bytes (read s) (functions s) (bodies (functions s)) ++ drop (report_length (functions s)) report)
    report_reports report f l = report_accepted room report a ∙ ap (report_with s (check s room).room report) (no_loop f).0 ∙ rw (ltb_no (length report) (report_length (functions s)) l)

    report_shows : (report : List ℕ) → NoLoop s → report_length (functions s) ≤ length report
        → ((report_needs s room report).answer ≡ Reported (report_length (functions s))) × ((b : Body) → Exists s b → Shown s (report_needs s room report).report b)
        × (drop (report_length (functions s)) (report_needs s room report).report ≡ drop (report_length (functions s)) report)
    report_shows report f l =
        let e : report_needs s room report ≡ reporting (Reported (report_length (functions s))) (check s room).room (report_bytes (read s) (functions s) (bodies (functions s)) ++ drop (report_length (functions s)) report) = report_reports report f l in
        let g : (report_needs s room report).report ≡ report_bytes (read s) (functions s) (bodies (functions s)) ++ drop (report_length (functions s)) report = ap (λ (t : Reporting). t.report) e in
        let k : (b : Body) → Exists s b → Ok (accepted_typed s room a) (accepted_answer room a).0 b = (no_loop f).1 in (
          ap (λ (t : Reporting). t.answer) e,
          (λ b h. subst (λ r. Shown s r b) (sym g) (shown (accepted_typed s room a) (accepted_answer room a).0 k (few s (accepted_answer room a).0) (drop (report_length (functions s)) report) b h)),
          ap (drop (report_length (functions s))) g ∙ drop_at (report_bytes (read s) (functions s) (bodies (functions s))) (drop (report_length (functions s)) report) (report_length (functions s)) (report_length_lem (accepted_typed s room a) (accepted_answer room a).0 k),
        )

pub suffices : Suffices
suffices =
    record {
      room_stays = report_room;
      check_first = report_refused;
      loops = report_loops;
      loops_exactly = λ s room report a b h r. report_loops_exactly s room a report b h r;
      short = λ s room report a f l. report_short s room a report f l;
      reports = λ s room report a f l. report_shows s room a report f l;
      never = run_never_overflows;
    }
