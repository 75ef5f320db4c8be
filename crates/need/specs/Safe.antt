-- 02, A11: "A run with that capacity or more, where frames are at most 64, never ends in 20". Over the machine, then over bytes and answers.
use Rattle.std.specs.Prelude.{◌≡◌, refl, ◌≢◌, Bool, cond, ◌&&◌, List, [], ◌∷◌, length, eqb}
use Rattle.std.proofs.Common.{sym, ap, ◌∙◌, subst, inl, inr}
use Prim.Native.Nat.{ℕ, zero, suc, ◌+◌, ◌-◌, ◌≤◌}
use native.Mathlib.Omega.{arith}
use Rattle.std.proofs.Math.Bool.{true, false}
use Rattle.std.proofs.Math.Option.{Option, none, some}
use Rattle.soundness.specs.Names.{Slot, Instruction, call}
use Rattle.rules.specs.Bytes.{maybe}
use Rattle.rules.specs.Instructions.{Ty, num, ptr, num_kind, size}
use Rattle.rules.specs.Tables.{Body, entry, fn, body_of, Function, Module}
use Rattle.rules.specs.ModuleFile.{refusal, read, tables_in}
use Rattle.rules.specs.Heap.{LentHeap, heap_capacity}
use Rattle.rules.specs.Stack.{Lent, capacity}
use Rattle.rules.specs.Machine.{Frame, State, goto, bind, opened, Next, goes, stops, finishes, exec, exec_in, step, advance, run, Outcome, outcome, at_end, end_number}
use Rattle.rules.specs.Typing.{Lists, lists, Flow, judge, judge_at, Typing, AllNext, Flows, Gives, end_flow, place_flow, start_of, end_of, past, Consistent, WellTyped}
use Rattle.rules.specs.Answers.{declared, fits, start_state, arguments, run_number, run_refusal, scan_refusal, run_module, outcome_of}
use Rattle.rules.specs.Claims.{AreBytes}
use Rattle.rules.specs.Demand3.{IsAccepted}
use Rattle.soundness.specs.Tests.{none_some, some_inj, eqb_same, eqb_other, leb_yes, and_both, false_true}
use Rattle.soundness.specs.Invariant.{ops_length, locals_length}
use Rattle.soundness.specs.Readable.{Orderly, orderly}
use Rattle.soundness.specs.Cutting.{good_file}
use Rattle.soundness.specs.Heaps.{Address}
use Rattle.soundness.specs.Started.{Closed, Fit, NextFit, advance_fit}
use Rattle.soundness.specs.Narrow.{Narrow, narrow_closed}
use Rattle.soundness.specs.Begun.{start_fit}
use Rattle.soundness.specs.Sound.{Inv, Fine}
use Rattle.soundness.specs.Runs.{Starts, start_inv, advance_fine}
use Rattle.soundness.specs.Exact.{In, start_given}
use Rattle.soundness.specs.Whole.{accepted_typed, started, scan_started, run_readable, answered_number}
use Rattle.rules.specs.Need.{raised, Path, begins, goes_on, called, call_at, arity, argument_at, Reaches, here, within, Stacks, alone, under_it, Needs}
use Rattle.need.specs.Steps.{Went, stays, binds, calls, returns, Over, high, many, Stepped, exec_step}

-- ---- paths and typings

-- a path's places have the lists that every typing gives there
pub path_given : (m : Module) (b : Body) (T : Typing) → Consistent m b T → (p : ℕ) (l : Lists) (f : ℕ) → Path m b p l f → T p ≡ some l
path_given m b T c _ _ _ (begins p ts e) = start_given T (start_of m b) c.starts p ts e
path_given m b T c _ _ _ (goes_on p l f ns q k r e i) = pick ns i (subst (Flows (Gives T)) e (c.flows p l (path_given m b T c p l f r)))
  where
    pick : (xs : List (ℕ × Lists)) → In q k xs → AllNext (Gives T) xs → T q ≡ some k
    pick [] i h = absurd i
    pick (x ∷ xs) (inl z) h = ap T (sym z.0) ∙ h.0 ∙ ap some z.1
    pick (x ∷ xs) (inr z) h = pick xs z h.1

-- every way of flow from a place of a path goes on with the path
pub path_flows : (m : Module) (b : Body) (T : Typing) → Consistent m b T → (p : ℕ) (l : Lists) (f : ℕ) → Path m b p l f
    → Flows (λ q k. Path m b q k (raised f l k)) (place_flow m b p l)
path_flows m b T c p l f r = go (place_flow m b p l) refl (c.flows p l (path_given m b T c p l f r))
  where
    all : (ns : List (ℕ × Lists)) → place_flow m b p l ≡ some ns → (xs : List (ℕ × Lists)) → ((q : ℕ) (k : Lists) → In q k xs → In q k ns)
        → AllNext (λ q k. Path m b q k (raised f l k)) xs
    all ns e [] g = tt
    all ns e (x ∷ xs) g = (goes_on p l f ns x.0 x.1 r e (g x.0 x.1 (inl (refl, refl))), all ns e xs (λ q k i. g q k (inr i)))

    go : (w : Flow) → place_flow m b p l ≡ w → Flows (Gives T) w → Flows (λ q k. Path m b q k (raised f l k)) w
    go none e h = absurd h
    go (some ns) e h = all ns e ns (λ q k i. i)

raised_same : (f : ℕ) (L O O' : List Ty) → raised f (lists L O) (lists L O') ≡ f
raised_same f L O O' = rw (eqb_same (length L))

raised_bind : (f : ℕ) (t : Ty) (L O O' : List Ty) → raised f (lists L O) (lists (t ∷ L) O') ≡ f + length O
raised_bind f t L O O' = rw (eqb_other (length L) (suc (length L)) (omega arith))

-- ---- frames on paths

module _ (m : Module) (b₀ : Body) where
  -- the frame g, with n frames under it, stands on a path from its body's start, and what its body reaches, b₀ reaches from g's first slot on
  pub record Placed (g : Frame) (n : ℕ) : Type 0 where
    pub given : Lists
    pub ground_level : ℕ
    pub path : Path m g.body g.place given ground_level
    pub floor_is : g.floor ≡ g.base + ground_level
    pub heights : (h : ℕ) → Reaches m g.body h → Reaches m b₀ (g.base + h)
    pub depths : (d : ℕ) → Stacks m g.body d → Stacks m b₀ (n + d)

  abbrev pub Climbs : List Frame → Type 0
  Climbs [] = Unit {0}
  Climbs (g ∷ gs) = Placed g (length gs) × Climbs gs

  -- a frame of the same body and first slot
  moved : (g h : Frame) (n : ℕ) → Placed g n → h.body ≡ g.body → h.base ≡ g.base → (l : Lists) (f : ℕ) → Path m g.body h.place l f → h.floor ≡ g.base + f → Placed h n
  moved g h n P eb es l f r e =
      record {
        given = l;
        ground_level = f;
        path = subst (λ b. Path m b h.place l f) (sym eb) r;
        floor_is = e ∙ ap (λ x. x + f) (sym es);
        heights = λ x y. subst (λ z. Reaches m b₀ (z + x)) (sym es) (P.heights x (subst (λ b. Reaches m b x) eb y));
        depths = λ d y. P.depths d (subst (λ b. Stacks m b d) eb y);
      }

module _ (m : Module) (𝓞 : Orderly m) (P : Slot → Type 0) (𝓒 : Closed m P) (acc : WellTyped m) (cap : ℕ) (small : cap ≤ 65536) (b₀ : Body) (enough : (h : ℕ) → Reaches m b₀ h → h ≤ cap) (few : (d : ℕ) → Stacks m b₀ d → d ≤ 64) where
  -- what a moment leads to: frames on paths again, or an end that is no overflow
  abbrev Leads : Next → Type 0
  Leads (goes s) = Climbs m b₀ (s.top ∷ s.callers)
  Leads (stops e) = e ≢ 20
  Leads (finishes r) = Unit {0}

  -- the function's first frame is on the path that begins at its start
  begun : (k : ℕ) (F : Function) → m.function k ≡ some F → Path m (fn k) F.start (lists F.params []) (length F.params)
  begun k F e = begins F.start F.params (rw e refl)

  module _ (s : State) (I : Inv m acc.typing s) (C : Climbs m b₀ (s.top ∷ s.callers)) where
    -- the path's lists are those of the invariant
    on_path : Path m s.top.body s.top.place (lists I.0.L I.0.O) C.0.ground_level
    on_path =
        subst (λ l. Path m s.top.body s.top.place l C.0.ground_level)
        (some_inj C.0.given (lists I.0.L I.0.O) (sym (path_given m s.top.body (acc.typing s.top.body) (acc.consistent s.top.body) s.top.place C.0.given C.0.ground_level C.0.path) ∙ I.0.typed))
        C.0.path

    abbrev K : ℕ → Lists → Type 0
    K q k = Path m s.top.body q k (raised C.0.ground_level (lists I.0.L I.0.O) k)

    tall : length s.memory.stack ≡ length I.0.O + s.top.floor
    tall = ops_length (Address m s.memory.heap) I.0.G I.0.O s.memory.stack I.0.ops ∙ ap (λ x. length I.0.O + x) I.0.ground_level

    module _ (i : Instruction) (code_is : m.code s.top.place ≡ some i) (inside : past s.top.place (end_of m s.top.body) ≡ false) where
      calling_here : (k : ℕ) → i ≡ call k → call_at m s.top.body s.top.place ≡ some k
      calling_here k e = rw (inside, code_is) (ap called e)

      went : (s' : State) → Went m cap s.memory K (goto (s.top.place + size i) s.top) s.callers I.0.L (locals_length (Address m s.memory.heap) I.0.G s.top.base s.top.locals I.0.L I.0.locs) i I.0.O (length s.memory.stack) s'
          → Climbs m b₀ (s'.top ∷ s'.callers)
      went s' (stays q O' k t c) =
          rw (t, c) (
            moved m b₀ s.top (goto q s.top) (length s.callers) C.0 refl refl (lists I.0.L O') C.0.ground_level
                (subst (Path m s.top.body q (lists I.0.L O')) (raised_same C.0.ground_level I.0.L I.0.O O') k) C.0.floor_is,
            C.1,
          )
      went s' (binds t x k e z c) =
          rw (e, c) (
            moved m b₀ s.top (bind x (goto (s.top.place + size i) s.top)) (length s.callers) C.0 refl refl (lists (t ∷ I.0.L) []) (C.0.ground_level + length I.0.O)
                (subst (Path m s.top.body (s.top.place + size i) (lists (t ∷ I.0.L) [])) (raised_bind C.0.ground_level t I.0.L I.0.O []) k)
                (let y : s.top.floor ≡ s.top.base + C.0.ground_level = C.0.floor_is in let w : length s.memory.stack ≡ length I.0.O + s.top.floor = tall in omega arith),
            C.1,
          )
      went s' (returns e) = subst (Climbs m b₀) e C.1
      went s' (calls k F O' e fk n r t c) = rw (t, c) (inner, (outer, C.1))
        where
          arity_is : arity m k ≡ length F.params
          arity_is = rw fk refl

          outer : Placed m b₀ (goto (s.top.place + size i) s.top) (length s.callers)
          outer =
              moved m b₀ s.top (goto (s.top.place + size i) s.top) (length s.callers) C.0 refl refl (lists I.0.L O') C.0.ground_level
              (subst (Path m s.top.body (s.top.place + size i) (lists I.0.L O')) (raised_same C.0.ground_level I.0.L I.0.O O') r) C.0.floor_is

          first_slot : (h : ℕ) → s.top.base + (argument_at m (lists I.0.L I.0.O) C.0.ground_level k + h) ≡ (length s.memory.stack - length F.params) + h
          first_slot h =
              let y : s.top.floor ≡ s.top.base + C.0.ground_level = C.0.floor_is in
              let w : length s.memory.stack ≡ length I.0.O + s.top.floor = tall in
              let z : arity m k ≡ length F.params = arity_is in
              omega arith

          inner : Placed m b₀ (opened (fn k) F.start F.end (length s.memory.stack - length F.params) (length F.params)) (suc (length s.callers))
          inner =
              record {
                given = lists F.params [];
                ground_level = length F.params;
                path = begun k F fk;
                floor_is = refl;
                heights = λ h y. subst (Reaches m b₀) (first_slot h)
                    (C.0.heights (argument_at m (lists I.0.L I.0.O) C.0.ground_level k + h) (within s.top.body s.top.place (lists I.0.L I.0.O) C.0.ground_level k h on_path (calling_here k e) y));
                depths = λ d y. subst (Stacks m b₀) (omega arith)
                    (C.0.depths (suc d) (under_it s.top.body k d (s.top.place, lists I.0.L I.0.O, C.0.ground_level, on_path, calling_here k e) y));
              }

      over : Over m cap s.memory K (goto (s.top.place + size i) s.top) s.callers I.0.L (locals_length (Address m s.memory.heap) I.0.G s.top.base s.top.locals I.0.L I.0.locs) i → ⊥
      over (high O' k l) =
          let r : Path m s.top.body (s.top.place + size i) (lists I.0.L O') C.0.ground_level =
          subst (Path m s.top.body (s.top.place + size i) (lists I.0.L O')) (raised_same C.0.ground_level I.0.L I.0.O O') k in
          let x : s.top.base + (C.0.ground_level + length O') ≤ cap =
          enough _ (C.0.heights (C.0.ground_level + length O') (here s.top.body (s.top.place + size i) (lists I.0.L O') C.0.ground_level r)) in
          let y : s.top.floor ≡ s.top.base + C.0.ground_level = C.0.floor_is in omega arith
      over (many k e l) =
          let x : length s.callers + 2 ≤ 64 =
          few _ (C.0.depths 2 (under_it s.top.body k 1 (s.top.place, lists I.0.L I.0.O, C.0.ground_level, on_path, calling_here k e) (alone (fn k)))) in omega arith

      leads : (x : Next) → Stepped m cap s.memory K (goto (s.top.place + size i) s.top) s.callers I.0.L (locals_length (Address m s.memory.heap) I.0.G s.top.base s.top.locals I.0.L I.0.locs) i I.0.O (length s.memory.stack) x
          → Leads x
      leads (goes s') h = went s' h
      leads (stops e) h = λ q. over (h q)
      leads (finishes r) h = tt

    advance_leads : Leads (advance m cap s)
    unfolding advance step exec_in
    advance_leads =
        go (at_end s.top) (rw I.0.ends_at refl)
        (rw I.0.ends_at at (path_flows m s.top.body (acc.typing s.top.body) (acc.consistent s.top.body) s.top.place (lists I.0.L I.0.O) C.0.ground_level on_path))
      where
        ended : (b : Body) → end_number b ≢ 20
        ended entry = omega arith
        ended (fn k) = omega arith

        run_on : (o : Option Instruction) → m.code s.top.place ≡ o → past s.top.place (end_of m s.top.body) ≡ false
            → Flows K (maybe o none (λ i. judge m s.top.body i (s.top.place + size i) I.0.L I.0.O))
            → Leads (maybe o (stops 29) (λ i. exec m cap s.memory i s.memory.stack (goto (s.top.place + size i) s.top) s.callers))
        run_on none q n h = absurd h
        run_on (some i) q n h =
            leads i q n (exec m cap s.memory i s.memory.stack (goto (s.top.place + size i) s.top) s.callers)
            (exec_step m cap s.memory K (goto (s.top.place + size i) s.top) s.callers I.0.L (locals_length (Address m s.memory.heap) I.0.G s.top.base s.top.locals I.0.L I.0.locs) i I.0.O s.memory.stack tall h)

        go : (b : Bool) → past s.top.place (end_of m s.top.body) ≡ b → Flows K (cond b (end_flow s.top.body) (judge_at m s.top.body s.top.place (lists I.0.L I.0.O)))
            → Leads (cond b (stops (end_number s.top.body)) (step m cap s))
        go true q h = ended s.top.body
        go false q h = run_on (m.code s.top.place) refl q h

  -- a whole run, of any length and depth
  run_safe : (n k : ℕ) (s : State) → Inv m acc.typing s → Fit m P cap s → Climbs m b₀ (s.top ∷ s.callers) → (run m cap n k s).number ≢ 20
  unfolding run
  run_safe zero k s I F C = go (at_end s.top) s.top.body
    where
      go : (b : Bool) (c : Body) → (cond b (outcome (end_number c) k s.memory) (outcome 15 k s.memory)).number ≢ 20
      go true entry = omega arith
      go true (fn j) = omega arith
      go false c = omega arith
  run_safe (suc n) k s I F C = go (advance m cap s) (advance_fine m 𝓞 P 𝓒 acc cap small s I F) (advance_fit m 𝓞 P 𝓒 cap s F) (advance_leads s I C) (λ s' I' F' C'. run_safe n (suc k) s' I' F' C')
    where
      go : (x : Next) → Fine m acc.typing s.top.base s.callers s.memory.stack x → NextFit m P cap x → Leads x
          → ((s' : State) → Inv m acc.typing s' → Fit m P cap s' → Climbs m b₀ (s'.top ∷ s'.callers) → (run m cap n (suc k) s').number ≢ 20)
          → (elim x as (λ z. Outcome) [ goes s' ↦ run m cap n (suc k) s' | stops e ↦ outcome e k s.memory | finishes M ↦ outcome 0 (suc k) M ]).number ≢ 20
      go (goes s') h F' l ih = ih s' h.inv F' l
      go (stops e) h F' l ih = l
      go (finishes M) h F' l ih = omega arith

-- ---- from the start

declared_length : (ts : List Ty) (vs : List Slot) → declared ts vs ≡ true → length vs ≡ length ts
declared_length [] [] h = refl
declared_length [] (v ∷ vs) h = false_true h
declared_length (t ∷ ts) [] h = false_true h
declared_length (num τ ∷ ts) (v ∷ vs) h = ap suc (declared_length ts vs (and_both (eqb v.kind (num_kind τ) && fits τ v.payload) (declared ts vs) h).1)
declared_length (ptr g w ∷ ts) (v ∷ vs) h = false_true h

module _ (m : Module) (acc : WellTyped m) (b : Body) (vs : List Slot) (h : Starts m b vs) where
  start_path : Path m b (maybe (start_of m b) 0 (λ x. x.0)) (lists h.0.1 []) (length vs)
  start_path =
      subst (Path m b (maybe (start_of m b) 0 (λ x. x.0)) (lists h.0.1 [])) (sym (declared_length h.0.1 vs h.2))
      (begins (maybe (start_of m b) 0 (λ x. x.0)) h.0.1 (h.1 ∙ ap some (go (start_of m b) h.1)))
    where
      inj : (x y : ℕ × List Ty) → some x ≡ some y → x ≡ y
      inj x y z = cc

      go : (o : Option (ℕ × List Ty)) → o ≡ some h.0 → h.0 ≡ (maybe o 0 (λ x. x.0), h.0.1)
      go none e = none_some e
      go (some x) e = let z : x ≡ h.0 = inj x h.0 e in ap (λ (y : ℕ × List Ty). (y.0, h.0.1)) (sym z)

  -- the arguments fit
  pub start_fits : (h : ℕ) → ((x : ℕ) → Reaches m b x → x ≤ h) → length vs ≤ h
  start_fits n k = let y : length vs + 0 ≤ n = k (length vs + 0) (here b (maybe (start_of m b) 0 (λ x. x.0)) (lists h.0.1 []) (length vs) start_path) in omega arith

  start_climbs : (c : ℕ) → Climbs m b ((start_state m b vs c).top ∷ [])
  start_climbs c = (
    record {
      given = lists h.0.1 [];
      ground_level = length vs;
      path = start_path;
      floor_is = refl;
      heights = λ x y. let z : x ≡ 0 + x = omega arith in subst (Reaches m b) z y;
      depths = λ d y. let z : d ≡ 0 + d = omega arith in subst (Stacks m b) z y;
    },
    tt,
  )

  -- A11, the machine's part
  pub never_overflows : (𝓞 : Orderly m) (P : Slot → Type 0) → Closed m P → (need frames cap c : ℕ) → cap ≤ 65536 → Fit m P cap (start_state m b vs c) → Needs m b need frames → need ≤ cap → frames ≤ 64
      → (n : ℕ) → (run m cap n 0 (start_state m b vs c)).number ≢ 20
  never_overflows 𝓞 P 𝓒 need frames cap c small F N e d n =
      run_safe m 𝓞 P 𝓒 acc cap small b (λ x y. let z : x ≤ need = N.tallest.1 x y in omega arith) (λ x y. let z : x ≤ frames = N.deepest.1 x y in omega arith)
      n 0 (start_state m b vs c) (start_inv m 𝓞 P 𝓒 acc cap small b vs c h) F (start_climbs c)

-- A11, from bytes to answers: a run of an accepted module, of its entry or of a function that the host may run, on any admitted arguments, for any scan that it may run for
pub run_never_overflows : (s room : List ℕ) → IsAccepted s room → (f : ℕ) (args : Lent) (scan : ℕ) → scan_refusal s f args scan ≡ 0 → (need frames : ℕ) → Needs (read s) (body_of f) need frames
    → (n : ℕ) (x : Lent) (y : LentHeap) → need ≤ capacity x → frames ≤ 64 → run_number (run_module s f args scan n x y).answer ≢ 20
unfolding outcome_of
run_never_overflows s room a f args scan g need frames N n x y c d =
    let e : run_refusal s f args ≡ 0 = scan_started s f args scan g in
    let r : refusal s ≡ 0 = run_readable s f args e in
    let l : length (arguments args) ≤ capacity x = start_fits (read s) (accepted_typed s room a) (body_of f) (arguments args) (started s f args e) (capacity x) (λ h z. let w : h ≤ need = N.tallest.1 h z in omega arith) in
    subst (λ z. z ≢ 20) (sym (answered_number s f args scan g n x y))
    (rw (leb_yes (length (arguments args)) (capacity x) l)
    (never_overflows (read s) (accepted_typed s room a) (body_of f) (arguments args) (started s f args e) (orderly (tables_in s) (good_file s r)) (Narrow (AreBytes s)) (narrow_closed s r) need frames (capacity x) (heap_capacity y) (omega arith)
    (start_fit s r (body_of f) (arguments args) (started s f args e) (capacity x) (heap_capacity y) l) N c d n))
