-- A run's turns against `run` of the rules: the loop's invariant, and what each way out of a turn gives.
use Prim.Native.Nat.{ℕ, zero, suc, ◌+◌, ◌*◌, ◌-◌, ◌%◌, ◌≤◌, ◌<◌}
use native.Mathlib.Omega.{arith}
use mathlib.Core.Path.{◌≡◌, refl, sym, ap, ◌∙◌, subst}
use mathlib.Core.Logic.{◌⊎◌, inl, inr, ⊎_elim}
use mathlib.Core.Bool.{Bool, true, false, cond}
use mathlib.Core.Option.{some}
use mathlib.Core.List.{List}
use lib.ListN.{length, get_or, drop}
use lib.Dec.{eqb}
use borrow.Author.Tests.{le-leb, lt-leb}
use Rattle.rules.specs.declared.Instruction.{Instruction}
use Rattle.rules.specs.declared.Exception.{Exception}
use Rattle.rules.specs.Results.{exception_number}
use Rattle.std.specs.Prelude.{Some, None}
use Rattle.std.specs.declared.option.Option.{Option}
use Rattle.rules.specs.Bytes.{byte}
use Rattle.rules.specs.Instructions.{size}
use Rattle.rules.specs.Tables.{Module}
use Rattle.rules.specs.ModuleFile.{code_length, read, refusal}
use Rattle.rules.specs.Heap.{Heap}
use Rattle.rules.specs.Machine.{State, Next, goes, stops, finishes, keeping, Outcome, outcome, exec_in, step, advance, run, end_number}
use Rattle.soundness.specs.Tests.{decide, some_inj, false_true}
use Rattle.soundness.specs.Framed.{heapless, with_heap, onto}
use Rattle.soundness.specs.Started.{Fit, NextFit}
use Rattle.soundness.specs.Kinds.{OfKind, kinds_closed}
use Rattle.soundness.specs.Placed.{stop_inside, whole_instruction, place_cut, step_fit}
use Rattle.format.specs.declared.Sections.{Sections}
use Rattle.format.specs.Layout.{Packed}
use Rattle.keys.specs.Keys.{Says, Keyed}
use Rattle.keys.proofs.Places.{says_key}
use Rattle.keys.proofs.Files.{code_long, says_at}
use Rattle.operands.specs.Operands.{Computable}
use Rattle.operands.proofs.OperandLaws.{computable}
use Rattle.state.specs.State.{body_in, memory_of, state_of, next_of, Ready, Does, DoesOver, Lacks}
use Rattle.state.specs.declared.Registers.{Registers}
use Rattle.state.specs.declared.Progress.{Progress}
use Rattle.state.specs.declared.Progress.TheVariants.{Goes, Finishes, Stops}
use Rattle.machine.specs.declared.Ended.{Ended}
use Rattle.machine.specs.Ends.{end_with, number_of, end_at_stop, Fits, Resumes, Needs, Deferred, left, RunsTo}
use Rattle.machine.specs.Matches.{Leaves, DoesOrLeaves, Stands, Steps}
use Rattle.machine.proofs.Heapless.{never_left}
use Rattle.machine.proofs.Arms.{step_is}

-- ---- one turn of `run`

module _ (m : Module) (cap : ℕ) (s : State) where
  unfoldable pub turned : ℕ → ℕ → Next → Outcome
  turned n k x = elim x as (λ z. Outcome) [ goes s' ↦ run m cap n (suc k) s' | stops e ↦ outcome e k s.memory | finishes M ↦ outcome 0 (suc k) M ]

  advance_end : s.top.stop ≤ s.top.place → advance m cap s ≡ stops (end_number s.top.body)
  unfolding advance
  advance_end l = rw (le-leb s.top.stop s.top.place l) refl

  pub advance_step : s.top.place < s.top.stop → advance m cap s ≡ step m cap s
  unfolding advance
  advance_step l = rw (lt-leb s.top.stop s.top.place l) refl

  pub run_turn : (n k : ℕ) (x : Next) → advance m cap s ≡ x → run m cap (suc n) k s ≡ turned n k x
  unfolding run turned
  run_turn n k x e = ap (turned n k) e

  run_end : (n k : ℕ) → s.top.stop ≤ s.top.place → run m cap n k s ≡ outcome (end_number s.top.body) k s.memory
  unfolding run turned
  run_end zero k l = rw (le-leb s.top.stop s.top.place l) refl
  run_end (suc n) k l = run_turn n k (stops (end_number s.top.body)) (advance_end l)

  run_15 : (k : ℕ) → s.top.place < s.top.stop → run m cap 0 k s ≡ outcome 15 k s.memory
  unfolding run
  run_15 k l = rw (lt-leb s.top.stop s.top.place l) refl

end_number_lem : (b : ℕ) (x : Bool) → eqb b 65535 ≡ x → end_number (body_in b) ≡ cond x 0 29
end_number_lem b true e = rw e refl
end_number_lem b false e = rw e refl

-- ---- at the place

-- how a step comes out: what the rules' step does over every heap; left to who has the heap; or no words for a frame
abbrev StepOr : Module → ℕ → Registers → Progress → List ℕ → List ℕ → List ℕ → List ℕ → List ℕ → List ℕ → Type 0
StepOr m cap r a p t f p' t' f' =
    (DoesOver cap r a p t f p' t' f' (step m cap) × ((n : Exception) → a ≡ Stops n → left (exception_number n) ≡ true → Needs m r))
    ⊎ ((Needs m r × Leaves a p t f p' t' f') ⊎ Lacks a p t f p' t' f')

module _ (file : List ℕ) (readable : refusal file ≡ 0) (cap : ℕ) (r : Registers) (p t f : List ℕ) (g : Fits (read file) cap r p t f) where
  abbrev m : Module
  m = read file

  abbrev s : State
  s = state_of r p t f

  stop_in_code : r.stop ≤ code_length file
  stop_in_code = stop_inside file readable OfKind (kinds_closed file readable) cap s g.fit

  module _ (source : List ℕ) (from : ℕ) (k : Keyed file source from) (code : List ℕ) (is : code ≡ drop from source) where
    pub stop_there : r.stop ≤ length code
    stop_there =
        let l : r.stop ≤ code_length file = stop_in_code in
        let x : code_length file ≤ length (drop from source) = code_long file source from k readable in
        let y : length code ≡ length (drop from source) = ap length is in omega arith

    module _ (h : r.place < r.stop) where
      here : (i : Instruction) × (m.code r.place ≡ some i) × (r.place + size i ≤ r.stop)
      here = whole_instruction file readable OfKind (kinds_closed file readable) cap s g.fit h

      said : Says code r.place here.0
      said =
          let l : r.place + size here.0 ≤ r.stop = here.2 in
          let x : r.stop ≤ code_length file = stop_in_code in
          let d = place_cut file readable OfKind (kinds_closed file readable) cap s g.fit in
          subst (λ z. Says z r.place here.0) (sym is) (says_at file source from k readable r.place here.0 d here.1 (omega arith))

      -- the instruction that the module has there
      pub says : (i : Instruction) → m.code r.place ≡ some i → Says code r.place i
      says i e = subst (Says code r.place) (some_inj here.0 i (sym here.1 ∙ e)) said

      pub stands : (b : ℕ) → b ≡ byte code r.place % 64 → Stands code r.place b
      stands b e = record { instruction = here.0; says = said; key = e ∙ says_key code r.place here.0 said }

      pub stepped : (a : Progress) (p' t' f' : List ℕ) → Steps m cap code r a p t f p' t' f' → StepOr m cap r a p t f p' t' f'
      stepped a p' t' f' d = go (d i said)
        where
          i : Instruction
          i = here.0

          is_step : (x : State) → x.top.place ≡ r.place → exec_in m cap i x ≡ step m cap x
          is_step x e = step_is m cap x i (ap m.code e ∙ here.1)

          go : DoesOrLeaves m cap i r a p t f p' t' f' ⊎ Lacks a p t f p' t' f' → StepOr m cap r a p t f p' t' f'
          go (inl (inl y)) = inl (
            (subst (Does cap r a p t f p' t' f') (is_step s refl) y.0, λ x. sym (is_step (with_heap x s) refl) ∙ y.1 x ∙ ap (onto x) (is_step s refl)),
            λ n e so. decide (heapless i)
                (λ z. false_true (sym (never_left m cap i z s (exception_number n) (sym y.0.result ∙ ap (λ (q : Progress). next_of q p' t' f') e)) ∙ so))
                (λ z. record { instruction = i; found = here.1; needs = z }),
          )
          go (inl (inr y)) = inr (inl (record { instruction = i; found = here.1; needs = y.0 }, y.1))
          go (inr y) = inr (inr y)

  pub computes : r.place < r.stop → Computable r p t
  computes h = computable g.ready h g.fit.slots

-- ---- the loop's invariant: f₀, p₀, t₀ and r₀ are the frames, the lent bytes and the registers at the start

pub record Going (file : List ℕ) (c : Sections) (cap n : ℕ) (p₀ t₀ f₀ : List ℕ) (r₀ : Registers) (p t f : List ℕ) (r : Registers) (rest : ℕ) : Type 0 where
  pub module_is : Packed file c × (refusal file ≡ 0)
  pub fits : Fits (read file) cap r p t f
  pub same_p : length p ≡ length p₀
  pub same_t : length t ≡ length t₀
  pub same_f : length f ≡ length f₀
  pub left : rest ≤ n
  pub same : (h : Heap) (k : ℕ) → run (read file) cap rest (k + (n - rest)) (with_heap h (state_of r p t f)) ≡ run (read file) cap n k (with_heap h (state_of r₀ p₀ t₀ f₀))
  pub rest_payloads : drop (cap * 8) p ≡ drop (cap * 8) p₀
  pub rest_types : drop cap t ≡ drop cap t₀

pub starts : (file : List ℕ) (c : Sections) (cap n : ℕ) (p t f : List ℕ) (r : Registers) → Packed file c × (refusal file ≡ 0) → Fits (read file) cap r p t f
    → Going file c cap n p t f r p t f r n
starts file c cap n p t f r a b =
    record {
      module_is = a;
      fits = b;
      same_p = refl;
      same_t = refl;
      same_f = refl;
      left = omega arith;
      same = λ h k. let z : k + (n - n) ≡ k = omega arith in rw z refl;
      rest_payloads = refl;
      rest_types = refl;
    }

module _ (file : List ℕ) (c : Sections) (cap n : ℕ) (p₀ t₀ f₀ : List ℕ) (r₀ : Registers) (p t f : List ℕ) (r : Registers) (rest : ℕ)
    (g : Going file c cap n p₀ t₀ f₀ r₀ p t f r rest) where
  abbrev m₁ : Module
  m₁ = read file

  abbrev s₀ : State
  s₀ = state_of r₀ p₀ t₀ f₀

  abbrev s₁ : State
  s₁ = state_of r p t f

  -- ---- ways out

  -- ended with the number e at the registers r
  ended : (e : Option Exception) → left (number_of e) ≡ false → ((h : Heap) (k : ℕ) → run m₁ cap rest k (with_heap h s₁) ≡ outcome (number_of e) k (keeping (memory_of p t r.height) h))
      → RunsTo m₁ cap n s₀ (end_with e rest r) p₀ t₀ f₀ p t f
  ended e ne x =
      record {
        exact = λ z y h k. sym (x h (k + (n - rest))) ∙ g.same h k;
        resumes = λ z. record { fits = g.fits; same = g.same };
        deferred = λ z. false_true (sym ne ∙ z);
        left = g.left;
        high = g.fits.ready.high;
        rest_payloads = g.rest_payloads;
        rest_types = g.rest_types;
        same_payloads = g.same_p;
        same_types = g.same_t;
        same_words = g.same_f;
      }

  pub ends : (e : Ended) → e ≡ end_at_stop f r rest → r.stop ≤ r.place → RunsTo m₁ cap n s₀ e p₀ t₀ f₀ p t f
  unfolding end_at_stop
  ends e q l = subst (λ (x : Ended). RunsTo m₁ cap n s₀ x p₀ t₀ f₀ p t f) (sym q) (go (eqb (get_or f r.frame 0) 65535) refl)
    where
      at : (h : Heap) (k : ℕ) (z : ℕ) → end_number (body_in (get_or f r.frame 0)) ≡ z → run m₁ cap rest k (with_heap h s₁) ≡ outcome z k (keeping (memory_of p t r.height) h)
      at h k z e = run_end m₁ cap (with_heap h s₁) rest k l ∙ ap (λ z. outcome z k (keeping (memory_of p t r.height) h)) e

      go : (b : Bool) → eqb (get_or f r.frame 0) 65535 ≡ b → RunsTo m₁ cap n s₀ (cond {A = Ended} b (end_with None rest r) (end_with (Some Exception.FunctionNoRetInstruction) rest r)) p₀ t₀ f₀ p t f
      go true y = ended None refl (λ h k. at h k 0 (end_number_lem (get_or f r.frame 0) true y))
      go false y = ended (Some Exception.FunctionNoRetInstruction) refl (λ h k. at h k 29 (end_number_lem (get_or f r.frame 0) false y))

  pub used_up : r.place < r.stop → rest ≡ 0 → RunsTo m₁ cap n s₀ (end_with (Some Exception.AllowanceUsedUp) rest r) p₀ t₀ f₀ p t f
  used_up l e = ended (Some Exception.AllowanceUsedUp) refl (λ h k. rw e (run_15 m₁ cap (with_heap h s₁) k l))

  module _ (l : r.place < r.stop) (ne : rest ≡ 0 → ⊥) (p' t' f' : List ℕ) (ef : length f' ≡ length f) where
    more : rest ≡ suc (rest - 1)
    more = omega (arith, ne)

    turn : (h : Heap) (k : ℕ) (x : Next) → x ≡ step m₁ cap (with_heap h s₁)
        → turned m₁ cap (with_heap h s₁) (rest - 1) (k + (n - rest)) x ≡ run m₁ cap n k (with_heap h s₀)
    turn h k x e =
        sym (run_turn m₁ cap (with_heap h s₁) (rest - 1) (k + (n - rest)) x (advance_step m₁ cap (with_heap h s₁) l ∙ sym e))
        ∙ ap (λ (i : ℕ). run m₁ cap i (k + (n - rest)) (with_heap h s₁)) (sym more) ∙ g.same h k

    counted : (k : ℕ) → suc (k + (n - rest)) ≡ k + (n - (rest - 1))
    counted k = omega (arith, ne, g.left)

    -- what was done, over any heap
    over : (a : Progress) → DoesOver cap r a p t f p' t' f' (step m₁ cap) → (h : Heap) → onto h (next_of a p' t' f') ≡ step m₁ cap (with_heap h s₁)
    over a d h = ap (onto h) d.0.result ∙ sym (d.1 h)

    pub goes_on : (q : Registers) → StepOr m₁ cap r (Goes q) p t f p' t' f' → Going file c cap n p₀ t₀ f₀ r₀ p' t' f' q (rest - 1)
    unfolding turned
    goes_on q (inl (d, x)) =
        record {
          module_is = g.module_is;
          fits = record {
            ready = d.0.ready;
            fit = subst (NextFit m₁ OfKind cap) (sym d.0.result) (step_fit file g.module_is.1 OfKind (kinds_closed file g.module_is.1) cap s₁ g.fits.fit l);
          };
          same_p = d.0.same_payloads ∙ g.same_p;
          same_t = d.0.same_types ∙ g.same_t;
          same_f = ef ∙ g.same_f;
          left = omega (arith, g.left);
          same = λ h k. subst (λ (z : ℕ). run m₁ cap (rest - 1) z (with_heap h (state_of q p' t' f')) ≡ run m₁ cap n k (with_heap h s₀)) (counted k) (turn h k (goes (with_heap h (state_of q p' t' f'))) (over (Goes q) d h));
          rest_payloads = d.0.rest_payloads ∙ g.rest_payloads;
          rest_types = d.0.rest_types ∙ g.rest_types;
        }
    goes_on q (inr (inl x)) = absurd (let e : Goes q ≡ Stops x.1.number = x.1.stops_with in let z : ◌≡◌ {A = ℕ} 0 1 = cc in omega arith)
    goes_on q (inr (inr x)) = absurd (let e : Goes q ≡ Stops Exception.StackOverflow = x.stops_with in let z : ◌≡◌ {A = ℕ} 0 1 = cc in omega arith)

    pub returned : (q : Registers) → StepOr m₁ cap r (Finishes q) p t f p' t' f' → RunsTo m₁ cap n s₀ (end_with None (rest - 1) q) p₀ t₀ f₀ p' t' f'
    unfolding turned
    returned q (inl (d, x)) =
        record {
          exact = λ z y h k. ap (λ i. outcome 0 i (keeping (memory_of p' t' q.height) h)) (sym (counted k)) ∙ turn h k (finishes (keeping (memory_of p' t' q.height) h)) (over (Finishes q) d h);
          resumes = λ z. absurd (⊎_elim (λ y. omega arith) (λ y. false_true y) z);
          deferred = λ z. false_true z;
          left = omega (arith, g.left);
          high = d.0.ready;
          rest_payloads = d.0.rest_payloads ∙ g.rest_payloads;
          rest_types = d.0.rest_types ∙ g.rest_types;
          same_payloads = d.0.same_payloads ∙ g.same_p;
          same_types = d.0.same_types ∙ g.same_t;
          same_words = ef ∙ g.same_f;
        }
    returned q (inr (inl x)) = absurd (let e : Finishes q ≡ Stops x.1.number = x.1.stops_with in let z : ◌≡◌ {A = ℕ} 0 1 = cc in omega arith)
    returned q (inr (inr x)) = absurd (let e : Finishes q ≡ Stops Exception.StackOverflow = x.stops_with in let z : ◌≡◌ {A = ℕ} 0 1 = cc in omega arith)

    -- the state is as it was
    unmoved : state_of r p' t' f' ≡ s₁ → Ready cap r p' t' f' → (e : Option Exception) → Resumes m₁ cap n s₀ (end_with e rest r) p' t' f'
    unmoved u k e =
        record {
          fits = record { ready = k; fit = subst (Fit m₁ OfKind cap) (sym u) g.fits.fit };
          same = λ h i. ap (λ (x : State). run m₁ cap rest (i + (n - rest)) (with_heap h x)) u ∙ g.same h i;
        }

    -- before an instruction that needs the heap
    waits : (e : Option Exception) → Needs m₁ r → Deferred m₁ (end_with e rest r)
    waits e x = record { more = omega (arith, ne); inside = l; instruction = x }

    -- nothing changed, and no run ends with e
    kept : (e : Option Exception) → ((number_of e ≡ 20 → 1536 ≤ length f₀) → left (number_of e) ≡ false → ⊥) → (left (number_of e) ≡ true → Needs m₁ r) → p' ≡ p → t' ≡ t → f' ≡ f
        → RunsTo m₁ cap n s₀ (end_with e rest r) p₀ t₀ f₀ p' t' f'
    kept e never w ep et ew =
        record {
          exact = λ z y h k. absurd (never z y);
          resumes = λ z. unmoved (rw (ep, et, ew) refl) (rw (ep, et, ew) g.fits.ready) e;
          deferred = λ z. waits e (w z);
          left = g.left;
          high = g.fits.ready.high;
          rest_payloads = rw ep g.rest_payloads;
          rest_types = rw et g.rest_types;
          same_payloads = rw ep g.same_p;
          same_types = rw et g.same_t;
          same_words = ef ∙ g.same_f;
        }

    pub stopped : (e : Exception) → StepOr m₁ cap r (Stops e) p t f p' t' f' → RunsTo m₁ cap n s₀ (end_with (Some e) rest r) p₀ t₀ f₀ p' t' f'
    unfolding turned
    stopped e (inl (d, x)) =
        record {
          exact = λ z y h k. ap (λ (u : State). outcome (exception_number e) (k + (n - rest)) (keeping u.memory h)) d.0.unchanged ∙ turn h k (stops (exception_number e)) (over (Stops e) d h);
          resumes = λ z. unmoved d.0.unchanged d.0.ready (Some e);
          deferred = λ z. waits (Some e) (x e refl z);
          left = g.left;
          high = d.0.ready.high;
          rest_payloads = d.0.rest_payloads ∙ g.rest_payloads;
          rest_types = d.0.rest_types ∙ g.rest_types;
          same_payloads = d.0.same_payloads ∙ g.same_p;
          same_types = d.0.same_types ∙ g.same_t;
          same_words = ef ∙ g.same_f;
        }
    stopped e (inr (inl x)) =
        let number : Stops e ≡ Stops x.1.number = x.1.stops_with in
        let is : e ≡ x.1.number = cc in
        kept (Some e) (λ z y. false_true (sym y ∙ ap (λ (n : Exception). left (exception_number n)) is ∙ x.1.says_so)) (λ z. x.0) x.1.keeps_payloads x.1.keeps_types x.1.keeps_words
    stopped e (inr (inr x)) =
        let number : Stops e ≡ Stops Exception.StackOverflow = x.stops_with in
        let is : e ≡ Exception.StackOverflow = cc in
        kept (Some e) (λ z y. let w : 1536 ≤ length f₀ = z (ap exception_number is) in omega (arith, x.fewer, g.same_f)) (λ z. false_true (sym (ap (λ (n : Exception). left (exception_number n)) is) ∙ z)) x.keeps_payloads x.keeps_types x.keeps_words
