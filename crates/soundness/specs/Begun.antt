-- The state in which a run starts fits: what `Started` says of every moment holds of the first.
use Rattle.std.specs.Prelude.{◌≡◌, refl, ℕ, suc, ◌^◌, ◌≤◌, ◌<◌, true, ◌&&◌, List, [], ◌∷◌, length, eqb}
use Rattle.std.proofs.Common.{sym, ap, ◌∙◌, subst, arith}
use Rattle.std.proofs.Math.Option.{Option, none, some}
use Rattle.soundness.specs.Names.{Num, int, long, double, Slot}
use Rattle.rules.specs.Bytes.{maybe}
use Rattle.rules.specs.Instructions.{Ty, num, ptr, num_kind}
use Rattle.rules.specs.Tables.{Body, entry, fn, Function, Module}
use Rattle.rules.specs.ModuleFile.{refusal, read, tables_in}
use Rattle.rules.specs.Typing.{start_of}
use Rattle.rules.specs.Answers.{fits, declared, start_state}
use Rattle.rules.specs.Claims.{AreBytes}
use Rattle.soundness.specs.Tests.{none_some, some_inj, eqb_is, ltb_is, false_true, and_both}
use Rattle.soundness.specs.Readable.{Orderly, orderly}
use Rattle.soundness.specs.Cutting.{good_file}
use Rattle.soundness.specs.Started.{All, opened_fit, Fit, heap_empty}
use Rattle.soundness.specs.Narrow.{Narrow}
use Rattle.soundness.specs.Runs.{Starts, has_end}

-- arguments as declared
declared_narrow : (B : Type 0) (ts : List Ty) (vs : List Slot) → declared ts vs ≡ true → All (Narrow B) vs
declared_narrow B [] [] h = tt
declared_narrow B [] (v ∷ vs) h = false_true h
declared_narrow B (t ∷ ts) [] h = false_true h
declared_narrow B (num τ ∷ ts) (v ∷ vs) h =
    let a : ((eqb v.kind (num_kind τ) && fits τ v.payload) ≡ true) × (declared ts vs ≡ true) = and_both (eqb v.kind (num_kind τ) && fits τ v.payload) (declared ts vs) h in
    let b : (eqb v.kind (num_kind τ) ≡ true) × (fits τ v.payload ≡ true) = and_both (eqb v.kind (num_kind τ)) (fits τ v.payload) a.0 in
    ((λ z e. fitting τ (sym e ∙ eqb_is v.kind (num_kind τ) b.0) b.1), declared_narrow B ts vs a.1)
  where
    fitting : (τ : Num) → 3 ≡ num_kind τ → fits τ v.payload ≡ true → v.payload < 2 ^ 32
    fitting int q f = ltb_is v.payload (2 ^ 32) f
    fitting long q f = absurd (omega arith)
    fitting double q f = absurd (omega arith)
declared_narrow B (ptr g w ∷ ts) (v ∷ vs) h = false_true h

declared_length : (ts : List Ty) (vs : List Slot) → declared ts vs ≡ true → length vs ≡ length ts
declared_length [] [] h = refl
declared_length [] (v ∷ vs) h = false_true h
declared_length (t ∷ ts) [] h = false_true h
declared_length (num τ ∷ ts) (v ∷ vs) h = ap suc (declared_length ts vs (and_both (eqb v.kind (num_kind τ) && fits τ v.payload) (declared ts vs) h).1)
declared_length (ptr g w ∷ ts) (v ∷ vs) h = false_true h

few_params : (m : Module) → Orderly m → (b : Body) (x : ℕ × List Ty) → start_of m b ≡ some x → length x.1 ≤ 8
few_params m O entry x e = let q : length x.1 ≡ 0 = ap (λ (z : ℕ × List Ty). length z.1) (sym (some_inj (0, []) x e)) in omega arith
few_params m O (fn k) x e = go (m.function k) refl e
  where
    go : (o : Option Function) → m.function k ≡ o → maybe o none (λ F. some (F.start, F.params)) ≡ some x → length x.1 ≤ 8
    go none q h = none_some h
    go (some F) q h = subst (λ (z : ℕ × List Ty). length z.1 ≤ 8) (some_inj (F.start, F.params) x h) (O.few_params k F q)

module _ (s : List ℕ) (e : refusal s ≡ 0) (b : Body) (vs : List Slot) (h : Starts (read s) b vs) where
  O : Orderly (read s)
  O = orderly (tables_in s) (good_file s e)

  -- a property of the arguments is one of the first state's slots
  pub start_fits : (Q : Slot → Type 0) → ((ts : List Ty) (vs : List Slot) → declared ts vs ≡ true → All Q vs) → (cap n : ℕ) → length vs ≤ cap
      → Fit (read s) Q cap (start_state (read s) b vs n)
  start_fits Q declared-all cap n l =
      let k : length vs ≡ length h.0.1 = declared_length h.0.1 vs h.2 in
      let few : length h.0.1 ≤ 8 = few_params (read s) O b h.0 h.1 in
      record {
        frames = (opened_fit (read s) b _ _ 0 (length vs) (has_end (read s) b h.0 h.1) (begins (start_of (read s) b) refl h.0 h.1) (omega arith), omega arith, tt);
        depth = omega arith;
        height = l;
        slots = declared-all h.0.1 vs h.2;
        heap = heap_empty (read s) Q n;
      }
    where
      begins : (o : Option (ℕ × List Ty)) → start_of (read s) b ≡ o → (x : ℕ × List Ty) → o ≡ some x → (read s).is_place b (maybe o 0 (λ x. x.0)) ≡ true
      begins none q x h = none_some h
      begins (some y) q x h = O.enters b y q

  pub start_fit : (cap n : ℕ) → length vs ≤ cap → Fit (read s) (Narrow (AreBytes s)) cap (start_state (read s) b vs n)
  start_fit = start_fits (Narrow (AreBytes s)) (declared_narrow (AreBytes s))
