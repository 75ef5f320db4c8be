-- A walk's loop: from what one instruction leaves, by numbers, to what has been walked.
use mathlib.Core.Path.{◌≡◌, refl, sym, ap, ◌∙◌, subst}
use mathlib.Core.Logic.{◌≢◌}
use Prim.Native.Nat.{ℕ, suc, ◌+◌, ◌*◌, ◌-◌, ◌/◌, ◌%◌, ◌≤◌, ◌<◌, max}
use native.Mathlib.Omega.{arith}
use mathlib.Core.Bool.{true}
use mathlib.Core.Option.{some}
use mathlib.Core.List.{List}
use lib.ListN.{length, get_or}
use lib.Dec.{eqb, ltb}
use Rattle.soundness.specs.Names.{Condition, Instruction, store, jmp, branch, call, ret}
use Rattle.rules.specs.Bytes.{byte, word}
use Rattle.rules.specs.Instructions.{size}
use Rattle.rules.specs.Tables.{Body, Function, body_of, body_end, function_count, module_of}
use Rattle.rules.specs.ModuleFile.{edition, functions_in, code_in, code_length, refusal, read, bodies_in, tables_in}
use Rattle.format.specs.declared.Sections.{Sections}
use Rattle.soundness.specs.Tests.{decide, none_some, eqb_is, eqb_isnt, ltb_is, ltb_isnt}
use Rattle.soundness.specs.Invariant.{owned_is}
use Rattle.soundness.specs.Readable.{orderly, place_inside}
use Rattle.soundness.specs.Cutting.{good_file, few_functions, code_length_lem}
use Rattle.keys.specs.Keys.{Keyed, decoded}
use Rattle.std.specs.Prelude.{Some, None}
use Rattle.keys.proofs.Places.{at_end_lem, at_key}
use Rattle.keys.proofs.Files.{code_long}
use Rattle.rules.specs.Need.{called}
use Rattle.need.specs.Computed.{called_function}
use Rattle.tracks.specs.Plans.{plan_of, falls, Means, narrow, broad, storing, jumping, forking, calling, returning, effect_at}
use Rattle.tracks.specs.Walks.{Climbing, Standing, Ready, Grows, grows_refl, Arrived}
use Rattle.tracks.specs.Steps.{here, says, meant, call_here, low_ground}
use Rattle.tracks.specs.Leads.{Leads, noted, plain_leads, store_leads, ret_ends, end_ends}
use Rattle.tracks.specs.Jumps.{labelled, node_of, arrival_climbs, arrival_grows, arrival_met, jump_place, jump_ends, fork_place, fork_leads, call_leads}
use Rattle.tracks.specs.Loop.{Finished, Walking, walking_ends, walking_on, walking_node}
use Rattle.climb.specs.declared.walk.Spot.{Spot}
use Rattle.climb.specs.Turns.{spot, Callable, OtherAsks, OtherIs}

means_plain : (x w : ℕ) (i : Instruction) → Means x w i → x < 16 → (plan_of i ≡ falls (x % 8)) × (size i ≡ 1 + 4 * (x / 8))
means_plain _ _ _ (narrow d w i p z l) h = let e : d ≡ d % 8 = omega arith in (p ∙ ap falls e, z ∙ (omega arith))
means_plain _ _ _ (broad d w i p z l) h = let e : d ≡ (8 + d) % 8 = omega arith in (p ∙ ap falls e, z ∙ (omega arith))
means_plain _ _ _ (storing w) h = absurd (omega arith)
means_plain _ _ _ (jumping w) h = absurd (omega arith)
means_plain _ _ _ (forking c w) h = absurd (omega arith)
means_plain _ _ _ (calling w) h = absurd (omega arith)
means_plain _ _ _ (returning w) h = absurd (omega arith)

record Special (x w : ℕ) (i : Instruction) : Type 0 where
  up_to : x ≤ 20
  stores : x ≡ 16 → i ≡ store w
  jumps : x ≡ 17 → i ≡ jmp w
  forks : x ≡ 18 → (c : Condition) × (i ≡ branch c w)
  calls : x ≡ 19 → i ≡ call w
  stops : x ≡ 20 → i ≡ ret
  wide : x < 20 → size i ≡ 5

means_special : (x w : ℕ) (i : Instruction) → Means x w i → 16 ≤ x → Special x w i
means_special _ _ _ (narrow d w i p z l) h = absurd (omega arith)
means_special _ _ _ (broad d w i p z l) h = absurd (omega arith)
means_special _ _ _ (storing w) h = record { up_to = omega arith; stores = λ z. refl; jumps = λ z. absurd (omega arith); forks = λ z. absurd (omega arith); calls = λ z. absurd (omega arith); stops = λ z. absurd (omega arith); wide = λ z. refl }
means_special _ _ _ (jumping w) h = record { up_to = omega arith; stores = λ z. absurd (omega arith); jumps = λ z. refl; forks = λ z. absurd (omega arith); calls = λ z. absurd (omega arith); stops = λ z. absurd (omega arith); wide = λ z. refl }
means_special _ _ _ (forking c w) h = record { up_to = omega arith; stores = λ z. absurd (omega arith); jumps = λ z. absurd (omega arith); forks = λ z. (c, refl); calls = λ z. absurd (omega arith); stops = λ z. absurd (omega arith); wide = λ z. refl }
means_special _ _ _ (calling w) h = record { up_to = omega arith; stores = λ z. absurd (omega arith); jumps = λ z. absurd (omega arith); forks = λ z. absurd (omega arith); calls = λ z. refl; stops = λ z. absurd (omega arith); wide = λ z. refl }
means_special _ _ _ (returning w) h = record { up_to = omega arith; stores = λ z. absurd (omega arith); jumps = λ z. absurd (omega arith); forks = λ z. absurd (omega arith); calls = λ z. absurd (omega arith); stops = λ z. refl; wide = λ z. absurd (omega arith) }

-- a function's number is low
function_low : (s : List ℕ) → refusal s ≡ 0 → (k : ℕ) (F : Function) → (read s).function k ≡ some F → k < 128
unfolding module_of
function_low s e k F q =
    decide (ltb k (function_count (edition s) (functions_in s)))
    (λ y. let z : k < function_count (edition s) (functions_in s) = ltb_is k (function_count (edition s) (functions_in s)) y in let w : function_count (edition s) (functions_in s) ≤ 128 = few_functions s e in omega arith)
    (λ y. none_some (rw y at q))

module _ (s : List ℕ) (c : Sections) (table : List ℕ) (owner : ℕ) (R : Ready s c table owner) where
  abbrev b : Body
  b = body_of owner

  -- a place is in the code
  pub in_code : (at : ℕ) → (read s).is_place (body_of owner) at ≡ true → (at ≤ body_end (bodies_in s) (body_of owner)) × (at ≤ 16384) × (at < length table) × (body_end (bodies_in s) (body_of owner) ≤ code_length s)
  in_code at p =
      let x = place_inside (tables_in s) (good_file s R.readable) (body_of owner) at R.has p in
      let y : at ≤ body_end (bodies_in s) (body_of owner) = x.1 in
      let z : body_end (bodies_in s) (body_of owner) ≤ length (code_in s) = x.2 in
      let l : length (code_in s) ≡ code_length s = code_length_lem s R.readable in
      let e : c.extent ≡ code_length s = R.packed.extent_is in
      let u : c.extent ≤ 16384 = R.packed.little_code in
      let w : code_length s < length table = R.tabled.wide in
      (y, omega arith, omega arith, omega arith)

  module _ (code : List ℕ) (K : Keyed s code 0) (p₀ f₀ : ℕ) (M₀ G₀ Q₀ : List ℕ) (x₀ : ℕ) (M G Q : List ℕ) (most at locals ground_level h : ℕ)
      (W : Walking s table (body_of owner) p₀ f₀ M₀ G₀ Q₀ x₀ M G Q most at locals ground_level h) where
    S : Standing s table (body_of owner) at locals ground_level h
    S = W.standing

    -- at the body's end
    pub walk_ends : body_end (bodies_in s) (body_of owner) ≤ at → Finished s table b p₀ f₀ M₀ G₀ Q₀ x₀ M G Q most
    walk_ends late =
        walking_ends s c table owner R p₀ f₀ M₀ G₀ Q₀ x₀ M G Q most at locals ground_level h W M G Q most W.climbing (grows_refl M G Q most)
        (end_ends s c table owner R code K M G Q most at locals ground_level h W.climbing W.standing W.high late)

    module _ (before : at < body_end (bodies_in s) (body_of owner)) (k x : ℕ) (key : k ≡ byte code at % 64) (eff : x ≡ effect_at k) where
      abbrev i : Instruction
      i = (here s c table owner R code K at W.standing.place before).0

      abbrev w : ℕ
      w = word 4 code (at + 1)

      means : Means x (word 4 code (at + 1)) (here s c table owner R code K at W.standing.place before).0
      means = meant s c table owner R code K at W.standing.place before k x key eff

      -- ---- an instruction that changes the height alone

      pub plain : x < 16 → (2 ≤ h + x % 8) × Leads s table b M G Q most at W.standing.given ground_level (at + 1 + 4 * (x / 8)) locals ground_level (h + x % 8 - 2)
      plain l =
          let m : (plan_of i ≡ falls (x % 8)) × (size i ≡ 1 + 4 * (x / 8)) = means_plain x w i means l in
          let y = plain_leads s c table owner R code K M G Q most at locals ground_level h W.climbing W.standing W.high before (x % 8) m.0 in
          let z : at + size i ≡ at + 1 + 4 * (x / 8) = let q : size i ≡ 1 + 4 * (x / 8) = m.1 in omega arith in
          (y.0, subst (λ q. Leads s table b M G Q most at W.standing.given ground_level q locals ground_level (h + x % 8 - 2)) z y.1)

      -- ---- one that does more

      module _ (from : 16 ≤ x) where
        sp : Special x w i
        sp = means_special x w i means from

        callee : i ≡ call w → Callable s w h
        callee e =
            let F : (F : Function) × ((read s).function w ≡ some F) =
            called_function (read s) R.typed b w (at, W.standing.given, ground_level, W.standing.path, call_here s c table owner R code K at W.standing.place before ∙ ap called e) in
            let n : w < 128 = function_low s R.readable w F.0 F.1 in (
              n,
              F.0,
              F.1,
              (call_leads s c table owner R code K M G Q most at locals ground_level h W.climbing W.standing W.high before w e F.0 F.1 n).0,
              (orderly (tables_in s) (good_file s R.readable)).few_params w F.0 F.1,
            )

        pub asks : OtherAsks s code x (spot at locals ground_level h) Q M G
        asks =
            let lo = low_ground s c table owner R at locals ground_level h W.standing in
            record {
              low = (in_code at W.standing.place).1;
              few = lo.2;
              small = (lo.0, lo.1);
              wide = W.climbing.wide;
              sizes = (W.climbing.marked, W.climbing.grounded);
              from = from;
              whole = λ z. let q : size i ≡ 5 = sp.wide z in let r : at + size i ≤ length code = (says s c table owner R code K at W.standing.place before).whole in omega arith;
              stores = λ z u. ((store_leads s c table owner R code K M G Q most at locals ground_level h W.climbing W.standing W.high before w (sp.stores z)).0 u).0;
              labelled = λ z. let p = jump_place s c table owner R code K M G Q most at locals ground_level h W.climbing W.standing W.high before w (sp.jumps z) in (b, p.0, owned_is b ((read s).label w) p.0 p.1);
              forks = λ z. let o = sp.forks z in let p = fork_place s c table owner R code K M G Q most at locals ground_level h W.climbing W.standing W.high before o.0 w o.1 in (p.0, b, p.1, owned_is b ((read s).label w) p.1 p.2);
              calls = λ z. callee (sp.calls z);
              up_to = sp.up_to;
            }

        -- what it leaves where the walk ends
        pub other_ends : (Q' M' G' : List ℕ) → OtherIs s table w x (spot at locals ground_level h) Q M G None Q' M' G' → Finished s table b p₀ f₀ M₀ G₀ Q₀ x₀ M' G' Q' most
        other_ends Q' M' G' o =
            decide (eqb x 17) (λ y. jumped (eqb_is x 17 y))
            (λ y. decide (eqb x 20) (λ z. stopped (eqb_is x 20 z))
            (λ z. absurd (rest (eqb_isnt x 17 y) (eqb_isnt x 20 z))))
          where
            clash : (t : Spot) → None ≡ Some t → ⊥
            clash t e = let z : ◌≡◌ {A = ℕ} 0 1 = cc in omega arith

            rest : x ≢ 17 → x ≢ 20 → ⊥
            rest u v =
                decide (eqb x 16)
                (λ y. let z : x ≡ 16 = eqb_is x 16 y in decide (ltb w locals) (λ q. clash _ ((o.stores z).0 (ltb_is w locals q))) (λ q. clash _ ((o.stores z).1 (ltb_isnt w locals q))))
                (λ y. decide (eqb x 18) (λ z. clash _ (o.forks (eqb_is x 18 z)).0)
                (λ z. let n : x ≢ 16 = eqb_isnt x 16 y in
                let m : x ≢ 18 = eqb_isnt x 18 z in
                let t : x ≤ 20 = sp.up_to in
                let e : x ≡ 19 = omega arith in
                let f : Callable s w h = callee (sp.calls e) in clash _ ((o.calls e).0 f.1 f.2).0))

            stopped : x ≡ 20 → Finished s table b p₀ f₀ M₀ G₀ Q₀ x₀ M' G' Q' most
            stopped e =
                let q = o.stops e in
                subst (λ z. Finished s table b p₀ f₀ M₀ G₀ Q₀ x₀ M' G' z most) (sym q.1)
                (subst (λ z. Finished s table b p₀ f₀ M₀ G₀ Q₀ x₀ z G' Q most) (sym q.2)
                (subst (λ z. Finished s table b p₀ f₀ M₀ G₀ Q₀ x₀ M z Q most) (sym q.3)
                (walking_ends s c table owner R p₀ f₀ M₀ G₀ Q₀ x₀ M G Q most at locals ground_level h W M G Q most W.climbing (grows_refl M G Q most)
                (ret_ends s c table owner R code K M G Q most at locals ground_level h W.climbing W.standing W.high before (sp.stops e)))))

            jumped : x ≡ 17 → Finished s table b p₀ f₀ M₀ G₀ Q₀ x₀ M' G' Q' most
            jumped e =
                let q = o.jumps e in
                let p = jump_place s c table owner R code K M G Q most at locals ground_level h W.climbing W.standing W.high before w (sp.jumps e) in
                let l = labelled s c table owner R w p.0 p.1 in
                let a = q.2 b p.0 (owned_is b ((read s).label w) p.0 p.1) in
                subst (λ z. Finished s table b p₀ f₀ M₀ G₀ Q₀ x₀ M' G' z most) (sym q.1)
                (walking_ends s c table owner R p₀ f₀ M₀ G₀ Q₀ x₀ M G Q most at locals ground_level h W M' G' Q most
                (arrival_climbs s c table owner R M G Q most W.climbing p.0 a.0 W.standing.given ground_level p.2 l.0 l.1 a.1 M' G' a.2)
                (arrival_grows s c table owner R M G Q most W.climbing p.0 a.0 W.standing.given ground_level p.2 l.0 l.1 a.1 M' G' a.2)
                (jump_ends s c table owner R code K M G Q most at locals ground_level h W.climbing W.standing W.high before w (sp.jumps e) M' G'
                (arrival_met s c table owner R M G Q most W.climbing p.0 a.0 W.standing.given ground_level p.2 l.0 l.1 a.1 M' G' a.2)))

        -- .. and where it goes on
        abbrev On : List ℕ → List ℕ → List ℕ → Spot → Type 0
        On Q' M' G' t = Climbing s table b M' G' Q' most × Grows M G Q most M' G' Q' most × Leads s table b M' G' Q' most at W.standing.given ground_level t.at t.locals t.ground_level t.height

        pub other_goes : (t : Spot) (Q' M' G' : List ℕ) → OtherIs s table w x (spot at locals ground_level h) Q M G (Some t) Q' M' G' → On Q' M' G' t
        other_goes t Q' M' G' o =
            decide (eqb x 16) (λ y. stored (eqb_is x 16 y))
            (λ y. decide (eqb x 18) (λ z. forked (eqb_is x 18 z))
            (λ z. decide (eqb x 19) (λ v. called' (eqb_is x 19 v))
            (λ v. absurd (rest (eqb_isnt x 16 y) (eqb_isnt x 18 z) (eqb_isnt x 19 v)))))
          where
            clash : Some t ≡ None → ⊥
            clash e = let z : ◌≡◌ {A = ℕ} 0 1 = cc in omega arith

            inj : (p q : Spot) → Some p ≡ Some q → p ≡ q
            inj p q e = cc

            rest : x ≢ 16 → x ≢ 18 → x ≢ 19 → ⊥
            rest u v y =
                decide (eqb x 17) (λ z. clash (o.jumps (eqb_is x 17 z)).0)
                (λ z. let n : x ≢ 17 = eqb_isnt x 17 z in let m : x ≤ 20 = sp.up_to in let e : x ≡ 20 = omega arith in clash (o.stops e).0)

            same : Q' ≡ Q → M' ≡ M → G' ≡ G → (q : Spot) → t ≡ q → On Q M G q → On Q' M' G' t
            same a d e q f n =
                subst (λ z. On z M' G' t) (sym a) (subst (λ z. On Q z G' t) (sym d) (subst (λ z. On Q M z t) (sym e) (subst (On Q M G) (sym f) n)))

            stored : x ≡ 16 → On Q' M' G' t
            stored e =
                let q = o.stores e in
                let y = store_leads s c table owner R code K M G Q most at locals ground_level h W.climbing W.standing W.high before w (sp.stores e) in
                decide (ltb w locals)
                (λ z. let l : w < locals = ltb_is w locals z in
                same q.2 q.3 q.4 (spot (at + 5) locals ground_level (h - 1)) (inj t _ (q.0 l)) (W.climbing, grows_refl M G Q most, (y.0 l).1))
                (λ z. let l : locals ≤ w = ltb_isnt w locals z in
                same q.2 q.3 q.4 (spot (at + 5) (locals + 1) h h) (inj t _ (q.1 l)) (W.climbing, grows_refl M G Q most, y.1 l))

            called' : x ≡ 19 → On Q' M' G' t
            called' e =
                let f : Callable s w h = callee (sp.calls e) in
                let q = o.calls e in
                let y = call_leads s c table owner R code K M G Q most at locals ground_level h W.climbing W.standing W.high before w (sp.calls e) f.1 f.2 f.0 in
                let z = q.0 f.1 f.2 in
                subst (λ v. On v M' G' t) (sym z.1) (subst (λ v. On (noted Q w (h - length f.1.params + 1)) v G' t) (sym q.1) (subst (λ v. On (noted Q w (h - length f.1.params + 1)) M v t) (sym q.2)
                (subst (On (noted Q w (h - length f.1.params + 1)) M G) (sym (inj t _ z.0)) (y.1, y.2, y.3))))

            forked : x ≡ 18 → On Q' M' G' t
            forked e =
                let q = o.forks e in
                let d = sp.forks e in
                let p = fork_place s c table owner R code K M G Q most at locals ground_level h W.climbing W.standing W.high before d.0 w d.1 in
                let l = labelled s c table owner R w p.1 p.2 in
                let a = q.2 b p.1 (owned_is b ((read s).label w) p.1 p.2) in
                subst (λ v. On v M' G' t) (sym q.1) (subst (On Q M' G') (sym (inj t _ q.0)) (
                  arrival_climbs s c table owner R M G Q most W.climbing p.1 a.0 p.3 ground_level p.4 l.0 l.1 a.1 M' G' a.2,
                  arrival_grows s c table owner R M G Q most W.climbing p.1 a.0 p.3 ground_level p.4 l.0 l.1 a.1 M' G' a.2,
                  fork_leads s c table owner R code K M G Q most at locals ground_level h W.climbing W.standing W.high before d.0 w d.1 M' G'
                      (arrival_met s c table owner R M G Q most W.climbing p.1 a.0 p.3 ground_level p.4 l.0 l.1 a.1 M' G' a.2),
                ))

    -- ---- a step, with all that the code asks of it

    pub record Step (M₁ G₁ Q₁ : List ℕ) (at' locals' ground' h' r : ℕ) : Type 0 where
      pub in_table : at' < length table
      pub small : ground' ≤ 512
      pub sizes : (length M₁ ≡ 256) × (length G₁ ≡ 258)
      pub wide : length Q₁ ≡ 128
      pub further : at < at'
      pub on : Walking s table (body_of owner) p₀ f₀ M₀ G₀ Q₀ x₀ M₁ G₁ Q₁ r at' locals' ground' h'
      pub node : (v : ℕ) → v ≡ get_or table at' 0 → 0 < get_or table at' 0 → (at' ≡ body_end (bodies_in s) (body_of owner) → ⊥)
          → (1 ≤ v) × (v - 1 < 256) × ((M₂ G₂ : List ℕ) → Arrived (v - 1) ground' M₁ G₁ M₂ G₂ → Finished s table (body_of owner) p₀ f₀ M₀ G₀ Q₀ x₀ M₂ G₂ Q₁ r)

    step : (M₁ G₁ Q₁ : List ℕ) → Climbing s table (body_of owner) M₁ G₁ Q₁ most → Grows M G Q most M₁ G₁ Q₁ most → (at' locals' ground' h' : ℕ)
        → Leads s table (body_of owner) M₁ G₁ Q₁ most at W.standing.given ground_level at' locals' ground' h' → (r : ℕ) → r ≡ max most h' → Step M₁ G₁ Q₁ at' locals' ground' h' r
    step M₁ G₁ Q₁ C g at' locals' ground' h' L r e =
        let p = in_code at' L.standing.place in
        record {
          in_table = p.2;
          small = (low_ground s c table owner R at' locals' ground' h' L.standing).0;
          sizes = (C.marked, C.grounded);
          wide = C.wide;
          further = L.further;
          on = walking_on s c table owner R p₀ f₀ M₀ G₀ Q₀ x₀ M G Q most at locals ground_level h W M₁ G₁ Q₁ most C g at' locals' ground' h' L r e;
          node = λ v d z n. node_at v d z n;
        }
      where
        node_at : (v : ℕ) → v ≡ get_or table at' 0 → 0 < get_or table at' 0 → (at' ≡ body_end (bodies_in s) (body_of owner) → ⊥)
            → (1 ≤ v) × (v - 1 < 256) × ((M₂ G₂ : List ℕ) → Arrived (v - 1) ground' M₁ G₁ M₂ G₂ → Finished s table (body_of owner) p₀ f₀ M₀ G₀ Q₀ x₀ M₂ G₂ Q₁ r)
        node_at v d z n =
            let y : at' ≤ body_end (bodies_in s) (body_of owner) = (in_code at' L.standing.place).0 in
            let l : at' < body_end (bodies_in s) (body_of owner) = omega arith in
            let t : get_or table at' 0 ≡ suc (v - 1) = omega arith in (
              omega arith,
              (node_of s c table owner R at' (v - 1) L.standing.place l t).1,
              λ M₂ G₂ a. walking_node s c table owner R p₀ f₀ M₀ G₀ Q₀ x₀ M G Q most at locals ground_level h W M₁ G₁ Q₁ most C g at' locals' ground' h' L r e (v - 1) l t M₂ G₂ a,
            )

    module _ (end : ℕ) (end_is : end ≡ body_end (bodies_in s) (body_of owner)) (k : ℕ) (f : decoded code at end ≡ Some k) where
      -- a key was decoded
      pub keyed : (at < body_end (bodies_in s) (body_of owner)) × (k ≡ byte code at % 64) × (k < 64) × (at ≤ 16384)
      keyed =
          let x : (at < end) × (k ≡ byte code at % 64) = at_key code at end k f in
          let e : k ≡ byte code at % 64 = x.1 in (subst (λ z. at < z) end_is x.0, e, omega arith, (in_code at W.standing.place).1)

      module _ (x : ℕ) (eff : x ≡ effect_at k) where
        pub plain_step : (r : ℕ) → x < 16 → r ≡ max most (h + x % 8 - 2) → (2 ≤ h + x % 8) × (h ≤ 544) × Step M G Q (at + 1 + 4 * (x / 8)) locals ground_level (h + x % 8 - 2) r
        plain_step r l e =
            let p = plain keyed.0 k x keyed.1 eff l in
            (p.0, (low_ground s c table owner R at locals ground_level h W.standing).1, step M G Q W.climbing (grows_refl M G Q most) (at + 1 + 4 * (x / 8)) locals ground_level (h + x % 8 - 2) p.1 r e)

        pub plain_fits : x < 16 → (2 ≤ h + x % 8) × (h ≤ 544)
        plain_fits l = ((plain keyed.0 k x keyed.1 eff l).0, (low_ground s c table owner R at locals ground_level h W.standing).1)

        pub other_asks : 16 ≤ x → OtherAsks s code x (spot at locals ground_level h) Q M G
        other_asks l = asks keyed.0 k x keyed.1 eff l

        pub other_finishes : 16 ≤ x → (Q' M' G' : List ℕ) → OtherIs s table (word 4 code (at + 1)) x (spot at locals ground_level h) Q M G None Q' M' G' → Finished s table (body_of owner) p₀ f₀ M₀ G₀ Q₀ x₀ M' G' Q' most
        other_finishes l = other_ends keyed.0 k x keyed.1 eff l

        pub other_step : 16 ≤ x → (t : Spot) (Q' M' G' : List ℕ) → OtherIs s table (word 4 code (at + 1)) x (spot at locals ground_level h) Q M G (Some t) Q' M' G' → (r : ℕ) → r ≡ max most t.height
            → Step M' G' Q' t.at t.locals t.ground_level t.height r
        other_step l t Q' M' G' o r e =
            let y = other_goes keyed.0 k x keyed.1 eff l t Q' M' G' o in step M' G' Q' y.0 y.1 t.at t.locals t.ground_level t.height y.2 r e

    pub ends_here : (end : ℕ) → end ≡ body_end (bodies_in s) (body_of owner) → decoded code at end ≡ None → Finished s table (body_of owner) p₀ f₀ M₀ G₀ Q₀ x₀ M G Q most
    ends_here end e f = let l : end ≤ at = at_end_lem code at end f in walk_ends (subst (λ z. z ≤ at) e l)

  pub code_fits : (code : List ℕ) → Keyed s code 0 → (end : ℕ) → end ≡ body_end (bodies_in s) (body_of owner) → (at : ℕ) → (read s).is_place (body_of owner) at ≡ true → end ≤ length code
  code_fits code K end e at p = let x : code_length s ≤ length code = code_long s code 0 K R.readable in let y : body_end (bodies_in s) (body_of owner) ≤ code_length s = (in_code at p).3 in omega arith
