-- A call for rows of a module that can be read: its refusals, and the function's rows.
use Prim.Native.Nat.{ℕ, zero, suc, ◌+◌, ◌*◌, ◌-◌, ◌/◌, ◌%◌, ◌≤◌, ◌<◌}
use native.Mathlib.Omega.{arith}
use mathlib.Core.Path.{subst, ◌≡◌, refl, sym, ap, ◌∙◌}
use mathlib.Core.Bool.{Bool, true, false, cond, not, ◌&&◌}
use mathlib.Core.Option.{none, some}
use mathlib.Core.List.{List}
use lib.Dec.{eqb}
use lib.ListN.{length, get_or, take, drop}
use lib.Seq.{length-take-le, get_or-take}
use borrow.Author.Tests.{eq-eqb, ne_eqb, eqb-true}
use Rattle.rules.specs.Instructions.{Ty, ty_of}
use Rattle.rules.specs.Bytes.{maybe}
use Rattle.rules.specs.Tables.{body_of, function_at, params_from}
use Rattle.rules.specs.ModuleFile.{edition, functions_in, read, refusal}
use Rattle.rules.specs.Typing.{start_of}
use Rattle.rules.specs.Answers.{made_for, other_profile}
use Rattle.soundness.specs.Tests.{and_both}
use Rattle.format.specs.declared.Sections.{Sections}
use Rattle.format.specs.Layout.{Packed}
use Rattle.reader.specs.declared.entries.FunctionRecord.{FunctionRecord}
use Rattle.std.specs.Prelude.{Some}
use Rattle.rules.specs.declared.Refusal.{Refusal}
use Rattle.rules.specs.Results.{refusal_number}
use Rattle.reader.specs.Answers.{function_found}
use Rattle.reader.proofs.Opening.{refusal_some}
use Rattle.runs.proofs.Bodies.{names_function}
use Rattle.rules.specs.AnswerTypes.{MapAnswer}
use Rattle.rules.specs.Mapping.{takes_numbers, has_result, mappable, map_refusal, map_rows, map_module}
use Rattle.rows.specs.Rows.{param_types, TypesAre, sized, answer_of, Mappable, RowsAre, MapIs}

-- a part from 0 on
pub part_0 : (n : ℕ) (k : List ℕ) → take (n - 0) (drop 0 k) ≡ take n k
part_0 n k = let z : n - 0 ≡ n = omega arith in rw z refl

and_last : (x y z : Bool) → (x && y && z && false) ≡ false
and_last false y z = refl
and_last true false z = refl
and_last true true false = refl
and_last true true true = refl

-- ---- the file s, the function's number f, the arguments a, the outputs o, the lent bytes p and t, c and h

module _ (s : List ℕ) (f scan : ℕ) (a o : List ℕ) (allowance : ℕ) (p t c h : List ℕ) where
  abbrev Refuses : ℕ → Type 0
  Refuses n = MapIs s f scan a o allowance p t c h o p t c h (answer_of n 0)

  pub map_unread : (e : Refusal) → refusal s ≡ refusal_number e → Refuses (refusal_number e)
  unfolding map_module map_refusal
  map_unread e q = subst Refuses q (go (refusal s) refl)
    where
      go : (r : ℕ) → refusal s ≡ r → Refuses (refusal s)
      go zero w = absurd (refusal_some e (sym q ∙ w))
      go (suc r) w = rw w refl

  module _ (readable : refusal s ≡ 0) where
    pub map_entry : f ≡ 0xffffffff → Refuses 13
    unfolding map_module map_refusal
    map_entry e = rw readable (rw (eq-eqb f 0xffffffff e) (rw (and_last (eqb (length o % 8) 0) (eqb (length a) (0 * length o)) true) refl))

    pub map_12 : start_of (read s) (body_of f) ≡ none → Refuses 12
    unfolding map_module map_refusal
    map_12 e = rw (readable, e) refl

    -- ---- a function that is there

    module _ (l : Sections) (packed : Packed s l) (g : FunctionRecord) (other : f ≡ 0xffffffff → ⊥) (there : function_found s f (Some g) ≡ (read s).function f) where
      abbrev params : List Ty
      params = param_types s f g.params

      starts : start_of (read s) (body_of f) ≡ some (g.start, params)
      starts = (names_function s l packed f other readable g there).starts

      results : has_result (read s) (body_of f) ≡ not (eqb g.result 0)
      results = rw (ne_eqb f 0xffffffff other, ← there) (go (eqb g.result 0))
        where
          go : (x : Bool) → maybe (cond x none (some (ty_of g.result))) false (λ u. true) ≡ not x
          go true = refl
          go false = refl

      count : (n : ℕ) → length (params_from (functions_in s) (function_at (edition s) f + 10) n) ≡ n
      count zero = refl
      count (suc n) = ap suc (count n)

      -- x, y and z are the tests
      joined : (u v w x : Bool) → (u && v && w && x) ≡ ((w && (u && v)) && x)
      joined true true true x = refl
      joined true true false x = refl
      joined true false true x = refl
      joined true false false x = refl
      joined false v true x = refl
      joined false v false x = refl

      module _ (x y : Bool) (ex : x ≡ takes_numbers params) (ey : y ≡ sized g.params (length a) (length o)) where
        fits : mappable (read s) (body_of f) params a o ≡ ((x && y) && not (eqb g.result 0))
        fits = rw (results, count g.params) (joined (eqb (length o % 8) 0) (eqb (length a) (g.params * length o)) (takes_numbers params) (not (eqb g.result 0)) ∙ rw (ex, ey) refl)

        pub map_13 : ((x && y) && not (eqb g.result 0)) ≡ false → Refuses 13
        unfolding map_module map_refusal
        map_13 q = rw (readable, starts) (rw (fits ∙ q) refl)

        module _ (q : ((x && y) && not (eqb g.result 0)) ≡ true) (z : Bool) (ez : z ≡ other_profile (made_for (read s) (body_of f)) scan) where
          pub map_17 : z ≡ true → Refuses 17
          unfolding map_module map_refusal
          map_17 e = rw (readable, starts) (rw (fits ∙ q, sym ez ∙ e) refl)

          -- for this scan
          module _ (e : z ≡ false) where
            not_refused : map_refusal s f scan a o ≡ 0
            unfolding map_refusal
            not_refused = rw (readable, starts) (rw (fits ∙ q, sym ez ∙ e) refl)

            pub map_none : length o ≡ 0 → Refuses 0
            unfolding map_module map_rows
            map_none w = let v : length o / 8 ≡ 0 = omega arith in rw not_refused (rw v refl)

            pub map_rows_lem : (o' p' t' c' h' : List ℕ) (r : MapAnswer) → RowsAre s f a o allowance p t c h o' p' t' c' h' r → MapIs s f scan a o allowance p t c h o' p' t' c' h' r
            unfolding map_module
            map_rows_lem o' p' t' c' h' r is = rw not_refused (is scan (sym ez ∙ e))

            -- b are its types, of the bytes k
            pub mappable_is : 0 < length o → (k b : List ℕ) → length k ≡ 8 → g.params ≤ 8 → (x ≡ true → TypesAre s f g.params k) → b ≡ take g.params k
                → Mappable s l f g.start g.end b a o
            mappable_is one k b long few types eb =
                let lb : length b ≡ g.params = ap length eb ∙ length-take-le g.params k (omega arith) in
                let xy : (x && y) ≡ true = (and_both (x && y) (not (eqb g.result 0)) q).0 in
                let yes : (x ≡ true) × (y ≡ true) = and_both x y xy in
                let size : (eqb (length o % 8) 0 ≡ true) × (eqb (length a) (g.params * length o) ≡ true) = and_both (eqb (length o % 8) 0) (eqb (length a) (g.params * length o)) (sym ey ∙ yes.1) in
                record {
                  body = rw lb (names_function s l packed f other readable g there);
                  numbers = rw lb (sym ex ∙ yes.0);
                  types = λ i m. ap (λ (u : List ℕ). get_or u i 0) eb ∙ get_or-take g.params k i 0 (omega (arith, lb)) ∙ types yes.0 i (omega (arith, lb));
                  whole = eqb-true (length o % 8) 0 size.0;
                  same = rw lb (eqb-true (length a) (g.params * length o) size.1);
                  one = one;
                }
