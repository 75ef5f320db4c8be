-- The table of nodes, filled from the last label to the first.
use Prim.Native.Nat.{ℕ, suc, ◌+◌, ◌*◌, ◌-◌, ◌≤◌, ◌<◌}
use mathlib.Core.Path.{◌≡◌, refl, ap, ◌∙◌, sym, subst}
use mathlib.Core.Logic.{◌≢◌}
use native.Mathlib.Omega.{arith}
use mathlib.Core.Option.{some}
use mathlib.Core.List.{List}
use lib.ListN.{length, get_or, set, length-set}
use lib.Seq.{get_or-set_same, get_or-set_other}
use lib.Dec.{eqb, ltb}
use Rattle.rules.specs.Bytes.{word}
use Rattle.rules.specs.Tables.{label_of, body_end, module_of, label_count}
use Rattle.rules.specs.ModuleFile.{refusal, labels, code_length, read, bodies_in, tables_in, labels_in, code_in}
use Rattle.format.specs.declared.Sections.{Sections}
use Rattle.format.specs.Layout.{Packed}
use Rattle.soundness.specs.Tests.{decide, eqb_is, eqb_isnt, ltb_is, ltb_isnt, ltb_yes}
use Rattle.soundness.specs.Readable.{label_is, place_inside, orderly}
use Rattle.soundness.specs.Cutting.{label_count_lem, code_length_lem, good_file}
use Rattle.reader.proofs.Records.{label_word}
use Rattle.nodes.specs.Nodes.{place_of, owner_of, Tabled}

-- label k of a module that can be read
pub label_at : (s : List ℕ) (e : refusal s ≡ 0) (k : ℕ) → k < labels s → (read s).label k ≡ some (owner_of s k, place_of s k)
unfolding module_of label_of
label_at s e k h = rw (ltb_yes k (label_count (labels_in s)) (omega (arith, label_count_lem s e))) refl

pub label_in_code : (s : List ℕ) (e : refusal s ≡ 0) (k : ℕ) → k < labels s → place_of s k < code_length s
label_in_code s e k h =
    let q : (read s).label k ≡ some (owner_of s k, place_of s k) = label_at s e k h in
    let x = label_is (tables_in s) (good_file s e) k (owner_of s k) (place_of s k) q in
    let p : place_of s k < body_end (bodies_in s) (owner_of s k) = x.1.2 in
    let z = place_inside (tables_in s) (good_file s e) (owner_of s k) (place_of s k) x.1.0 ((orderly (tables_in s) (good_file s e)).lands k (owner_of s k) (place_of s k) q) in
    let y : body_end (bodies_in s) (owner_of s k) ≤ length (code_in s) = z.2 in omega (arith, code_length_lem s e)

-- the word that holds a label's place
pub place_word : (s : List ℕ) (c : Sections) → Packed s c → (k : ℕ) → k < c.labels → word 4 s (c.targets + 8 * k + 4) ≡ place_of s k
place_word s c p k h = sym (label_word s c p k 4 h (omega arith))

-- ---- the labels from i on are in the table

pub record Filled (s : List ℕ) (i : ℕ) (table : List ℕ) : Type 0 where
  pub wide : code_length s < length table
  pub node : (q k : ℕ) → get_or table q 0 ≡ suc k → (k < labels s) × (place_of s k ≡ q)
  pub found : (k : ℕ) → i ≤ k → k < labels s → (j : ℕ) × (get_or table (place_of s k) 0 ≡ suc j) × (j ≤ k)

pub filled_none : (s table : List ℕ) → code_length s < length table → ((q : ℕ) → get_or table q 0 ≡ 0) → Filled s (labels s) table
filled_none s table w z =
    record {
      wide = w;
      node = λ q k h. let y : 0 ≡ suc k = sym (z q) ∙ h in absurd (omega arith);
      found = λ k l m. absurd (omega arith);
    }

pub filled_more : (s : List ℕ) (e : refusal s ≡ 0) (i : ℕ) (table : List ℕ) → i < labels s → Filled s (suc i) table → Filled s i (set table (place_of s i) (suc i))
filled_more s e i table h f =
    record {
      wide = let x : code_length s < length table = f.wide in let y : length (set table (place_of s i) (suc i)) ≡ length table = length-set table (place_of s i) (suc i) in omega arith;
      node = λ q k m. decide (eqb q (place_of s i))
          (λ y. let z : q ≡ place_of s i = eqb_is q (place_of s i) y in
          let v : suc i ≡ suc k = sym (at_place q z) ∙ m in
          let w : i ≡ k = omega arith in (omega arith, ap (place_of s) (sym w) ∙ sym z))
          (λ y. f.node q k (sym (get_or-set_other table (place_of s i) q (suc i) 0 (eqb_isnt q (place_of s i) y)) ∙ m));
      found = λ k l m. decide (eqb (place_of s k) (place_of s i))
          (λ y. (i, at_place (place_of s k) (eqb_is (place_of s k) (place_of s i) y), l))
          (λ y. let n : place_of s k ≢ place_of s i = eqb_isnt (place_of s k) (place_of s i) y in
          let x : (j : ℕ) × (get_or table (place_of s k) 0 ≡ suc j) × (j ≤ k) = f.found k (later k l n) m in
          (x.0, get_or-set_other table (place_of s i) (place_of s k) (suc i) 0 n ∙ x.1, x.2));
    }
  where
    at_place : (q : ℕ) → q ≡ place_of s i → get_or (set table (place_of s i) (suc i)) q 0 ≡ suc i
    at_place q z =
        let x : code_length s < length table = f.wide in
        let y : place_of s i < code_length s = label_in_code s e i h in
        ap (λ (p : ℕ). get_or (set table (place_of s i) (suc i)) p 0) z ∙ get_or-set_same table (place_of s i) (suc i) 0 (omega arith)

    later : (k : ℕ) → i ≤ k → place_of s k ≢ place_of s i → suc i ≤ k
    later k l n = decide (ltb i k) (λ y. ltb_is i k y) (λ y. let w : k ≤ i = ltb_isnt i k y in let z : k ≡ i = omega arith in absurd (n (ap (place_of s) z)))

pub filled_all : (s table : List ℕ) → Filled s 0 table → Tabled s table
filled_all s table f = record { wide = f.wide; node = f.node; found = λ k h. f.found k (omega arith) h }

-- ---- as the loop counts

pub filled_first : (s table : List ℕ) (c : Sections) → Packed s c → c.extent < length table → ((q : ℕ) → get_or table q 0 ≡ 0) → Filled s c.labels table
filled_first s table c p w z =
    let a : c.labels ≡ labels s = p.labels_is in
    let b : c.extent ≡ code_length s = p.extent_is in
    subst (λ (n : ℕ). Filled s n table) (sym a) (filled_none s table (omega arith) z)

pub filled_next : (s : List ℕ) (e : refusal s ≡ 0) (i : ℕ) (table : List ℕ) (p : ℕ) → 0 < i → i ≤ labels s → p ≡ place_of s (i - 1) → Filled s i table
    → Filled s (i - 1) (set table p (i - 1 + 1))
filled_next s e i table p h l q f =
    let a : i ≡ suc (i - 1) = omega arith in
    let b : i - 1 + 1 ≡ suc (i - 1) = omega arith in
    subst (λ (n : ℕ). Filled s (i - 1) (set table n (i - 1 + 1))) (sym q)
    (subst (λ (n : ℕ). Filled s (i - 1) (set table (place_of s (i - 1)) n)) (sym b) (filled_more s e (i - 1) table (omega arith) (subst (λ (n : ℕ). Filled s n table) a f)))

pub place_fits : (s : List ℕ) (e : refusal s ≡ 0) (i k : ℕ) (table : List ℕ) (p : ℕ) → k < labels s → p ≡ place_of s k → Filled s i table → p < length table
place_fits s e i k table p h q f =
    let x : code_length s < length table = f.wide in
    let y : place_of s k < code_length s = label_in_code s e k h in omega arith
