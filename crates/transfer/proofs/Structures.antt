-- What `new`, `gcnew` and `flea` do, way by way, and the structures of a file.
use mathlib.Core.Path.{◌≡◌, refl, sym, ap, ◌∙◌, subst}
use mathlib.Core.Logic.{◌⊎◌, inl, inr}
use Prim.Native.Nat.{ℕ, ◌+◌, ◌-◌, ◌*◌, ◌%◌, ◌≤◌, ◌<◌}
use native.Mathlib.Omega.{arith}
use mathlib.Core.Bool.{Bool, true, false, ◌&&◌, ◌||◌}
use mathlib.Core.Option.{Option, none, some}
use mathlib.Core.List.{List, ◌∷◌}
use lib.ListN.{length}
use lib.Dec.{ltb, leb, eqb}
use borrow.Author.Tests.{ne_eqb}
use Rattle.rules.specs.Bytes.{byte, word, maybe, within}
use Rattle.rules.specs.declared.Num.{Num}
use Rattle.rules.specs.declared.Num.TheVariants.{Int as int, Long as long, Double as double}
use Rattle.rules.specs.declared.Instruction.TheVariants.{New, Flea}
use Rattle.rules.specs.Instructions.{Pointee, void, cell, struct, pointee_of, Ty, ptr, num_kind, num_of, pointer_byte, ty_of, type_byte}
use Rattle.rules.specs.Tables.{structure_at, structure_of, Body, Module, number_type, field_of, fields_from, params_from, module_of}
use Rattle.rules.specs.ModuleFile.{read, refusal, edition, structures, constants_at, structures_at, structures_in}
use Rattle.rules.specs.Stack.{at}
use Rattle.rules.specs.Heap.{Shape, single, fields, shape_of, pointee_in}
use Rattle.rules.specs.Typing.{lists, Flow, judge, to, as_struct, as_struct_ptr, as_fields}
use Rattle.reader.proofs.Records.{byte_cut}
use Rattle.soundness.specs.Readable.{GoodShape, good_shape, pointer_ty, managed_ty, pointer_back}
use Rattle.soundness.specs.Cutting.{packed, structure_count_lem, structures_good}
use Rattle.soundness.specs.Tests.{decide, false_true, and_both, or_neither, eqb_is, leb_is, leb_yes, leb_no, ltb_is, ltb_isnt, ltb_no, ltb_yes}
use Rattle.records.specs.Record.{lists_of, Holds, Judged}
use Rattle.records.specs.Families.{Retyped}
use Rattle.records.specs.Laws.{kind_low, number_byte, pointer_type_lem, read_in, read_past, no_operand, top_operand, top_type, breaks, arrives}
use Rattle.records.specs.declared.Transfer.{Transfer}
use Rattle.records.specs.declared.Transfer.TheVariants.{Breaks, Falls}
use Rattle.transfer.specs.Transfers.{Judges, Pushes, made, Numbered, field_type}
use Rattle.transfer.proofs.Constants.{number_of, number_kind}

-- ---- type numbers

some_kind : (k : ℕ) → number_type k ≡ true → (τ : Num) × (k ≡ num_kind τ)
some_kind k y =
    decide (eqb k 3) (λ a. (int, eqb_is k 3 a)) (λ a.
    decide (eqb k 4) (λ d. (long, eqb_is k 4 d)) (λ d. (double, eqb_is k 6 (rw (a, d) at y))))

no_kind : (k : ℕ) → number_type k ≡ false → num_of k ≡ none
no_kind k f =
    let x = or_neither (eqb k 3 || eqb k 4) (eqb k 6) f in
    let y = or_neither (eqb k 3) (eqb k 4) x.0 in
    rw (y.0, y.1, x.1) refl

-- what `new` takes is small
pub made_low : (z k : ℕ) → z ≤ 16 → made z k ≡ true → k < 26
made_low z k few y =
    decide (number_type k) (λ w. let x = some_kind k w in let l = kind_low x.0 in let e = x.1 in omega arith)
    (λ w. let l = ltb_is k (10 + z) (and_both (leb 10 k) (ltb k (10 + z)) (rw w at y)).1 in omega arith)

-- so is the type of a field
pub field_low : (t : ℕ) (m : Module) (j n : ℕ) → t ≡ field_type m j n → t ≤ 6
field_low t m j n is = subst (λ (k : ℕ). k ≤ 6) (sym is) (of (m.structure j))
  where
    one : (o : Option Num) → maybe o 0 num_kind ≤ 6
    one none = omega arith
    one (some τ) = (kind_low τ).1

    of : (o : Option (List Num)) → maybe o 0 (λ fs. maybe (at fs n) 0 num_kind) ≤ 6
    of none = omega arith
    of (some fs) = one (at fs n)

-- ---- the bytes of pointers, by what they point to

pointer_of : (g : Bool) (n : ℕ) → n < 64 → ty_of (pointer_byte g + n) ≡ ptr g (pointee_of n)
pointer_of false n l = let e : 128 + n - 128 ≡ n = omega arith in pointer_ty (128 + n) (omega arith) (omega arith) ∙ ap (λ (k : ℕ). ptr false (pointee_of k)) e
pointer_of true n l = let e : 192 + n - 192 ≡ n = omega arith in managed_ty (192 + n) (omega arith) ∙ ap (λ (k : ℕ). ptr true (pointee_of k)) e

structure_of_lem : (n : ℕ) → 10 ≤ n → pointee_of n ≡ struct n
structure_of_lem n l = rw (ne_eqb n 0 (λ e. omega arith), ne_eqb n 3 (λ e. omega arith), ne_eqb n 4 (λ e. omega arith), ne_eqb n 6 (λ e. omega arith)) refl

-- back from a byte: what it points to are its low six bits
byte_parts : (t : ℕ) → 128 ≤ t → t < 256 → (g : Bool) × (t ≡ pointer_byte g + t % 64)
byte_parts t l u =
    decide (ltb t 192) (λ y. let h = ltb_is t 192 y in (false, omega arith)) (λ y. let h = ltb_isnt t 192 y in (true, omega arith))

-- ---- new and gcnew

module _ (m : Module) (z : ℕ) (numbered : Numbered m z) (b : Body) (g : Bool) (n q : ℕ) (r : List ℕ) where
  abbrev leaves : Ty → Flow
  leaves t = to q (lists_of r).locals (t ∷ (lists_of r).operands)

  -- the flow, by the structure of this number
  abbrev of_structure : Option (List Num) → Flow
  of_structure o = maybe (maybe o none (λ fs. some (fields fs))) none (λ x. leaves (ptr g (pointee_in n x)))

  new_as : number_type n ≡ false → judge m b (New g n) q (lists_of r).locals (lists_of r).operands ≡ of_structure (m.structure n)
  unfolding shape_of
  new_as f = rw (no_kind n f) refl

  pub new_none : made z n ≡ false → Holds r → Judges m b (New g n) q r Breaks r
  new_none f h =
      let x = or_neither (number_type n) (leb 10 n && ltb n (10 + z)) f in
      breaks m b q _ r h (new_as x.0 ∙ go (m.structure n) (numbered n ∙ x.1))
    where
      go : (o : Option (List Num)) → maybe o false (λ fs. true) ≡ false → of_structure o ≡ none
      go none e = refl
      go (some fs) e = false_true (sym e)

  new_is : z ≤ 16 → made z n ≡ true → judge m b (New g n) q (lists_of r).locals (lists_of r).operands ≡ leaves (ty_of (pointer_byte g + n))
  unfolding shape_of
  new_is few y =
      decide (number_type n)
      (λ w. let x = some_kind n w in rw (number_of n x.0 x.1) (ap leaves (sym (ap (λ (k : ℕ). ty_of (pointer_byte g + k)) x.1 ∙ pointer_type_lem g x.0))))
      (λ w.
      let d : (leb 10 n && ltb n (10 + z)) ≡ true = rw w at y in
      let l = leb_is 10 n (and_both (leb 10 n) (ltb n (10 + z)) d).0 in
      let u = made_low z n few y in
      new_as w ∙ go (m.structure n) (numbered n ∙ d) ∙ ap leaves (sym (pointer_of g n (omega arith) ∙ ap (ptr g) (structure_of_lem n l))))
    where
      go : (o : Option (List Num)) → maybe o false (λ fs. true) ≡ true → of_structure o ≡ leaves (ptr g (struct n))
      go none e = false_true e
      go (some fs) e = refl

  pub new_pushes : z ≤ 16 → made z n ≡ true → (k : ℕ) → k ≡ pointer_byte g → (a : Transfer) (r' : List ℕ) → Pushes (k + n) q r a r'
      → Judges m b (New g n) q r a r'
  new_pushes few y k is a r' p =
      let e : ty_of (k + n) ≡ ty_of (pointer_byte g + n) = ap (λ (j : ℕ). ty_of (j + n)) is in
      subst (λ (x : Flow). Judged m b q x a r') (ap leaves e ∙ sym (new_is few y)) (p m b)

-- ---- the structures of a file

pub edition_read : (s : List ℕ) → eqb (read s).edition 4 ≡ eqb (edition s) 4
unfolding module_of
edition_read s = refl

pub none_declared : (s : List ℕ) → eqb (edition s) 4 ≡ false → 0 ≡ structures s
none_declared s f = rw f refl

pub some_declared : (s : List ℕ) → eqb (edition s) 4 ≡ true → word 4 s 48 ≡ structures s
some_declared s y = rw y refl

module _ (s : List ℕ) (e : refusal s ≡ 0) where
  pub header_long : 48 ≤ length s
  header_long = decide (eqb (edition s) 4) (λ y. let w = (packed s e).whole in let h : constants_at s ≡ 56 = rw y refl in omega arith) (λ y. let w = (packed s e).whole in let h : constants_at s ≡ 48 = rw y refl in omega arith)

  pub fourth_long : eqb (edition s) 4 ≡ true → 56 ≤ length s
  fourth_long y = let w = (packed s e).whole in let h : constants_at s ≡ 56 = rw y refl in omega arith

  structure_as : (k : ℕ) → (read s).structure k ≡ within (leb 10 k && ltb k (10 + structures s)) (structure_of (structures_in s) (k - 10))
  unfolding module_of
  structure_as k = ap (λ (z : ℕ). within (leb 10 k && ltb k (10 + z)) (structure_of (structures_in s) (k - 10))) (structure_count_lem s e)

  pub file_numbered : (z : ℕ) → z ≡ structures s → Numbered (read s) z
  file_numbered z is k = rw (is, structure_as k) (go (leb 10 k && ltb k (10 + structures s)))
    where
      go : (x : Bool) → maybe (within x (structure_of (structures_in s) (k - 10))) false (λ fs. true) ≡ x
      go true = refl
      go false = refl

  -- structure i, counted from 0
  module _ (i : ℕ) where
    pub field_none : structures s ≤ i → (n : ℕ) → field_type (read s) (10 + i) n ≡ 0
    field_none l n = rw (structure_as (10 + i), leb_yes 10 (10 + i) (omega arith), ltb_no (10 + i) (10 + structures s) (omega arith)) refl

    module _ (there : i < structures s) where
      pub some_fourth : eqb (edition s) 4 ≡ true
      some_fourth = decide (eqb (edition s) 4) (λ y. y) (λ y. let z : structures s ≡ 0 = rw y refl in absurd (omega arith))

      listed : (read s).structure (10 + i) ≡ some (structure_of (structures_in s) i)
      listed =
          let z : 10 + i - 10 ≡ i = omega arith in
          structure_as (10 + i) ∙ rw (leb_yes 10 (10 + i) (omega arith), ltb_yes (10 + i) (10 + structures s) (omega arith), z) refl

      shape : GoodShape (structures_in s) i
      shape = good_shape (structures_in s) (structures_good s e) i (let m = structure_count_lem s e in omega arith)

      -- the structures begin at w
      module _ (w : ℕ) (begins : w ≡ word 4 s 52) where
        abbrev here : ℕ
        here = w + 12 * i

        pub inside : here + 12 ≤ length s
        inside = let u = (packed s e).structures_at_lem some_fourth in let v = (packed s e).whole in omega arith

        byte_at : (j : ℕ) → j < 12 → byte (structures_in s) (structure_at i + j) ≡ byte s (here + j)
        byte_at j l =
            let q : structures_at s + (structure_at i + j) ≡ here + j = let u = (packed s e).structures_at_lem some_fourth in omega arith in
            byte_cut s (structures_at s) (12 * structures s) (structure_at i + j) (omega arith) ∙ ap (byte s) q

        count_is : byte (structures_in s) (structure_at i) ≡ byte s here
        count_is =
            let u : structure_at i + 0 ≡ structure_at i = omega arith in
            let v : here + 0 ≡ here = omega arith in
            ap (byte (structures_in s)) (sym u) ∙ byte_at 0 (omega arith) ∙ ap (byte s) v

        pub few_fields : byte s here ≤ 8
        few_fields = subst (λ (n : ℕ). n ≤ 8) count_is shape.few_fields

        abbrev type_of : ℕ → Num
        type_of j = field_of (byte (structures_in s) (structure_at i + 1 + j))

        pub field_past : (n : ℕ) → byte s here ≤ n → field_type (read s) (10 + i) n ≡ 0
        unfolding structure_of
        field_past n l =
            let x = read_past type_of (fields_from (structures_in s) (structure_at i + 1)) refl (λ k. refl) (byte (structures_in s) (structure_at i)) n (let k = count_is in omega arith) in
            rw (listed, x) refl

        pub field_there : (n : ℕ) → n < byte s here → field_type (read s) (10 + i) n ≡ byte s (here + 1 + n)
        unfolding structure_of
        field_there n l =
            let less : n < byte (structures_in s) (structure_at i) = let k = count_is in omega arith in
            let y = read_in type_of (fields_from (structures_in s) (structure_at i + 1)) refl (λ k. refl) (byte (structures_in s) (structure_at i)) n less in
            let x = number_kind (byte (structures_in s) (structure_at i + 1 + n)) (shape.field_type_lem n less) in
            let a : structure_at i + (1 + n) ≡ structure_at i + 1 + n = omega arith in
            let b : here + (1 + n) ≡ here + 1 + n = omega arith in
            let z : byte (structures_in s) (structure_at i + 1 + n) ≡ byte s (here + 1 + n) =
            ap (byte (structures_in s)) (sym a) ∙ byte_at (1 + n) (let f = few_fields in omega arith) ∙ ap (byte s) b in
            rw (listed, y) (same x.0 x.1 ∙ z)
          where
            same : (τ : Num) → byte (structures_in s) (structure_at i + 1 + n) ≡ num_kind τ → num_kind (type_of n) ≡ byte (structures_in s) (structure_at i + 1 + n)
            same τ e = rw (number_of (byte (structures_in s) (structure_at i + 1 + n)) τ e) (sym e)

  -- ---- flea

  -- k goes on with the type of field n of what has the type number j
  module _ (n : ℕ) (k : Num → Flow) where
    abbrev in_shape : Option Shape → Flow
    in_shape o = maybe o none (λ z. as_fields z (λ fs. maybe (at fs n) none k))

    abbrev in_structure : Option (List Num) → Flow
    in_structure o = in_shape (maybe o none (λ fs. some (fields fs)))

    -- numbers have no fields, and below 10 there is no structure
    low_none : (j : ℕ) → j < 10 → in_shape (shape_of (read s) j) ≡ none
    unfolding shape_of
    low_none j l = go (num_of j)
      where
        go : (o : Option Num) → in_shape (maybe o (maybe ((read s).structure j) none (λ fs. some (fields fs))) (λ τ. some (single τ))) ≡ none
        go none = rw (structure_as j, leb_no 10 j l) refl
        go (some τ) = refl

    high_is : (j : ℕ) → 10 ≤ j → in_shape (shape_of (read s) j) ≡ in_structure ((read s).structure j)
    unfolding shape_of
    high_is j l = rw (ne_eqb j 3 (λ e. omega arith), ne_eqb j 4 (λ e. omega arith), ne_eqb j 6 (λ e. omega arith)) refl

    -- the type of the field, 0 where there is none
    abbrev typed : Option (List Num) → ℕ
    typed o = maybe o 0 (λ fs. maybe (at fs n) 0 num_kind)

    abbrev Absent : Option (List Num) → Type 0
    Absent o = (typed o ≡ 0) × (in_structure o ≡ none)

    abbrev Present : Option (List Num) → Type 0
    Present o = (τ : Num) × (typed o ≡ num_kind τ) × (in_structure o ≡ k τ)

    by_field : (fs : List Num) (o : Option Num) → at fs n ≡ o → Absent (some fs) ⊎ Present (some fs)
    by_field fs none e = inl (rw e refl, rw e refl)
    by_field fs (some τ) e = inr (τ, rw e refl, rw e refl)

    by_structure : (o : Option (List Num)) → Absent o ⊎ Present o
    by_structure none = inl (refl, refl)
    by_structure (some fs) = by_field fs (at fs n) refl

  module _ (b : Body) (n q : ℕ) (r : List ℕ) (h : Holds r) (m : ℕ) (count : m ≡ byte r 2) where
    pub flea_empty : m < 1 → Judges (read s) b (Flea n) q r Breaks r
    flea_empty l = breaks (read s) b q _ r h (rw (no_operand r m count l) refl)

    module _ (has : 1 ≤ m) where
      abbrev points : Bool → Num → Flow
      points g τ = to q (lists_of r).locals (ptr g (cell τ) ∷ params_from r 32 (m - 1))

      flea_is : judge (read s) b (Flea n) q (lists_of r).locals (lists_of r).operands
          ≡ as_struct_ptr (ty_of (byte r (31 + m))) (λ g j. in_shape n (points g) (shape_of (read s) j))
      flea_is = rw (top_operand r m count has) refl

      pub flea_number : byte r (31 + m) < 128 → Judges (read s) b (Flea n) q r Breaks r
      flea_number l = let x = number_byte (byte r (31 + m)) (top_type r m count h has) l in breaks (read s) b q _ r h (flea_is ∙ rw x.1 refl)

      -- a pointer to what has the type number k
      module _ (high : 128 ≤ byte r (31 + m)) (fits : byte r (31 + m) < 256) (k : ℕ) (low_bits : k ≡ byte r (31 + m) % 64) where
        abbrev managed : Bool
        managed = (byte_parts (byte r (31 + m)) high fits).0

        flea_base : byte r (31 + m) - byte r (31 + m) % 64 ≡ pointer_byte managed
        flea_base = let e : byte r (31 + m) ≡ pointer_byte managed + byte r (31 + m) % 64 = (byte_parts (byte r (31 + m)) high fits).1 in omega arith

        flea_type : ty_of (byte r (31 + m)) ≡ ptr managed (pointee_of k)
        flea_type =
            let e : byte r (31 + m) ≡ pointer_byte managed + k = (byte_parts (byte r (31 + m)) high fits).1 ∙ ap (λ (j : ℕ). pointer_byte managed + j) (sym low_bits) in
            ap ty_of e ∙ pointer_of managed k (omega arith)

        flea_to : judge (read s) b (Flea n) q (lists_of r).locals (lists_of r).operands
            ≡ as_struct (pointee_of k) (λ j. in_shape n (points managed) (shape_of (read s) j))
        flea_to = flea_is ∙ rw flea_type refl

        pub flea_low : k < 10 → Judges (read s) b (Flea n) q r Breaks r
        flea_low l = breaks (read s) b q _ r h (flea_to ∙ go (pointee_of k) refl)
          where
            go : (w : Pointee) → pointee_of k ≡ w → as_struct w (λ j. in_shape n (points managed) (shape_of (read s) j)) ≡ none
            go void z = refl
            go (cell τ) z = refl
            go (struct j) z =
                let e : byte r (31 + m) ≡ pointer_byte managed + j = sym (pointer_back (byte r (31 + m)) high) ∙ ap type_byte (flea_type ∙ ap (ptr managed) z) in
                let f = flea_base in low_none n (points managed) j (omega arith)

        -- the structure i, counted from 0
        module _ (some-structure : 10 ≤ k) (i : ℕ) (at_i : i ≡ k - 10) where
          abbrev structure : Option (List Num)
          structure = (read s).structure (10 + i)

          flea_in : judge (read s) b (Flea n) q (lists_of r).locals (lists_of r).operands ≡ in_structure n (points managed) structure
          flea_in =
              let j : k ≡ 10 + i = omega arith in
              flea_to ∙ rw (structure_of_lem k some-structure, j) (high_is n (points managed) (10 + i) (omega arith))

          pub flea_none : field_type (read s) (10 + i) n ≡ 0 → Judges (read s) b (Flea n) q r Breaks r
          flea_none z = breaks (read s) b q _ r h (flea_in ∙ go (by_structure n (points managed) structure))
            where
              go : Absent n (points managed) structure ⊎ Present n (points managed) structure → in_structure n (points managed) structure ≡ none
              go (inl x) = x.1
              go (inr x) = let k = kind_low x.0 in let y = x.1 in absurd (omega arith)

          pub flea_falls : (t : ℕ) → t ≡ field_type (read s) (10 + i) n → (t ≡ 0 → ⊥) → (r' : List ℕ) → Retyped r (byte r (31 + m) - byte r (31 + m) % 64 + t) r'
              → Judges (read s) b (Flea n) q r (Falls q) r'
          flea_falls t is ne r' p = go (by_structure n (points managed) structure)
            where
              go : Absent n (points managed) structure ⊎ Present n (points managed) structure → Judges (read s) b (Flea n) q r (Falls q) r'
              go (inl x) = absurd (ne (is ∙ x.0))
              go (inr x) =
                  let e : byte r (31 + m) - byte r (31 + m) % 64 + t ≡ pointer_byte managed + num_kind x.0 = let f = flea_base in let y : t ≡ num_kind x.0 = is ∙ x.1 in omega arith in
                  let z : ty_of (byte r (31 + m) - byte r (31 + m) % 64 + t) ≡ ptr managed (cell x.0) = ap ty_of e ∙ pointer_type_lem managed x.0 in
                  arrives (read s) b q _ r' p.holds _
                  (p.shows (m - 1) (omega arith) ∙ ap (λ (y : Ty). lists (lists_of r).locals (y ∷ params_from r 32 (m - 1))) z) (flea_in ∙ x.2)
