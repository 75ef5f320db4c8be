-- A whole line, and its module.
use mathlib.Core.Path.{◌≡◌, refl, sym, ap, ◌∙◌}
use Prim.Native.Nat.{ℕ, zero, suc, ◌+◌, ◌*◌, ◌≤◌, ◌<◌}
use native.Mathlib.Omega.{arith}
use mathlib.Core.Bool.{false}
use mathlib.Core.Option.{none, some}
use mathlib.Core.List.{List, [], ◌∷◌, ◌++◌}
use lib.ListN.{length, take, drop}
use lib.Seq.{length-take-le}
use lib.Dec.{ltb}
use Rattle.soundness.specs.Tests.{ltb_yes, ltb_no, none_some, some_inj}
use Rattle.soundness.specs.Saves.{length_file}
use Rattle.rules.specs.Bytes.{written}
use Rattle.rules.specs.Tables.{Tables, tables}
use Rattle.rules.specs.AnswerTypes.{Unwritten, Written}
use Rattle.rules.specs.Writing.{wrote, file_length, file_of, delivered}
use Rattle.rules.specs.Grammar.{Tree, depth}
use Rattle.rules.specs.Reading.{Part, sum, whole_of, whole, reading, enough}
use Rattle.rules.specs.Formula.{answer, postfix, assembled, code_bytes, need, formula}
use Rattle.grammar.specs.Scanned.{Stopped, Reads}
use Rattle.writer.specs.Output.{filled_with}
use Rattle.formula.specs.Tokens.{Skipped}
use Rattle.std.specs.Prelude.{Some, None}
use Rattle.formula.specs.Readers.{Cursor, Wrote, SumIs, Signed}
use Rattle.formula.specs.Lines.{one_function, Unread, LineIs}
use Rattle.formula.proofs.ReaderLaws.{assembled_append}

abbrev pub begin : ℕ → Cursor
begin at = record { at = at; code = 0; numbers = 0; most = 0 }

-- what is read whole is read up to the end
whole_some : (p : Part) (t : Tree) → whole p ≡ some t → p ≡ some (t, [])
whole_some none t e = none_some e
whole_some (some x) t e = go x.0 x.1 e
  where
    go : (u : Tree) (r : List ℕ) → whole_of u r ≡ some t → ◌≡◌ {A = Part} (some (u, r)) (some (t, []))
    go u [] q = ap (λ (v : Tree). some (v, [])) (some_inj u t q)
    go u (b ∷ r) q = none_some q

-- ---- the end of a line

past_end : (n : ℕ) (s : List ℕ) → length s ≤ n → drop n s ≡ []
past_end zero [] h = refl
past_end (suc n) [] h = refl
past_end zero (b ∷ s) h = absurd (omega (arith, h))
past_end (suc n) (b ∷ s) h = past_end n s (omega (arith, h))

some_left : (n : ℕ) (s : List ℕ) → n < length s → drop n s ≡ [] → ⊥
some_left n [] h e = omega (arith, h)
some_left zero (b ∷ s) h e = omega (arith, ap (λ (x : List ℕ). length x) e)
some_left (suc n) (b ∷ s) h e = some_left n s (omega (arith, h)) e

module _ (line code pool : List ℕ) (at : ℕ) (p : Skipped line 0 at) (short : length line ≤ 256) where
  -- the reading of a line is what the sum from its first byte on gives, where nothing is left
  reading_is : reading line ≡ whole (sum (enough line) (drop at line))
  unfolding reading
  reading_is = sym (ap (λ (x : List ℕ). whole (sum (enough line) x)) p.rest)

  summed : (t : Tree) → reading line ≡ some t → sum (enough line) (drop at line) ≡ some (t, [])
  summed t e = whole_some (sum (enough line) (drop at line)) t (sym reading_is ∙ e)

  pub line_bad : (code' pool' code'' pool'' : List ℕ) → SumIs line code pool (begin at) 0 0 code' pool' None → LineIs line code'' pool'' None
  line_bad code' pool' code'' pool'' y t e = omega (arith, y (enough line) (omega arith) t [] (summed t e))

  module _ (code' pool' : List ℕ) (c : Cursor) (y : SumIs line code pool (begin at) 0 0 code' pool' (Some c)) where
    pub line_room : length code ≡ 771 → c.code < length code'
    line_room l = omega (arith, y.1.code_in, y.1.upto, y.1.code_room)

    -- bytes are left
    pub line_left : (code'' pool'' : List ℕ) → c.at < length line → LineIs line code'' pool'' None
    line_left code'' pool'' l t e =
        absurd (some_left c.at line l (ap (λ (x : Tree × List ℕ). x.1) (some_inj (y.0, drop c.at line) (t, []) (sym (y.2 (enough line) (omega arith)) ∙ summed t e))))

    pub line_read : (code'' : List ℕ) (r : Cursor) → length line ≤ c.at → Signed code' c 40 code'' r → LineIs line code'' pool' (Some r)
    line_read code'' r l g =
        let w : Wrote y.0 line code pool (begin at) 0 0 code' pool' c = y.1 in
        let q : code_bytes y.0 ≡ assembled (postfix 0 y.0) ++ (40 ∷ []) = assembled_append (postfix 0 y.0) (answer ∷ []) in (
          y.0,
          reading_is ∙ ap (λ (x : Part). whole x) (y.2 (enough line) (omega arith)) ∙ ap (λ (x : List ℕ). whole_of y.0 x) (past_end c.at line l),
          omega (arith, w.shallow),
          rw g.cursor
              (record {
                code_is = rw q (g.code_is ∙ ap (λ (x : List ℕ). x ++ (40 ∷ [])) w.code_is);
                pool_is = w.pool_is;
                most = omega (arith, w.most);
                few = omega (arith, w.pool_in, w.upto);
                short = omega (arith, w.code_in, w.upto);
              }),
        )

-- ---- the module

module _ (constants code out : List ℕ) where
  long : length (file_of (one_function constants code)) ≡ 68 + length constants + length code
  long = length_file (one_function constants code) ∙ omega arith

  pub module_short : length out < 68 + length constants + length code → wrote (Unwritten 16) out ≡ delivered (file_of (one_function constants code)) out
  module_short h = rw (long, ltb_yes (length out) (68 + length constants + length code) h) refl

  -- the record with the code's length in its place, no labels and no structures
  pub module_written : (record' out' : List ℕ) → 68 + length constants + length code ≤ length out
      → record' ≡ written 4 (0 ∷ 0 ∷ 0 ∷ 0 ∷ 0 ∷ 0 ∷ 0 ∷ 0 ∷ 3 ∷ 3 ∷ 3 ∷ 3 ∷ 3 ∷ 0 ∷ 0 ∷ 0 ∷ 0 ∷ 0 ∷ 0 ∷ 0 ∷ []) 4 (length code)
      → out' ≡ filled_with (tables 3 constants record' [] [] code 0) out → wrote (Written (68 + length constants + length code)) out' ≡ delivered (file_of (one_function constants code)) out
  unfolding written
  module_written record' out' h e q =
      let T : Tables = one_function constants code in
      let z : out' ≡ filled_with T out = q ∙ ap (λ (r : List ℕ). filled_with (tables 3 constants r [] [] code 0) out) e in
      let f : length (file_of T) ≡ file_length T = length_file T in
      let n : 68 + length constants + length code ≡ file_length T = omega arith in
      let l : file_length T ≤ length out = omega arith in
      rw (n, z, f, ltb_no (length out) (file_length T) l) refl

-- ---- the answer

-- the front of an array
pub record Front (n limit : ℕ) (s : List ℕ) : Type 0 where
  pub within : n ≤ length s
  pub long : n ≡ length (take n s)
  pub short : length (take n s) ≤ limit

pub front_of : (n limit : ℕ) (s : List ℕ) → n ≤ limit → length s ≡ limit → Front n limit s
front_of n limit s h e = let l : length (take n s) ≡ n = length-take-le n s (omega arith) in record { within = omega arith; long = sym l; short = omega arith }

pub formula_40 : (line out : List ℕ) → 256 < length line → wrote (Unwritten 40) out ≡ formula line out
unfolding formula
formula_40 line out h = rw (ltb_yes 256 (length line) h) refl

module _ (line : List ℕ) (h : length line ≤ 256) where
  fits : ltb 256 (length line) ≡ false
  fits = ltb_no 256 (length line) h

  pub formula_41 : (k : ℕ) → Stopped line k → (out : List ℕ) → wrote (Unwritten 41) out ≡ formula line out
  unfolding formula
  formula_41 k x out = rw (fits, x.0) refl

  pub formula_42 : (d : ℕ) → Reads line d → Unread line → (out : List ℕ) → wrote (Unwritten 42) out ≡ formula line out
  unfolding formula
  formula_42 d x y out = rw (fits, x.1, ltb_yes 16 (depth x.0) (y x.0 x.1)) refl

  module _ (out code pool : List ℕ) (c : Cursor) (y : LineIs line code pool (Some c)) where
    shallow : ltb 16 (depth y.0) ≡ false
    shallow = ltb_no 16 (depth y.0) y.2

    pub formula_43 : 32 < c.most → wrote (Unwritten 43) out ≡ formula line out
    unfolding formula
    formula_43 l = rw (fits, y.1, shallow, ltb_yes 32 (need y.0) (omega (arith, y.3.most))) refl

    pub formula_written : c.most ≤ 32 → delivered (file_of (one_function (take (12 * c.numbers) pool) (take c.code code))) out ≡ formula line out
    unfolding formula
    formula_written l = rw (fits, y.1, shallow, ltb_no 32 (need y.0) (omega (arith, y.3.most)), y.3.pool_is, y.3.code_is) refl
