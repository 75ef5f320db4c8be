-- Where the sections of an opened file stand; its parts as tables of the other edition; and the file of these, put part by part.
use Prim.Native.Nat.{ℕ, ◌+◌, ◌-◌, ◌*◌, ◌≤◌, ◌<◌}
use native.Mathlib.Omega.{arith}
use mathlib.Core.Path.{◌≡◌, refl, sym, ap, ap₂, ◌∙◌}
use mathlib.Core.Bool.{Bool}
use mathlib.Core.List.{List, [], ◌++◌, append_assoc, append-nil}
use lib.ListN.{length, take, drop, length-append}
use lib.Seq.{take_at, take-add, drop-drop}
use borrow.Rule.Slice.PartMut.{put_mid}
use Rattle.rules.specs.AnswerTypes.{Unwritten, Written}
use Rattle.rules.specs.Bytes.{cut, words, some_below}
use Rattle.rules.specs.Tables.{Tables, tables, header_size, function_size, function_count, structure_count}
use Rattle.rules.specs.ModuleFile.{edition, constants, functions, labels, code_length, constants_at, functions_at, labels_at, code_at, constants_in, functions_in, labels_in, code_in, entry_length, tables_in}
use Rattle.rules.specs.Writing.{header_words, header_of, file_length, file_of, table_refusal, wrote, write}
use Rattle.rules.specs.Converting.{to_fourth, to_third, fourth, third, raised, lowered, profiled, refusal_in, down_refusal, to_edition4, to_edition3}
use Rattle.format.specs.declared.Sections.{Sections}
use Rattle.format.specs.Layout.{Packed, Fits}
use Rattle.soundness.specs.Cutting.{good_file}
use Rattle.reader.proofs.Records.{constants_length, functions_length, labels_length, code_length_lem}
use Rattle.editions.specs.Conversions.{up_read, down_read}
use Rattle.writer.specs.Output.{filled_with}
use Rattle.writer.proofs.Laws.{section, header_length, short_is, written_is}
use Rattle.convert.proofs.Records.{raised_length, lowered_length}
use Rattle.convert.proofs.Down.{records_length, records_count}

-- ---- places

-- h is the length of the header, r that of a function record
record Places (h r : ℕ) (s : List ℕ) (c : Sections) : Type 0 where
  records_at : c.records ≡ h + 12 * c.constants
  targets_at : c.targets ≡ c.records + r * c.functions
  code_at_lem : c.code ≡ c.targets + 8 * c.labels
  ends : c.code + c.extent + 12 * c.structures ≡ length s

module _ (s : List ℕ) (c : Sections) (k : Packed s c) where
  places_third : edition s ≡ 3 → Places 48 20 s c
  places_third q =
      let h : header_size (edition s) ≡ 48 = rw q refl in
      let m : function_size (edition s) * functions s ≡ 20 * functions s = ap (λ (e : ℕ). function_size e * functions s) q in
      record { records_at = omega arith; targets_at = omega arith; code_at_lem = omega arith; ends = k.whole }

  places_fourth : edition s ≡ 4 → Places 56 24 s c
  places_fourth q =
      let h : header_size (edition s) ≡ 56 = rw q refl in
      let m : function_size (edition s) * functions s ≡ 24 * functions s = ap (λ (e : ℕ). function_size e * functions s) q in
      record { records_at = omega arith; targets_at = omega arith; code_at_lem = omega arith; ends = k.whole }

  -- edition 3 has no structures
  third_bare_lem : edition s ≡ 3 → c.structures ≡ 0
  third_bare_lem q = k.structures_is ∙ rw q refl

  third_length : edition s ≡ 3 → length (functions_in s) ≡ 20 * c.functions
  third_length q = functions_length s c k ∙ ap (λ (n : ℕ). n * c.functions) (k.stride_is ∙ rw q refl)

  third_count : edition s ≡ 3 → function_count 3 (functions_in s) ≡ c.functions
  third_count q = let l : length (functions_in s) ≡ 20 * c.functions = third_length q in omega arith

-- ---- what the code asks of these places: l bytes of the file, L of the output, n functions, records at r, labels at t

pub record UpPlaces (l r n t L : ℕ) : Type 0 where
  pub header : 56 ≤ L
  pub functions_at_lem : 56 ≤ r + 8
  pub records_at : 48 ≤ r
  pub labels_end : r + 8 + 24 * n ≤ L
  pub rest_at : r + 8 + 24 * n ≤ l + 8 + 4 * n
  pub rest_from : t ≤ l
  pub table : t - r ≡ 20 * n
  pub room : r + 8 + 24 * n - (r + 8) ≡ 24 * n
  pub rest : l + 8 + 4 * n - (r + 8 + 24 * n) ≡ l - t

up_places_of : (l r n t L cs : ℕ) → r ≡ 48 + 12 * cs → t ≡ r + 20 * n → t ≤ l → l + 8 + 4 * n ≤ L → UpPlaces l r n t L
up_places_of l r n t L cs e₁ e₂ e₄ h =
    record {
      header = omega arith;
      functions_at_lem = omega arith;
      records_at = omega arith;
      labels_end = omega arith;
      rest_at = omega arith;
      rest_from = omega arith;
      table = omega arith;
      room = omega arith;
      rest = omega arith;
    }

pub record DownPlaces (l r n t L : ℕ) : Type 0 where
  pub header : 48 ≤ L
  pub before : 8 ≤ r
  pub length_over : 8 ≤ l
  pub length_left : 4 * n ≤ l - 8
  pub functions_at_lem : 48 ≤ r - 8
  pub functions_end : r - 8 ≤ L
  pub records_at : 56 ≤ r
  pub labels_end : r - 8 + 20 * n ≤ L
  pub rest_at : r - 8 + 20 * n ≤ l - 8 - 4 * n
  pub rest_end : l - 8 - 4 * n ≤ L
  pub rest_from : t ≤ l
  pub table : t - r ≡ 24 * n
  pub room : r - 8 + 20 * n - (r - 8) ≡ 20 * n
  pub rest : l - 8 - 4 * n - (r - 8 + 20 * n) ≡ l - t

down_places_of : (l r n t L cs : ℕ) → r ≡ 56 + 12 * cs → t ≡ r + 24 * n → t ≤ l → l ≤ L + 8 + 4 * n → DownPlaces l r n t L
down_places_of l r n t L cs e₁ e₂ e₄ h =
    record {
      header = omega arith;
      before = omega arith;
      length_over = omega arith;
      length_left = omega arith;
      functions_at_lem = omega arith;
      functions_end = omega arith;
      records_at = omega arith;
      labels_end = omega arith;
      rest_at = omega arith;
      rest_end = omega arith;
      rest_from = omega arith;
      table = omega arith;
      room = omega arith;
      rest = omega arith;
    }

-- a part from the front on
pub from_front : (n : ℕ) → n - 0 ≡ n
from_front n = omega arith

under_end : (a b d x y l : ℕ) → b ≡ a + 8 * d → b + x + 12 * y ≡ l → a ≤ l
under_end a b d x y l p q = omega arith

module _ (s : List ℕ) (c : Sections) (k : Packed s c) where
  targets_inside : (h r : ℕ) → Places h r s c → c.targets ≤ length s
  targets_inside h r p = under_end c.targets c.code c.labels c.extent c.structures (length s) p.code_at_lem p.ends

  pub up_places : edition s ≡ 3 → (L : ℕ) → length s + 8 + 4 * c.functions ≤ L → UpPlaces (length s) c.records c.functions c.targets L
  up_places q L h =
      let p : Places 48 20 s c = places_third s c k q in
      up_places_of (length s) c.records c.functions c.targets L c.constants p.records_at p.targets_at (targets_inside 48 20 p) h

  pub down_places : edition s ≡ 4 → (L : ℕ) → length s ≤ L + 8 + 4 * c.functions → DownPlaces (length s) c.records c.functions c.targets L
  down_places q L h =
      let p : Places 56 24 s c = places_fourth s c k q in
      down_places_of (length s) c.records c.functions c.targets L c.constants p.records_at p.targets_at (targets_inside 56 24 p) h

  -- where only the file is looked at
  pub third_places : edition s ≡ 4 → DownPlaces (length s) c.records c.functions c.targets (length s)
  third_places q = down_places q (length s) (omega arith)

-- ---- the parts that are lent

part_is : (s : List ℕ) (a b a' n : ℕ) → a ≡ a' → b - a ≡ n → take (b - a) (drop a s) ≡ cut s a' n
part_is s a b a' n p q = ap (λ (m : ℕ). take m (drop a s)) q ∙ ap (λ (m : ℕ). take n (drop m s)) p

module _ (s : List ℕ) (c : Sections) (k : Packed s c) where
  functions_part : take (c.targets - c.records) (drop c.records s) ≡ functions_in s
  functions_part = part_is s c.records c.targets (functions_at s) (function_size (edition s) * functions s) k.records_is (omega arith)

  labels_part : take (c.code - c.targets) (drop c.targets s) ≡ labels_in s
  labels_part = part_is s c.targets c.code (labels_at s) (8 * labels s) k.targets_is (omega arith)

  code_part : take (c.code + c.extent - c.code) (drop c.code s) ≡ code_in s
  code_part = part_is s c.code (c.code + c.extent) (code_at s) (code_length s) k.code_is (omega arith)

  constants_part : (h : ℕ) → h ≡ header_size (edition s) → take (c.records - h) (drop h s) ≡ constants_in s
  constants_part h q = part_is s h c.records (constants_at s) (12 * constants s) q (omega arith)

  -- labels and code, which stand together
  rest_part : c.structures ≡ 0 → take (length s - c.targets) (drop c.targets s) ≡ labels_in s ++ code_in s
  rest_part z =
      let n : length s - c.targets ≡ 8 * labels s + code_length s = omega arith in
      part_is s c.targets (length s) (labels_at s) (8 * labels s + code_length s) k.targets_is n
      ∙ take-add (8 * labels s) (code_length s) (drop (labels_at s) s) ∙ ap (λ (x : List ℕ). labels_in s ++ take (code_length s) x) (drop-drop (8 * labels s) (labels_at s) s)

-- ---- the tables of edition 3 of a file of edition 4, in parts

module _ (s : List ℕ) (c : Sections) (k : Packed s c) (four : edition s ≡ 4) where
  lowered_part : (new : List ℕ) → new ≡ lowered c.functions (take (c.targets - c.records) (drop c.records s)) → new ≡ lowered (function_count 4 (functions_in s)) (functions_in s)
  lowered_part new q = q ∙ ap (lowered c.functions) (functions_part s c k) ∙ ap (λ (n : ℕ). lowered n (functions_in s)) (sym (records_count s c k four))

  lowered_size : length (lowered (function_count 4 (functions_in s)) (functions_in s)) ≡ 20 * c.functions
  lowered_size =
      let l : length (functions_in s) ≡ 24 * c.functions = records_length s c k four in
      let n : function_count 4 (functions_in s) ≡ c.functions = records_count s c k four in
      lowered_length (function_count 4 (functions_in s)) (functions_in s) (omega arith) ∙ omega arith

  pub profiles_lent : (b : Bool) → b ≡ some_below c.functions (profiled (take (c.targets - c.records) (drop c.records s)))
      → b ≡ some_below (function_count 4 (functions_in s)) (profiled (functions_in s))
  profiles_lent b q =
      q ∙ ap (λ (fs : List ℕ). some_below c.functions (profiled fs)) (functions_part s c k) ∙ ap (λ (n : ℕ). some_below n (profiled (functions_in s))) (sym (records_count s c k four))

  abbrev lent : List ℕ → List ℕ → Tables
  lent table new =
      tables 3 (take (c.records - 56) (drop 56 s)) (take (20 * c.functions - 0) (drop 0 (put_mid 0 (20 * c.functions - 0) table new)))
      (take (c.code - c.targets) (drop c.targets s)) (take (c.code + c.extent - (c.code + c.extent)) (drop (c.code + c.extent) s))
      (take (c.code + c.extent - c.code) (drop c.code s)) c.entry

  pub third_lent : (table new : List ℕ) → new ≡ lowered c.functions (take (c.targets - c.records) (drop c.records s)) → lent table new ≡ to_third (tables_in s)
  third_lent table new q =
      let low : List ℕ = lowered (function_count 4 (functions_in s)) (functions_in s) in
      let e : new ≡ low = lowered_part new q in
      let l : length new ≡ 20 * c.functions = ap length e ∙ lowered_size in
      let z : c.code + c.extent - (c.code + c.extent) ≡ 0 = omega arith in
      let l' : length new ≡ 20 * c.functions - 0 = omega arith in
      let f : take (20 * c.functions - 0) (drop 0 (put_mid 0 (20 * c.functions - 0) table new)) ≡ low = take_at new _ (20 * c.functions - 0) l' ∙ e in
      let zs : take (c.code + c.extent - (c.code + c.extent)) (drop (c.code + c.extent) s) ≡ [] = ap (λ (n : ℕ). take n (drop (c.code + c.extent) s)) z in
      same _ _ _ _ _ _ _ _ _ _ _ _ (constants_part s c k 56 (rw four refl)) f (labels_part s c k) zs (code_part s c k) k.entry_is
    where
      same : (cs cs' fs fs' ls ls' zs zs' code code' : List ℕ) (n n' : ℕ) → cs ≡ cs' → fs ≡ fs' → ls ≡ ls' → zs ≡ zs' → code ≡ code' → n ≡ n'
          → tables 3 cs fs ls zs code n ≡ tables 3 cs' fs' ls' zs' code' n'
      same cs cs' fs fs' ls ls' zs zs' code code' n n' p q r t u v = rw (p, q, r, t, u, v) refl

  pub third_fits : (t : Tables) → t ≡ to_third (tables_in s) → Fits 3 t.bodies.functions t.bodies.code t.bodies.entry × (structure_count t.bodies.structures ≤ 0)
  third_fits t q =
      let l : length (lowered (function_count 4 (functions_in s)) (functions_in s)) ≡ 20 * c.functions = lowered_size in
      let m : length (code_in s) ≡ c.extent = code_length_lem s c k in
      rw q ((record { few_functions = omega arith; little_code = omega arith; entry_inside = omega arith }, omega arith))

-- ---- a file, part by part

same_header : (E h c f l n e c' f' l' n' e' : ℕ) → c ≡ c' → f ≡ f' → l ≡ l' → n ≡ n' → e ≡ e' → words (header_words E h c f l n 0 e) ≡ words (header_words E h c' f' l' n' 0 e')
same_header E h c f l n e c' f' l' n' e' p q r t u =
    ap (λ (x : ℕ). words (header_words E h x f l n 0 e)) p ∙ ap (λ (x : ℕ). words (header_words E h c' x l n 0 e)) q
    ∙ ap (λ (x : ℕ). words (header_words E h c' f' x n 0 e)) r ∙ ap (λ (x : ℕ). words (header_words E h c' f' l' x 0 e)) t
    ∙ ap (λ (x : ℕ). words (header_words E h c' f' l' n' 0 x)) u

-- a header, constants, functions, and labels with the code, each lent its own part
put_parts : (E : ℕ) (cs fs ls code : List ℕ) (entry : ℕ) (out h' cs' fs' rest' : List ℕ) (a b d e : ℕ) → a ≡ header_size E → a + length cs ≡ b → b + length fs ≡ d
    → d + (length ls + length code) ≡ e → h' ≡ header_of (tables E cs fs ls [] code entry) → cs' ≡ cs → fs' ≡ fs → rest' ≡ ls ++ code
    → put_mid d (e - d) (put_mid b (d - b) (put_mid a (b - a) (put_mid 0 (a - 0) out h') cs') fs') rest' ≡ filled_with (tables E cs fs ls [] code entry) out
unfolding file_of
put_parts E cs fs ls code entry out h' cs' fs' rest' a b d e qa qb qd qe qh qc qf qr =
    let h : List ℕ = header_of (tables E cs fs ls [] code entry) in
    let rest : List ℕ = ls ++ code in
    let o₁ : List ℕ = put_mid 0 (a - 0) out h' in
    let o₂ : List ℕ = put_mid a (b - a) o₁ cs' in
    let o₃ : List ℕ = put_mid b (d - b) o₂ fs' in
    let p₁ : length h ≡ a = header_length E (length cs) (length fs) (length ls) (length code) 0 entry ∙ sym qa in
    let p₂ : length (h ++ cs) ≡ b = length-append h cs ∙ omega arith in
    let p₃ : length ((h ++ cs) ++ fs) ≡ d = length-append (h ++ cs) fs ∙ omega arith in
    let e₁ : o₁ ≡ h ++ drop a out = section out [] h out h' 0 a refl refl (omega arith) qh in
    let e₂ : o₂ ≡ (h ++ cs) ++ drop b out = section o₁ h cs out cs' a b e₁ p₁ qb qc in
    let e₃ : o₃ ≡ ((h ++ cs) ++ fs) ++ drop d out = section o₂ (h ++ cs) fs out fs' b d e₂ p₂ qd qf in
    let n : length rest ≡ length ls + length code = length-append ls code in
    let end : e ≡ file_length (tables E cs fs ls [] code entry) = omega arith in
    let re : ((h ++ cs) ++ fs) ++ rest ≡ h ++ (cs ++ (fs ++ (ls ++ (code ++ [])))) = simp (append_assoc, append-nil) in
    section o₃ ((h ++ cs) ++ fs) rest out rest' d e e₃ p₃ (omega arith) qr
    ∙ ap (λ (x : List ℕ). x ++ drop e out) re ∙ ap (λ (j : ℕ). (h ++ (cs ++ (fs ++ (ls ++ (code ++ []))))) ++ drop j out) end

down_sums : (l r n t d cs ls x z : ℕ) → r ≡ 56 + 12 * cs → t ≡ r + 24 * n → d ≡ t + 8 * ls → d + x + 12 * z ≡ l → z ≡ 0
    → (48 + 12 * cs ≡ r - 8) × (r - 8 + 20 * n + (8 * ls + x) ≡ l - 8 - 4 * n)
down_sums l r n t d cs ls x z e₁ e₂ e₃ e₄ e₅ = (omega arith, omega arith)

module _ (s : List ℕ) (c : Sections) (k : Packed s c) (out h' cs' fs' rest' : List ℕ) (rest : rest' ≡ take (length s - c.targets) (drop c.targets s)) where
  pub up_parts : edition s ≡ 3 → h' ≡ words (header_words 4 56 (12 * c.constants) (24 * c.functions) (8 * c.labels) c.extent 0 c.entry)
      → cs' ≡ take (c.records - 48) (drop 48 s) → fs' ≡ raised c.functions (take (c.targets - c.records) (drop c.records s))
      → let b : ℕ = c.records + 8 in
      let d : ℕ = b + 24 * c.functions in
      let e : ℕ = length s + 8 + 4 * c.functions in
      put_mid d (e - d) (put_mid b (d - b) (put_mid 56 (b - 56) (put_mid 0 (56 - 0) out h') cs') fs') rest' ≡ filled_with (to_fourth (tables_in s)) out
  up_parts q qh qc qf =
      let p : Places 48 20 s c = places_third s c k q in
      let z : c.structures ≡ 0 = third_bare_lem s c k q in
      let lc : length (constants_in s) ≡ 12 * c.constants = constants_length s c k in
      let lf : length (functions_in s) ≡ 20 * c.functions = third_length s c k q in
      let n : function_count 3 (functions_in s) ≡ c.functions = third_count s c k q in
      let fs : List ℕ = raised (function_count 3 (functions_in s)) (functions_in s) in
      let lr : length fs ≡ 24 * c.functions = raised_length (function_count 3 (functions_in s)) (functions_in s) (omega arith) ∙ omega arith in
      let ll : length (labels_in s) ≡ 8 * c.labels = labels_length s c k in
      let ln : length (code_in s) ≡ c.extent = code_length_lem s c k in
      put_parts 4 (constants_in s) fs (labels_in s) (code_in s) (entry_length s) out h' cs' fs' rest' 56 (c.records + 8) (c.records + 8 + 24 * c.functions) (length s + 8 + 4 * c.functions)
      refl (omega arith) (omega arith) (omega arith)
      (qh ∙ same_header 4 56 _ _ _ _ _ _ _ _ _ _ (sym lc) (sym lr) (sym ll) (sym ln) k.entry_is)
      (qc ∙ constants_part s c k 48 (rw q refl))
      (qf ∙ ap (raised c.functions) (functions_part s c k) ∙ ap (λ (m : ℕ). raised m (functions_in s)) (sym n))
      (rest ∙ rest_part s c k z)

  pub down_parts : edition s ≡ 4 → c.structures ≡ 0 → h' ≡ words (header_words 3 48 (12 * c.constants) (20 * c.functions) (8 * c.labels) c.extent 0 c.entry)
      → cs' ≡ take (c.records - 56) (drop 56 s) → fs' ≡ lowered c.functions (take (c.targets - c.records) (drop c.records s))
      → let b : ℕ = c.records - 8 in
      let d : ℕ = b + 20 * c.functions in
      let e : ℕ = length s - 8 - 4 * c.functions in
      put_mid d (e - d) (put_mid b (d - b) (put_mid 48 (b - 48) (put_mid 0 (48 - 0) out h') cs') fs') rest' ≡ filled_with (to_third (tables_in s)) out
  down_parts q z qh qc qf =
      let p : Places 56 24 s c = places_fourth s c k q in
      let sums = down_sums (length s) c.records c.functions c.targets c.code c.constants c.labels c.extent c.structures p.records_at p.targets_at p.code_at_lem p.ends z in
      let lc : length (constants_in s) ≡ 12 * c.constants = constants_length s c k in
      let fs : List ℕ = lowered (function_count 4 (functions_in s)) (functions_in s) in
      let lr : length fs ≡ 20 * c.functions = lowered_size s c k q in
      let ll : length (labels_in s) ≡ 8 * c.labels = labels_length s c k in
      let ln : length (code_in s) ≡ c.extent = code_length_lem s c k in
      put_parts 3 (constants_in s) fs (labels_in s) (code_in s) (entry_length s) out h' cs' fs' rest' 48 (c.records - 8) (c.records - 8 + 20 * c.functions) (length s - 8 - 4 * c.functions)
      refl (ap (λ (n : ℕ). 48 + n) lc ∙ sums.0) (ap (λ (n : ℕ). c.records - 8 + n) lr) (ap₂ (λ (m n : ℕ). c.records - 8 + 20 * c.functions + (m + n)) ll ln ∙ sums.1)
      (qh ∙ same_header 3 48 _ _ _ _ _ _ _ _ _ _ (sym lc) (sym lr) (sym ll) (sym ln) k.entry_is)
      (qc ∙ constants_part s c k 56 (rw q refl))
      (lowered_part s c k q fs' qf)
      (rest ∙ rest_part s c k z)

-- ---- answers

module _ (s : List ℕ) (c : Sections) (k : Packed s c) (out : List ℕ) where
  up_length : edition s ≡ 3 → file_length (to_fourth (tables_in s)) ≡ length s + 8 + 4 * c.functions
  up_length q =
      let p : Places 48 20 s c = places_third s c k q in
      let z : c.structures ≡ 0 = third_bare_lem s c k q in
      let lc : length (constants_in s) ≡ 12 * c.constants = constants_length s c k in
      let lf : length (functions_in s) ≡ 20 * c.functions = third_length s c k q in
      let n : function_count 3 (functions_in s) ≡ c.functions = third_count s c k q in
      let lr : length (raised (function_count 3 (functions_in s)) (functions_in s)) ≡ 24 * c.functions = raised_length (function_count 3 (functions_in s)) (functions_in s) (omega arith) ∙ omega arith in
      let ll : length (labels_in s) ≡ 8 * c.labels = labels_length s c k in
      let ln : length (code_in s) ≡ c.extent = code_length_lem s c k in omega arith

  down_length : edition s ≡ 4 → c.structures ≡ 0 → file_length (to_third (tables_in s)) ≡ length s - 8 - 4 * c.functions
  down_length q z =
      let p : Places 56 24 s c = places_fourth s c k q in
      let lc : length (constants_in s) ≡ 12 * c.constants = constants_length s c k in
      let lr : length (lowered (function_count 4 (functions_in s)) (functions_in s)) ≡ 20 * c.functions = lowered_size s c k q in
      let ll : length (labels_in s) ≡ 8 * c.labels = labels_length s c k in
      let ln : length (code_in s) ≡ c.extent = code_length_lem s c k in omega arith

  module _ (r : refusal_in 3 s ≡ 0) (q : edition s ≡ 3) where
    up_good : table_refusal (to_fourth (tables_in s)) ≡ 0
    up_good = sym (ap table_refusal (up_read s r).1) ∙ good_file (fourth s) (up_read s r).0

    up_is : write (to_fourth (tables_in s)) out ≡ to_edition4 s out
    unfolding write to_edition4 fourth
    up_is = rw (up_good, r) refl

    pub up_short : length out < length s + 8 + 4 * c.functions → wrote (Unwritten 16) out ≡ to_edition4 s out
    up_short h = let l : file_length (to_fourth (tables_in s)) ≡ length s + 8 + 4 * c.functions = up_length q in
        short_is (to_fourth (tables_in s)) up_good out (omega arith) ∙ up_is

    pub up_written : length s + 8 + 4 * c.functions ≤ length out → (out' : List ℕ) → out' ≡ filled_with (to_fourth (tables_in s)) out
        → wrote (Written (length s + 8 + 4 * c.functions)) out' ≡ to_edition4 s out
    up_written h out' e = let l : file_length (to_fourth (tables_in s)) ≡ length s + 8 + 4 * c.functions = up_length q in
        written_is (to_fourth (tables_in s)) up_good out (omega arith) (length s + 8 + 4 * c.functions) (sym l) out' e ∙ up_is

  module _ (r : down_refusal s ≡ 0) (q : edition s ≡ 4) (z : c.structures ≡ 0) where
    down_good : table_refusal (to_third (tables_in s)) ≡ 0
    down_good = sym (ap table_refusal (down_read s r).1) ∙ good_file (third s) (down_read s r).0

    down_is : write (to_third (tables_in s)) out ≡ to_edition3 s out
    unfolding write to_edition3 third
    down_is = rw (down_good, r) refl

    pub down_short : length out < length s - 8 - 4 * c.functions → wrote (Unwritten 16) out ≡ to_edition3 s out
    down_short h = let l : file_length (to_third (tables_in s)) ≡ length s - 8 - 4 * c.functions = down_length q z in
        short_is (to_third (tables_in s)) down_good out (omega arith) ∙ down_is

    pub down_written : length s - 8 - 4 * c.functions ≤ length out → (out' : List ℕ) → out' ≡ filled_with (to_third (tables_in s)) out
        → wrote (Written (length s - 8 - 4 * c.functions)) out' ≡ to_edition3 s out
    down_written h out' e = let l : file_length (to_third (tables_in s)) ≡ length s - 8 - 4 * c.functions = down_length q z in
        written_is (to_third (tables_in s)) down_good out (omega arith) (length s - 8 - 4 * c.functions) (sym l) out' e ∙ down_is
