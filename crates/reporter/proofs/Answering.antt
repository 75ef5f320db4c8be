-- The answer of an accepted module from what its rows say.
use mathlib.Core.Path.{◌≡◌, refl, sym, ap, ◌∙◌, subst}
use mathlib.Core.Logic.{◌⊎◌, inl, inr}
use Prim.Native.Nat.{ℕ, zero, suc, ◌+◌, ◌*◌, ◌≤◌, ◌<◌}
use native.Mathlib.Omega.{arith}
use mathlib.Core.Option.{none, some}
use mathlib.Core.List.{List, ◌++◌, append_assoc, append-nil}
use lib.ListN.{length, get_or, take, drop, length-append}
use lib.Seq.{take_at, drop-append-add, drop-drop}
use lib.Dec.{ltb, eqb}
use Rattle.rules.specs.AnswerTypes.{Unreported, ReportLoops, Reported}
use Rattle.rules.specs.Bytes.{bytes, written}
use Rattle.rules.specs.Tables.{fn, body_number}
use Rattle.rules.specs.ModuleFile.{functions, read}
use Rattle.rules.specs.Check.{bodies, functions_from}
use Rattle.rules.specs.Heights.{need_of}
use Rattle.rules.specs.Reporting.{first_looping, report_bytes, reporting, report_with}
use Rattle.soundness.specs.Tests.{decide, eqb_is, eqb_isnt, ltb_is, ltb_isnt, ltb_yes, ltb_no}
use Rattle.memory.proofs.Words.{length_bytes, length_written}
use Rattle.settle.specs.Graph.{row_of, mark_of}
use Rattle.reporter.specs.Told.{FirstMarked, row_words, Known, AcceptedIs, AnswerIs}

-- ---- words

pub words_length : (need frames : List ℕ) (b : ℕ) → length (row_words need frames b) ≡ 8 * b
unfolding row_words
words_length need frames zero = refl
words_length need frames (suc b) =
    let x : List ℕ = bytes 4 (get_or need b 0) in
    let y : List ℕ = bytes 4 (get_or frames b 0) in
    let e : length (row_words need frames b) ≡ 8 * b = words_length need frames b in
    let f : length x ≡ 4 = length_bytes 4 (get_or need b 0) in
    let g : length y ≡ 4 = length_bytes 4 (get_or frames b 0) in
    let h : length (x ++ y) ≡ length x + length y = length-append x y in
    length-append (row_words need frames b) (x ++ y) ∙ (omega arith)

-- a word written behind p
behind : (p q : List ℕ) (i v : ℕ) → i ≡ length p → written 4 (p ++ q) i v ≡ p ++ (bytes 4 v ++ drop 4 q)
unfolding written
behind p q i v e =
    subst (λ j. take j (p ++ q) ++ (bytes 4 v ++ drop (j + 4) (p ++ q)) ≡ p ++ (bytes 4 v ++ drop 4 q)) (sym e)
    (rw (take_at p q (length p) refl, drop-append-add p q 4) refl)

module _ (need frames out₀ : List ℕ) where
  pub words_none : (out : List ℕ) → out ≡ out₀ → out ≡ row_words need frames 0 ++ drop (8 * 0) out₀
  unfolding row_words
  words_none out e = e

  words_more : (b : ℕ) (out : List ℕ) → out ≡ row_words need frames b ++ drop (8 * b) out₀
      → written 4 (written 4 out (8 * b) (get_or need b 0)) (8 * b + 4) (get_or frames b 0) ≡ row_words need frames (b + 1) ++ drop (8 * (b + 1)) out₀
  unfolding row_words
  words_more b out e =
      let p : List ℕ = row_words need frames b in
      let x : List ℕ = bytes 4 (get_or need b 0) in
      let y : List ℕ = bytes 4 (get_or frames b 0) in
      let q : List ℕ = drop (8 * b) out₀ in
      let l : length p ≡ 8 * b = words_length need frames b in
      let m : length x ≡ 4 = length_bytes 4 (get_or need b 0) in
      let n : length (p ++ x) ≡ length p + length x = length-append p x in
      let first : written 4 out (8 * b) (get_or need b 0) ≡ (p ++ x) ++ drop 4 q =
      ap (λ z. written 4 z (8 * b) (get_or need b 0)) e ∙ behind p q (8 * b) (get_or need b 0) (sym l) ∙ sym (append_assoc p x (drop 4 q)) in
      let second : written 4 ((p ++ x) ++ drop 4 q) (8 * b + 4) (get_or frames b 0) ≡ (p ++ x) ++ (y ++ drop 4 (drop 4 q)) =
      behind (p ++ x) (drop 4 q) (8 * b + 4) (get_or frames b 0) (omega arith) in
      let rest : drop 4 (drop 4 q) ≡ drop (8 * (b + 1)) out₀ = drops (8 * b) ∙ (let e : 8 * b + 8 ≡ 8 * (b + 1) = omega arith in ap (λ j. drop j out₀) e) in
      let all : row_words need frames (suc b) ++ drop (8 * (b + 1)) out₀ ≡ (p ++ x) ++ (y ++ drop (8 * (b + 1)) out₀) =
      ap (λ z. z ++ drop (8 * (b + 1)) out₀) (sym (append_assoc p x y)) ∙ append_assoc (p ++ x) y (drop (8 * (b + 1)) out₀) in
      let s : suc b ≡ b + 1 = omega arith in
      ap (λ z. written 4 z (8 * b + 4) (get_or frames b 0)) first ∙ second ∙ ap (λ z. (p ++ x) ++ (y ++ z)) rest ∙ sym all ∙ ap (λ z. row_words need frames z ++ drop (8 * (b + 1)) out₀) s
    where
      drops : (i : ℕ) → drop 4 (drop 4 (drop i out₀)) ≡ drop (i + 8) out₀
      drops i = ap (drop 4) (drop-drop 4 i out₀) ∙ drop-drop 4 (i + 4) out₀ ∙ (let e : i + 4 + 4 ≡ i + 8 = omega arith in ap (λ j. drop j out₀) e)

  pub words_next : (b : ℕ) (out out₁ out₂ : List ℕ) → 8 * b + 8 ≤ length out₀ → out ≡ row_words need frames b ++ drop (8 * b) out₀ → length out ≡ length out₀
      → out₁ ≡ written 4 out (8 * b) (get_or need b 0) → out₂ ≡ written 4 out₁ (8 * b + 4) (get_or frames b 0)
      → (out₂ ≡ row_words need frames (b + 1) ++ drop (8 * (b + 1)) out₀) × (length out₂ ≡ length out₀)
  words_next b out out₁ out₂ l e k f g =
      let m : length (written 4 out (8 * b) (get_or need b 0)) ≡ length out = length_written 4 out (8 * b) (get_or need b 0) (omega arith) in
      let n : length out₁ ≡ length (written 4 out (8 * b) (get_or need b 0)) = ap length f in
      let o : length (written 4 out₁ (8 * b + 4) (get_or frames b 0)) ≡ length out₁ = length_written 4 out₁ (8 * b + 4) (get_or frames b 0) (omega arith) in
      (g ∙ ap (λ z. written 4 z (8 * b + 4) (get_or frames b 0)) f ∙ words_more b out e, ap length g ∙ (omega arith))

-- ---- the search for a mark

pub none_more : (marks : List ℕ) (b : ℕ) → ((i : ℕ) → i < b → mark_of marks i ≡ 3 → ⊥) → (mark_of marks b ≡ 3 → ⊥) → (i : ℕ) → i < b + 1 → mark_of marks i ≡ 3 → ⊥
none_more marks b h n i l e =
    decide (ltb i b) (λ y. h i (ltb_is i b y) e)
    (λ y. let z : b ≤ i = ltb_isnt i b y in let w : i ≡ b = omega arith in n (subst (λ j. mark_of marks j ≡ 3) w e))

-- ---- what is found

module _ (s marks need frames : List ℕ) (K : Known s marks need frames) where
  found : (b : ℕ) → b ≤ functions s → (mark_of marks b ≡ 3 → ⊥) → need_of (read s) (suc (functions s)) (row_of b) ≡ some (get_or need b 0, get_or frames b 0)
  found b l n = go (K b l)
    where
      go : ((mark_of marks b ≡ 2) × (need_of (read s) (suc (functions s)) (row_of b) ≡ some (get_or need b 0, get_or frames b 0))) ⊎ ((mark_of marks b ≡ 3) × (need_of (read s) (suc (functions s)) (row_of b) ≡ none))
          → need_of (read s) (suc (functions s)) (row_of b) ≡ some (get_or need b 0, get_or frames b 0)
      go (inl x) = x.1
      go (inr x) = absurd (n x.0)

  lost : (b : ℕ) → b ≤ functions s → mark_of marks b ≡ 3 → need_of (read s) (suc (functions s)) (row_of b) ≡ none
  lost b l e = go (K b l)
    where
      go : ((mark_of marks b ≡ 2) × (need_of (read s) (suc (functions s)) (row_of b) ≡ some (get_or need b 0, get_or frames b 0))) ⊎ ((mark_of marks b ≡ 3) × (need_of (read s) (suc (functions s)) (row_of b) ≡ none))
          → need_of (read s) (suc (functions s)) (row_of b) ≡ none
      go (inl x) = absurd (let t : mark_of marks b ≡ 2 = x.0 in omega arith)
      go (inr x) = x.1

  none_from : (n k : ℕ) → k + n ≤ functions s → ((b : ℕ) → b < suc (k + n) → mark_of marks b ≡ 3 → ⊥) → first_looping (read s) (functions s) (functions_from n k) ≡ none
  unfolding first_looping
  none_from zero k l h = refl
  none_from (suc n) k l h =
      rw (found (suc k) (omega arith) (h (suc k) (omega arith)), first_looping) (none_from n (suc k) (omega arith) (λ b u. h b (omega arith)))

  some_from : (n k r : ℕ) → k ≤ r → r < k + n → k + n ≤ functions s → ((b : ℕ) → b < suc r → mark_of marks b ≡ 3 → ⊥) → mark_of marks (suc r) ≡ 3
      → first_looping (read s) (functions s) (functions_from n k) ≡ some (fn r)
  unfolding first_looping
  some_from zero k r l u m h e = absurd (omega arith)
  some_from (suc n) k r l u m h e =
      decide (eqb k r)
      (λ y. let z : k ≡ r = eqb_is k r y in
      rw (lost (suc k) (omega arith) (subst (λ j. mark_of marks (suc j) ≡ 3) (sym z) e), first_looping) (ap (λ j. some (fn j)) z))
      (λ y. let z : k ≡ r → ⊥ = eqb_isnt k r y in
      rw (found (suc k) (omega arith) (h (suc k) (omega arith)), first_looping) (some_from n (suc k) r (omega arith) (omega arith) (omega arith) h e))

  words_from_lem : (n k : ℕ) → k + n ≤ functions s → ((b : ℕ) → b ≤ functions s → mark_of marks b ≡ 3 → ⊥)
      → row_words need frames (suc k) ++ report_bytes (read s) (functions s) (functions_from n k) ≡ row_words need frames (suc (k + n))
  unfolding report_bytes row_words
  words_from_lem zero k l h = append-nil (row_words need frames (suc k)) ∙ (let e : k ≡ k + 0 = omega arith in ap (λ j. row_words need frames (suc j)) e)
  words_from_lem (suc n) k l h =
      rw (found (suc k) (omega arith) (h (suc k) (omega arith)))
      (sym (append_assoc (row_words need frames (suc k)) (bytes 4 (get_or need (suc k) 0) ++ bytes 4 (get_or frames (suc k) 0)) (report_bytes (read s) (functions s) (functions_from n (suc k))))
      ∙ words_from_lem n (suc k) (omega arith) h ∙ (let e : suc k + n ≡ k + suc n = omega arith in ap (λ j. row_words need frames (suc j)) e))

  module _ (r : ℕ) (F : FirstMarked marks (functions s) r) where
    first_some : r ≤ functions s → first_looping (read s) (functions s) (bodies (functions s)) ≡ some (row_of r)
    unfolding first_looping
    first_some l = go r l F.before (F.loops l)
      where
        go : (r : ℕ) → r ≤ functions s → ((b : ℕ) → b < r → mark_of marks b ≡ 3 → ⊥) → mark_of marks r ≡ 3 → first_looping (read s) (functions s) (bodies (functions s)) ≡ some (row_of r)
        go zero l h e = rw (lost 0 l e, first_looping) refl
        go (suc k) l h e = rw (found 0 (omega arith) (h 0 (omega arith)), first_looping) (some_from (functions s) 0 k (omega arith) (omega arith) (omega arith) h e)

    module _ (over : functions s < r) where
      none_marked : (b : ℕ) → b ≤ functions s → mark_of marks b ≡ 3 → ⊥
      none_marked b l = F.before b (omega arith)

      first_none : first_looping (read s) (functions s) (bodies (functions s)) ≡ none
      unfolding first_looping
      first_none =
          rw (found 0 (omega arith) (none_marked 0 (omega arith)), first_looping) (none_from (functions s) 0 (omega arith) (λ b u. none_marked b (omega arith)))

      words_are : report_bytes (read s) (functions s) (bodies (functions s)) ≡ row_words need frames (suc (functions s))
      unfolding report_bytes row_words
      words_are = rw (found 0 (omega arith) (none_marked 0 (omega arith))) (words_from_lem (functions s) 0 (omega arith) none_marked ∙ (let e : 0 + functions s ≡ functions s = omega arith in ap (λ j. row_words need frames (suc j)) e))

      pub answer_short : (room out : List ℕ) → length out < 8 * (functions s + 1) → AcceptedIs s room out (Unreported 16) out
      answer_short room out l = sym (ap (report_with s room out) first_none ∙ rw (ltb_yes (length out) (8 * suc (functions s)) (omega arith)))

      pub answer_long : (room out out' : List ℕ) (n : ℕ) → 8 * (functions s + 1) ≤ length out → n ≡ 8 * (functions s + 1)
          → out' ≡ row_words need frames (suc (functions s)) ++ drop (8 * suc (functions s)) out → AcceptedIs s room out (Reported n) out'
      answer_long room out out' n l e f =
          let k : n ≡ 8 * suc (functions s) = omega arith in
          sym (ap (report_with s room out) first_none ∙ rw (ltb_no (length out) (8 * suc (functions s)) (omega arith))
          (ap (λ z. reporting (Reported z) room (report_bytes (read s) (functions s) (bodies (functions s)) ++ drop (8 * suc (functions s)) out)) (sym k)
          ∙ ap (λ z. reporting (Reported n) room (z ++ drop (8 * suc (functions s)) out)) words_are ∙ ap (reporting (Reported n) room) (sym f)))

    pub answer_entry : r ≡ 0 → (room out : List ℕ) → AcceptedIs s room out (ReportLoops 0xffffffff) out
    answer_entry e room out =
        sym (ap (report_with s room out) (first_some (omega arith)) ∙ ap (λ z. reporting (ReportLoops (body_number (row_of z))) room out) e)

    pub answer_function : (k : ℕ) → r ≡ suc k → r ≤ functions s → (room out : List ℕ) → AcceptedIs s room out (ReportLoops k) out
    answer_function k e l room out = sym (ap (report_with s room out) (first_some l) ∙ ap (λ z. reporting (ReportLoops (body_number (row_of z))) room out) e)

-- ---- of every module that the rows fit

module _ (n : ℕ) (marks need frames : List ℕ) (r : ℕ) (F : FirstMarked marks n r) (out : List ℕ) where
  first : (s : List ℕ) → functions s ≡ n → FirstMarked marks (functions s) r
  first s q = subst (λ z. FirstMarked marks z r) (sym q) F

  pub entry_loops : r ≡ 0 → AnswerIs n marks need frames out (ReportLoops 0xffffffff) out
  entry_loops e = λ s room q K. answer_entry s marks need frames K r (first s q) e room out

  pub function_loops : (k : ℕ) → r ≡ suc k → r ≤ n → AnswerIs n marks need frames out (ReportLoops k) out
  function_loops k e l = λ s room q K. answer_function s marks need frames K r (first s q) k e (omega arith) room out

  pub too_short : n < r → length out < 8 * (n + 1) → AnswerIs n marks need frames out (Unreported 16) out
  too_short o l = λ s room q K. answer_short s marks need frames K r (first s q) (omega arith) room out (omega arith)

  pub reported : n < r → (k : ℕ) (out' : List ℕ) → 8 * (n + 1) ≤ length out → k ≡ 8 * (n + 1) → out' ≡ row_words need frames (suc n) ++ drop (8 * suc n) out
      → AnswerIs n marks need frames out (Reported k) out'
  reported o k out' l e f = λ s room q K. answer_long s marks need frames K r (first s q) (omega arith) room out out' k (omega arith) (omega arith) (f ∙ ap (λ z. row_words need frames (suc z) ++ drop (8 * suc z) out) (sym q))
