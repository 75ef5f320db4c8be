-- The report of the stack that a module needs, from the library's answer.
use Prim.Native.Nat.{ℕ, suc, ◌+◌, ◌-◌, ◌*◌, ◌/◌, ◌≤◌}
use native.Mathlib.Omega.{arith}
use mathlib.Core.Path.{◌≡◌, refl, sym, ap, subst, ◌∙◌}
use mathlib.Core.Option.{Option, none, some}
use mathlib.Core.List.{List, [], ◌∷◌, ◌++◌}
use lib.Dec.{ltb}
use lib.ListN.{length, take, set, length-replicate}
use Rattle.rules.specs.AnswerTypes.{CheckAnswer}
use Rattle.rules.specs.AnswerTypes.{Refused, Untyped, Accepted}
use Rattle.rules.specs.AnswerTypes.{NeedAnswer}
use Rattle.rules.specs.AnswerTypes.{Unreported, ReportUntyped, ReportLoops, Reported}
use Rattle.rules.specs.Bytes.{word, zeros}
use Rattle.rules.specs.Tables.{Body}
use Rattle.rules.specs.ModuleFile.{functions, read}
use Rattle.rules.specs.Check.{bodies}
use Rattle.rules.specs.Answers.{check}
use Rattle.rules.specs.Program.{line2, line3, refused_line}
use Rattle.rules.specs.Reporting.{need_number, first_looping, Reporting, reporting, report_with, report_after, report_needs}
use Rattle.soundness.specs.Tests.{decide, ltb_isnt}
use Rattle.desk.specs.declared.checks.Said.{Said}
use Rattle.desk.specs.Text.{Adds, Fills}
use Rattle.desk.specs.Checks.{text_said}
use Rattle.desk.specs.Needs.{number_said, entry_line, function_lines, need_lines, need_text, report_of, ReportsNeed}
use Rattle.desk.proofs.Texts.{then, adds_none}
use Rattle.std.specs.Prelude.{Ok, Err}
use Rattle.std.specs.declared.result.Result.{Result}
use Rattle.rules.specs.Results.{need_answer}
use Rattle.rules.specs.declared.NeedError.{NeedError}

-- ---- the entry's line

-- six bytes in front
pub word_put : (l : List ℕ) (a b c d e f : ℕ) → 6 ≤ length l
    → take 6 (set (set (set (set (set (set l 0 a) 1 b) 2 c) 3 d) 4 e) 5 f) ≡ a ∷ b ∷ c ∷ d ∷ e ∷ f ∷ []
word_put [] a b c d e f h = absurd (omega arith)
word_put (v ∷ []) a b c d e f h = absurd (omega arith)
word_put (v ∷ w ∷ []) a b c d e f h = absurd (omega arith)
word_put (v ∷ w ∷ x ∷ []) a b c d e f h = absurd (omega arith)
word_put (v ∷ w ∷ x ∷ y ∷ []) a b c d e f h = absurd (omega arith)
word_put (v ∷ w ∷ x ∷ y ∷ z ∷ []) a b c d e f h = absurd (omega arith)
word_put (v ∷ w ∷ x ∷ y ∷ z ∷ u ∷ l) a b c d e f h = refl

pub entry_line_lem : (out out₁ out₂ : List ℕ) (need frames r : ℕ) → take 6 out₁ ≡ 101 ∷ 110 ∷ 116 ∷ 114 ∷ 121 ∷ 32 ∷ [] → Adds 42 out₁ 6 (line2 need frames) out₂ r
    → Adds 48 out 0 (entry_line need frames) out₂ r
entry_line_lem out out₁ out₂ need frames r e x =
    record { within = let w : r ≤ 6 + 42 = x.within in omega arith; reads = x.reads ∙ ap (λ z. z ++ line2 need frames) e }

-- ---- the functions' lines

module _ (report : List ℕ) where
  pub functions_0 : (out : List ℕ) (from : ℕ) → Adds (63 * 0) out from (function_lines report 0) out from
  unfolding function_lines
  functions_0 out from = adds_none out from (63 * 0)

  pub functions_more : (out out₁ out₂ : List ℕ) (from e r k need frames : ℕ) → need ≡ word 4 report (8 * k + 8) → frames ≡ word 4 report (8 * k + 12)
      → Adds (63 * k) out from (function_lines report k) out₁ e → Adds 63 out₁ e (line3 k need frames) out₂ r
      → Adds (63 * (k + 1)) out from (function_lines report (k + 1)) out₂ r
  unfolding function_lines
  functions_more out out₁ out₂ from e r k need frames p q x y =
      let s : k + 1 ≡ suc k = omega arith in
      let m : 63 * k + 63 ≡ 63 * suc k = omega arith in
      rw s (then out out₁ out₂ from e r (63 * k) 63 (function_lines report k) (line3 k (word 4 report (8 * k + 8)) (word 4 report (8 * k + 12))) x
      (subst (λ z. Adds 63 out₁ e (line3 k z (word 4 report (8 * k + 12))) out₂ r) p (subst (λ z. Adds 63 out₁ e (line3 k need z) out₂ r) q y)) (63 * suc k) m)

  pub functions_all : (out out₁ : List ℕ) (from e k n : ℕ) → k ≤ n → n ≤ k → Adds (63 * k) out from (function_lines report k) out₁ e → Adds (63 * n) out from (function_lines report n) out₁ e
  functions_all out out₁ from e k n l m x = let q : k ≡ n = omega arith in subst (λ z. Adds (63 * z) out from (function_lines report z) out₁ e) q x

  pub lines_fill : (out out₁ out₂ : List ℕ) (need frames e r n : ℕ) → need ≡ word 4 report 0 → frames ≡ word 4 report 4 → n ≤ 128 → 8112 ≤ length out₂
      → Adds 48 out 0 (entry_line need frames) out₁ e → Adds (63 * n) out₁ e (function_lines report n) out₂ r → Fills (need_lines report n) out₂ r
  lines_fill out out₁ out₂ need frames e r n p q l h x y =
      record {
        fits = let u : e ≤ 0 + 48 = x.within in let v : r ≤ e + 63 * n = y.within in omega arith;
        reads = y.reads ∙ ap (λ z. z ++ function_lines report n) (x.reads ∙ ap (λ z. entry_line z frames) p ∙ ap (entry_line (word 4 report 0)) q);
      }

-- ---- the whole

pub line_fills : (out out' text : List ℕ) (r m : ℕ) → Adds m out 0 text out' r → m ≤ length out' → Fills text out' r
line_fills out out' text r m x l = record { fits = let u : r ≤ 0 + m = x.within in omega arith; reads = x.reads }

-- an answer of 0 has the length of the report, which fits
abbrev Lengthy : List ℕ → List ℕ → NeedAnswer → Type 0
Lengthy s report (Unreported n) = Unit {0}
Lengthy s report (ReportUntyped b) = Unit {0}
Lengthy s report (ReportLoops b) = Unit {0}
Lengthy s report (Reported n) = (n ≡ 8 * suc (functions s)) × (n ≤ length report)

lengthy : (s room report : List ℕ) → Lengthy s report (report_needs s room report).answer
unfolding report_needs
lengthy s room report = go (check s room).answer
  where
    on : (o : Option Body) → Lengthy s report (report_with s (check s room).room report o).answer
    on none = decide (ltb (length report) (8 * suc (functions s))) (λ y. rw y tt) (λ y. rw y (refl, ltb_isnt (length report) (8 * suc (functions s)) y))
    on (some b) = tt

    go : (a : CheckAnswer) → Lengthy s report (report_after s (check s room).room report a).answer
    go (Refused n) = tt
    go (Untyped b) = tt
    go Accepted = on (first_looping (read s) (functions s) (bodies (functions s)))

module _ (s room' report' out' : List ℕ) (a : Result ℕ NeedError) (q : reporting (need_answer a) room' report' ≡ report_of s) where
  answered : (b : Result ℕ NeedError) → a ≡ b → (x : Result ℕ (Said NeedError)) → number_said x ≡ need_number (need_answer b) → Fills (need_text (need_answer b) report') out' (text_said x)
      → ReportsNeed s x out'
  answered b e x n f =
      let w : need_answer b ≡ (report_of s).answer = sym (ap need_answer e) ∙ ap (λ (z : Reporting). z.answer) q in
      let v : report' ≡ (report_of s).report = ap (λ (z : Reporting). z.report) q in
      record {
        number_is = n ∙ ap need_number w;
        lines = subst (λ z. Fills (need_text (report_of s).answer z) out' (text_said x)) v (subst (λ z. Fills (need_text z report') out' (text_said x)) w f);
      }

  pub unreported : (e : NeedError) (x : Said NeedError) → a ≡ Err e → x.error ≡ e → Fills (need_text (need_answer (Err e)) report') out' x.text → ReportsNeed s (Err x) out'
  unreported e x w m f = answered (Err e) w (Err x) (ap (λ (z : NeedError). need_number (need_answer (Err z))) m) f

  pub reported : (n k : ℕ) → a ≡ Ok n → Fills (need_lines report' (n / 8 - 1)) out' k → ReportsNeed s (Ok k) out'
  reported n k e f = answered (Ok n) e (Ok k) refl f

-- the length that is answered: eight bytes a body, of at most 129
pub length_is : (s room' report' : List ℕ) (n : ℕ) → reporting (Reported n) room' report' ≡ report_of s → (8 ≤ n) × (n ≤ 1032) × (8 * suc (n / 8 - 1) ≤ 1032) × (n / 8 - 1 ≤ 128)
length_is s room' report' n q =
    let w : (n ≡ 8 * suc (functions s)) × (n ≤ length (zeros 1032)) = subst (Lengthy s (zeros 1032)) (sym (ap (λ (z : Reporting). z.answer) q)) (lengthy s (zeros 16384) (zeros 1032)) in
    let l : length (zeros 1032) ≡ 1032 = length-replicate {A = ℕ} 1032 0 in
    let a : n ≡ 8 * suc (functions s) = w.0 in
    let b : n ≤ length (zeros 1032) = w.1 in
    (omega arith, omega arith, omega arith, omega arith)
