-- Laws of words stored one after the other, of sections, and of the writer's answers.
use Prim.Native.Nat.{ℕ, zero, suc, ◌+◌, ◌-◌, ◌*◌, ◌/◌, ◌%◌, ◌^◌, ◌≤◌, ◌<◌}
use native.Mathlib.Numerals.{add-one}
use native.Mathlib.Omega.{arith}
use mathlib.Core.Path.{◌≡◌, refl, sym, ap, ◌∙◌}
use mathlib.Core.Bool.{Bool, true, false, ◌||◌}
use mathlib.Core.List.{List, [], ◌∷◌, ◌++◌, append_assoc, append-nil}
use lib.Dec.{eqb, ltb}
use borrow.Author.Tests.{eq-eqb, ne_eqb, ltb-false, lt-ltb, le-ltb}
use lib.ListN.{length, take, drop, get_or, set, length-append, take-append-drop, drop_of_length-le}
use lib.Seq.{take_at, take_all, drop_at, drop-drop, length-take-le}
use borrow.Rule.Slice.PartMut.{put_mid}
use Rattle.rules.specs.Bytes.{bytes, words, written}
use Rattle.rules.specs.declared.Refusal.{Refusal}
use Rattle.rules.specs.Results.{refusal_number}
use Rattle.rules.specs.AnswerTypes.{Unwritten, Written}
use Rattle.rules.specs.Tables.{Tables, function_size, constant_count, function_count, label_count, structure_count, structure_limit, header_size, differs, over_limits}
use Rattle.rules.specs.Writing.{header_words, file_length, file_of, table_refusal, wrote, write_with, write}
use Rattle.format.specs.Layout.{Fits}
use Rattle.soundness.specs.Tests.{decide, or_neither}
use Rattle.soundness.specs.Readable.{good_tables}
use Rattle.soundness.specs.Saves.{length_file, fits}
use Rattle.writer.specs.Output.{Takes, filled_with}
use Rattle.reader.proofs.Opening.{refusal_some}
use Rattle.memory.proofs.Words.{length_written, drop_written}

-- s with these words written from byte a on
abbrev pub stored : List ℕ → ℕ → List ℕ → List ℕ
stored s a [] = s
stored s a (w ∷ ws) = stored (written 4 s a w) (a + 4) ws

take_written : (s : List ℕ) (a v : ℕ) → a + 4 ≤ length s → take (a + 4) (written 4 s a v) ≡ take a s ++ bytes 4 v
unfolding written
take_written s a v h =
    ap (take (a + 4)) (sym (append_assoc (take a s) (bytes 4 v) (drop (a + 4) s)))
    ∙ take_at (take a s ++ bytes 4 v) (drop (a + 4) s) (a + 4) (length-append (take a s) (bytes 4 v) ∙ ap (λ (k : ℕ). k + 4) (length-take-le a s (omega arith)))

pub stored_is : (ws s : List ℕ) (a : ℕ) → a + 4 * length ws ≤ length s → stored s a ws ≡ take a s ++ (words ws ++ drop (a + 4 * length ws) s)
stored_is [] s a h = let q : a + 4 * 0 ≡ a = omega arith in rw q (sym (take-append-drop a s))
stored_is (w ∷ ws) s a h =
    let n : ℕ = 4 * length ws in
    let t : List ℕ = written 4 s a w in
    let l : length t ≡ length s = length_written 4 s a w (omega arith) in
    let q : a + 4 + n ≡ a + 4 * suc (length ws) = omega arith in
    stored_is ws t (a + 4) (omega arith)
    ∙ ap (λ (x : List ℕ). x ++ (words ws ++ drop (a + 4 + n) t)) (take_written s a w (omega arith))
    ∙ ap (λ (x : List ℕ). (take a s ++ bytes 4 w) ++ (words ws ++ x)) (drop_written 4 s a w (a + 4 + n) (omega arith) (omega arith) ∙ ap (λ (k : ℕ). drop k s) q)
    ∙ append_assoc (take a s) (bytes 4 w) (words ws ++ drop (a + 4 * suc (length ws)) s)
    ∙ ap (λ (x : List ℕ). take a s ++ x) (sym (append_assoc (bytes 4 w) (words ws) (drop (a + 4 * suc (length ws)) s)))

-- words that fill a list
pub filled_by : (s ws : List ℕ) → length s ≡ 4 * length ws → stored s 0 ws ≡ words ws
filled_by s ws h =
    let l : length s ≤ 0 + 4 * length ws = omega arith in
    stored_is ws s 0 (omega arith) ∙ ap (λ (x : List ℕ). words ws ++ x) (drop_of_length-le s l) ∙ append-nil (words ws)

-- the pairs of words of a header, one after the other
pub six_pairs : (s s₁ s₂ s₃ s₄ s₅ s₆ : List ℕ) (a₁ b₁ a₂ b₂ a₃ b₃ a₄ b₄ a₅ b₅ a₆ b₆ : ℕ)
    → s₁ ≡ written 4 (written 4 s 0 a₁) 4 b₁ → s₂ ≡ written 4 (written 4 s₁ 8 a₂) 12 b₂ → s₃ ≡ written 4 (written 4 s₂ 16 a₃) 20 b₃
    → s₄ ≡ written 4 (written 4 s₃ 24 a₄) 28 b₄ → s₅ ≡ written 4 (written 4 s₄ 32 a₅) 36 b₅ → s₆ ≡ written 4 (written 4 s₅ 40 a₆) 44 b₆
    → s₆ ≡ stored s 0 (a₁ ∷ b₁ ∷ a₂ ∷ b₂ ∷ a₃ ∷ b₃ ∷ a₄ ∷ b₄ ∷ a₅ ∷ b₅ ∷ a₆ ∷ b₆ ∷ [])
six_pairs s s₁ s₂ s₃ s₄ s₅ s₆ a₁ b₁ a₂ b₂ a₃ b₃ a₄ b₄ a₅ b₅ a₆ b₆ e₁ e₂ e₃ e₄ e₅ e₆ =
    e₆ ∙ ap (λ (x : List ℕ). written 4 (written 4 x 40 a₆) 44 b₆) (e₅
    ∙ ap (λ (x : List ℕ). written 4 (written 4 x 32 a₅) 36 b₅) (e₄
    ∙ ap (λ (x : List ℕ). written 4 (written 4 x 24 a₄) 28 b₄) (e₃
    ∙ ap (λ (x : List ℕ). written 4 (written 4 x 16 a₃) 20 b₃) (e₂
    ∙ ap (λ (x : List ℕ). written 4 (written 4 x 8 a₂) 12 b₂) e₁))))

-- m is the count of functions
module _ (s : List ℕ) (e c f l n z entry m : ℕ) (counted : m ≡ f / function_size e) where
  -- the words of every edition
  abbrev pub twelve : ℕ → ℕ → List ℕ
  twelve k h =
      e ∷ (h + c + f + l + n + z) ∷ (c / 12) ∷ h ∷ k ∷ (h + c) ∷ (l / 8) ∷ (h + c + f) ∷ n ∷ (h + c + f + l) ∷ entry ∷ 0 ∷ []

  -- a header of another edition than 4, and one of edition 4, which has a seventh pair
  pub header_plain : (e ≡ 4 → ⊥) → length s ≡ header_size e → (s₆ : List ℕ) → s₆ ≡ stored s 0 (twelve m (length s)) → s₆ ≡ words (header_words e (header_size e) c f l n z entry)
  header_plain other size s₆ q =
      let x : eqb e 4 ≡ false = ne_eqb e 4 other in
      let y : length s ≡ 48 = size ∙ rw x refl in
      let k : m ≡ f / 20 = rw x at counted in
      rw x (q ∙ filled_by s (twelve m (length s)) y ∙ ap (λ (h : ℕ). words (twelve m h)) y ∙ ap (λ (j : ℕ). words (twelve j 48)) k)

  pub header_fourth : e ≡ 4 → length s ≡ header_size e → (s₆ s₇ : List ℕ) → s₆ ≡ stored s 0 (twelve m (length s))
      → s₇ ≡ written 4 (written 4 s₆ 48 (z / 12)) 52 (length s + c + f + l + n) → s₇ ≡ words (header_words e (header_size e) c f l n z entry)
  header_fourth four size s₆ s₇ q r =
      let x : eqb e 4 ≡ true = eq-eqb e 4 four in
      let y : length s ≡ 56 = size ∙ rw x refl in
      let ws : ℕ → ℕ → List ℕ = λ j h. twelve j h ++ ((z / 12) ∷ (h + c + f + l + n) ∷ []) in
      let g : s₇ ≡ stored s 0 (ws m (length s)) = r ∙ ap (λ (t : List ℕ). written 4 (written 4 t 48 (z / 12)) 52 (length s + c + f + l + n)) q in
      let k : m ≡ f / 24 = rw x at counted in
      rw x (g ∙ filled_by s (ws m (length s)) y ∙ ap (λ (h : ℕ). words (ws m h)) y ∙ ap (λ (j : ℕ). words (ws j 56)) k)

pub header_long : (e : ℕ) → 48 ≤ header_size e
header_long e = decide (eqb e 4) (λ y. rw y (omega arith)) (λ y. rw y (omega arith))

pub fourth_size : (e : ℕ) → e ≡ 4 → header_size e ≡ 56
fourth_size e q = rw q refl

pub header_length : (e c f l n z entry : ℕ) → length (words (header_words e (header_size e) c f l n z entry)) ≡ header_size e
header_length e c f l n z entry = decide (eqb e 4) (λ y. rw y refl) (λ y. rw y refl)

-- ---- a copy, byte by byte

-- one byte more
pub copy_more : (s d : List ℕ) (i : ℕ) → i < length s → i < length d → set (take i s ++ drop i d) i (get_or s i 0) ≡ take (i + 1) s ++ drop (i + 1) d
copy_more s d i h k = rw add-one (go s d i h k)
  where
    go : (s d : List ℕ) (i : ℕ) → i < length s → i < length d → set (take i s ++ drop i d) i (get_or s i 0) ≡ take (suc i) s ++ drop (suc i) d
    go [] d i h k = absurd (omega arith)
    go (x ∷ s) [] i h k = absurd (omega arith)
    go (x ∷ s) (y ∷ d) zero h k = refl
    go (x ∷ s) (y ∷ d) (suc i) h k = ap (λ (l : List ℕ). x ∷ l) (go s d i (omega arith) (omega arith))

pub copied : (s d : List ℕ) (i : ℕ) → length s ≤ i → length d ≡ length s → take i s ++ drop i d ≡ s
copied s d i h k =
    let l : length d ≤ i = omega arith in
    ap (λ (x : List ℕ). x ++ drop i d) (take_all i s h) ∙ ap (λ (x : List ℕ). s ++ x) (drop_of_length-le d l) ∙ append-nil s

-- ---- sections

-- P stands at the front of what was `out`; the part behind it, from a to e, was lent and is `new` now
pub section : (o P new out new' : List ℕ) (a e : ℕ) → o ≡ P ++ drop a out → length P ≡ a → a + length new ≡ e → new' ≡ new
    → take a o ++ (new' ++ drop (e - a) (drop a o)) ≡ (P ++ new) ++ drop e out
section o P new out new' a e q h k n =
    let r : drop (e - a) (drop a o) ≡ drop e out =
    ap (λ (x : List ℕ). drop (e - a) (drop a x)) q ∙ ap (drop (e - a)) (drop_at P (drop a out) a h) ∙ drop-drop (e - a) a out
    ∙ (let j : a + (e - a) ≡ e = omega arith in ap (λ (i : ℕ). drop i out) j) in
    ap (λ (x : List ℕ). take a x ++ (new' ++ drop (e - a) (drop a o))) q
    ∙ ap (λ (x : List ℕ). x ++ (new' ++ drop (e - a) (drop a o))) (take_at P (drop a out) a h)
    ∙ ap (λ (x : List ℕ). P ++ (x ++ drop (e - a) (drop a o))) n
    ∙ ap (λ (x : List ℕ). P ++ (new ++ x)) r ∙ sym (append_assoc P new (drop e out))

-- a header and five sections, each lent its own part
pub sections : (out h cs fs ls code zs h' cs' fs' ls' code' zs' : List ℕ) (a : ℕ) → length h ≡ a → h' ≡ h → cs' ≡ cs → fs' ≡ fs → ls' ≡ ls → code' ≡ code → zs' ≡ zs
    → let b : ℕ = a + length cs in
    let d : ℕ = b + length fs in
    let g : ℕ = d + length ls in
    let k : ℕ = g + length code in
    let e : ℕ = k + length zs in
    put_mid k (e - k) (put_mid g (k - g) (put_mid d (g - d) (put_mid b (d - b) (put_mid a (b - a) (put_mid 0 (a - 0) out h') cs') fs') ls') code') zs'
    ≡ (h ++ (cs ++ (fs ++ (ls ++ (code ++ zs))))) ++ drop e out
sections out h cs fs ls code zs h' cs' fs' ls' code' zs' a l qh qc qf ql qn qz =
    let b : ℕ = a + length cs in
    let d : ℕ = b + length fs in
    let g : ℕ = d + length ls in
    let k : ℕ = g + length code in
    let e : ℕ = k + length zs in
    let o₁ : List ℕ = put_mid 0 (a - 0) out h' in
    let o₂ : List ℕ = put_mid a (b - a) o₁ cs' in
    let o₃ : List ℕ = put_mid b (d - b) o₂ fs' in
    let o₄ : List ℕ = put_mid d (g - d) o₃ ls' in
    let o₅ : List ℕ = put_mid g (k - g) o₄ code' in
    let p₂ : length (h ++ cs) ≡ b = length-append h cs ∙ ap (λ (x : ℕ). x + length cs) l in
    let p₃ : length ((h ++ cs) ++ fs) ≡ d = length-append (h ++ cs) fs ∙ ap (λ (x : ℕ). x + length fs) p₂ in
    let p₄ : length (((h ++ cs) ++ fs) ++ ls) ≡ g = length-append ((h ++ cs) ++ fs) ls ∙ ap (λ (x : ℕ). x + length ls) p₃ in
    let p₅ : length ((((h ++ cs) ++ fs) ++ ls) ++ code) ≡ k = length-append (((h ++ cs) ++ fs) ++ ls) code ∙ ap (λ (x : ℕ). x + length code) p₄ in
    let e₁ : o₁ ≡ h ++ drop a out = section out [] h out h' 0 a refl refl (omega arith) qh in
    let e₂ : o₂ ≡ (h ++ cs) ++ drop b out = section o₁ h cs out cs' a b e₁ l refl qc in
    let e₃ : o₃ ≡ ((h ++ cs) ++ fs) ++ drop d out = section o₂ (h ++ cs) fs out fs' b d e₂ p₂ refl qf in
    let e₄ : o₄ ≡ (((h ++ cs) ++ fs) ++ ls) ++ drop g out = section o₃ ((h ++ cs) ++ fs) ls out ls' d g e₃ p₃ refl ql in
    let e₅ : o₅ ≡ ((((h ++ cs) ++ fs) ++ ls) ++ code) ++ drop k out = section o₄ (((h ++ cs) ++ fs) ++ ls) code out code' g k e₄ p₄ refl qn in
    let re : ((((h ++ cs) ++ fs) ++ ls) ++ code) ++ zs ≡ h ++ (cs ++ (fs ++ (ls ++ (code ++ zs)))) = simp append_assoc in
    section o₅ ((((h ++ cs) ++ fs) ++ ls) ++ code) zs out zs' k e e₅ p₅ refl qz ∙ ap (λ (x : List ℕ). x ++ drop e out) re

-- ---- refusals

-- row 4, with the count of functions m
pub counted_over : (e : ℕ) (cs fs ls code zs : List ℕ) (m : ℕ) → m ≡ function_count e fs → (over : Bool)
    → over ≡ over_limits e (constant_count cs) m (label_count ls) (length code) (structure_count zs)
    → over ≡ over_limits e (constant_count cs) (function_count e fs) (label_count ls) (length code) (structure_count zs)
counted_over e cs fs ls code zs m q over h = h ∙ ap (λ (k : ℕ). over_limits e (constant_count cs) k (label_count ls) (length code) (structure_count zs)) q

-- what rows 4 and 5 leave
pub fits_of : (e : ℕ) (cs fs ls code zs : List ℕ) (n : ℕ) (over : Bool)
    → over ≡ over_limits e (constant_count cs) (function_count e fs) (label_count ls) (length code) (structure_count zs) → over ≡ false
    → (differs (length cs % 12) 0 || differs (length fs % function_size e) 0 || differs (length ls % 8) 0 || differs (length zs % 12) 0 || ltb (length code) n) ≡ false
    → Fits e fs code n × (structure_count zs ≤ structure_limit e)
fits_of e cs fs ls code zs n over is within parts =
    let c : Bool = ltb 1024 (constant_count cs) in
    let f : Bool = ltb 128 (function_count e fs) in
    let l : Bool = ltb 256 (label_count ls) in
    let l4 = or_neither (c || f || l || ltb 16384 (length code)) (ltb (structure_limit e) (structure_count zs)) (sym is ∙ within) in
    let l3 = or_neither (c || f || l) (ltb 16384 (length code)) l4.0 in
    let l2 = or_neither (c || f) l l3.0 in
    let p = or_neither (differs (length cs % 12) 0 || differs (length fs % function_size e) 0 || differs (length ls % 8) 0 || differs (length zs % 12) 0) (ltb (length code) n) parts in
    (record { few_functions = ltb-false _ _ (or_neither c f l2.0).1; little_code = ltb-false _ _ l3.1; entry_inside = ltb-false _ _ p.1 }, ltb-false _ _ l4.1)

-- a refusal's answer, whatever the file would be
pub refused_with : (e : Refusal) (file out : List ℕ) → wrote (Unwritten (refusal_number e)) out ≡ write_with (refusal_number e) file out
refused_with e file out = go (refusal_number e) (refusal_some e)
  where
    go : (n : ℕ) → (n ≡ 0 → ⊥) → wrote (Unwritten n) out ≡ write_with n file out
    go zero h = absurd (h refl)
    go (suc n) h = refl

pub refused_is : (t : Tables) (out : List ℕ) (e : Refusal) → refusal_number e ≡ table_refusal t → wrote (Unwritten (refusal_number e)) out ≡ write t out
unfolding write
refused_is t out e q = refused_with e (file_of t) out ∙ ap (λ (k : ℕ). write_with k (file_of t) out) q

-- tables of which no row holds
module _ (t : Tables) (good : table_refusal t ≡ 0) where
  -- only edition 4 has structures
  pub no_structures : (t.bodies.edition ≡ 4 → ⊥) → t.bodies.structures ≡ []
  no_structures other =
      let g = good_tables t good in
      let few : structure_count t.bodies.structures ≤ 0 = rw (ne_eqb t.bodies.edition 4 other) at g.few_allowed in
      none t.bodies.structures (omega (arith, g.whole_structures))
    where
      none : (l : List ℕ) → length l ≡ 0 → l ≡ []
      none [] h = refl
      none (x ∷ l) h = absurd (omega arith)

  pub small : file_length t < 2 ^ 32
  small = (fits t good).1

  module _ (out : List ℕ) where
    pub short_is : length out < file_length t → wrote (Unwritten 16) out ≡ write t out
    unfolding write
    short_is h = let l : length out < length (file_of t) = omega (arith, length_file t) in rw good (simp (lt-ltb _ _ l))

    pub takes : file_length t ≤ length out → Takes out t
    takes h = record { long = h; edition_small = (fits t good).0; small = small; entry_small = (fits t good).2 }

    pub written_is : file_length t ≤ length out → (k : ℕ) → k ≡ file_length t → (out' : List ℕ) → out' ≡ filled_with t out → wrote (Written k) out' ≡ write t out
    unfolding write
    written_is h k e out' q =
        let l : length (file_of t) ≤ length out = omega (arith, length_file t) in
        let f : length (file_of t) ≡ file_length t = length_file t in
        rw good (simp (le-ltb _ _ l) (rw (e, q, f) refl))
