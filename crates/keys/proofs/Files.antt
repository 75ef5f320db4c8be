-- Lent bytes that are a module's code in keys: what the module has at a place, they say. Files of editions 3 and 4 lend their own.
use Prim.Native.Nat.{ℕ, ◌+◌, ◌*◌, ◌-◌, ◌≤◌}
use native.Mathlib.Omega.{arith}
use mathlib.Core.Path.{◌≡◌, sym, ap, ◌∙◌, subst}
use mathlib.Core.Bool.{cond}
use mathlib.Core.Option.{some}
use mathlib.Core.List.{List, ◌++◌}
use lib.ListN.{length, take, drop, length-append, length-drop, take-append-drop, get_or-append}
use lib.Seq.{take_all}
use lib.Dec.{eqb}
use borrow.Author.Tests.{ne_eqb}
use Rattle.rules.specs.declared.Instruction.{Instruction}
use Rattle.rules.specs.Bytes.{word}
use Rattle.rules.specs.Instructions.{size}
use Rattle.rules.specs.Tables.{due, module_of}
use Rattle.rules.specs.ModuleFile.{edition, code_length, code_at, structures, structures_at, code_in, read, refusal}
use Rattle.soundness.specs.Cutting.{packed, code_length_lem}
use Rattle.soundness.specs.Translated.{InKeys, in_place, in_keys}
use Rattle.keys.specs.Keys.{Says, Keyed}

-- from a on, to its end
pub code_part : (s : List ℕ) (a : ℕ) → take (length s - a) (drop a s) ≡ drop a s
code_part s a = take_all (length s - a) (drop a s) (let l : length (drop a s) ≡ length s - a = length-drop a s in omega arith)

-- ---- lent code

module _ (file source : List ℕ) (from : ℕ) (k : Keyed file source from) (readable : refusal file ≡ 0) where
  pub code_long : code_length file ≤ length (drop from source)
  code_long = let n : length (code_in file) ≡ code_length file = code_length_lem file readable in let l : length (code_in file) ≤ length (drop from source) = k.keys.long in omega arith

  pub says_at : (q : ℕ) (i : Instruction) → due (edition file) (code_in file) q ≡ 0 → (read file).code q ≡ some i → q + size i ≤ code_length file → Says (drop from source) q i
  unfolding module_of
  says_at q i d c l =
      let n : length (code_in file) ≡ code_length file = code_length_lem file readable in
      record {
        is = in_keys (edition file) (code_in file) (drop from source) k.keys q i d c (omega arith);
        whole = let m : code_length file ≤ length (drop from source) = code_long in omega arith;
      }

-- ---- what is lent for a file

-- bytes behind the code don't matter
more_behind : (e : ℕ) (code own rest : List ℕ) → InKeys e code own → InKeys e code (own ++ rest)
more_behind e code own rest k =
    let l : length code ≤ length own = k.long in
    record {
      long = let q : length (own ++ rest) ≡ length own + length rest = length-append own rest in omega arith;
      keys = λ p h. get_or-append own rest 0 p (omega arith) ∙ k.keys p h;
    }

module _ (s : List ℕ) (readable : refusal s ≡ 0) (a : ℕ) (at : a ≡ code_at s) where
  starts_inside : a ≤ length s
  starts_inside = let w : structures_at s + 12 * structures s ≡ length s = (packed s readable).whole in omega arith

  -- the code begins there
  code_first : drop a s ≡ code_in s ++ drop (code_length s) (drop a s)
  code_first = sym (take-append-drop (code_length s) (drop a s)) ∙ ap (λ n. take (code_length s) (drop n s) ++ drop (code_length s) (drop a s)) at

  -- editions 3 and 4: the file itself
  pub file_keyed : (edition s ≡ 1 → ⊥) → Keyed s s a
  file_keyed n =
      record {
        inside = starts_inside;
        keys = subst (InKeys (edition s) (code_in s)) (sym code_first)
            (more_behind (edition s) (code_in s) (code_in s) (drop (code_length s) (drop a s)) (in_place (edition s) (ne_eqb (edition s) 1 n) (code_in s)));
      }

  -- edition 1: what `translate` made of the file's last section
  pub first_keyed : edition s ≡ 1 → (own : List ℕ) → InKeys 1 (drop a s) own → Keyed s own 0
  first_keyed e own k =
      let w : structures_at s + 12 * structures s ≡ length s = (packed s readable).whole in
      let z : structures s ≡ 0 = ap (λ n. cond (eqb n 4) (word 4 s 48) 0) e in
      let l : length (drop a s) ≡ length s - a = length-drop a s in
      let last : drop a s ≡ code_in s = sym (take_all (code_length s) (drop a s) (omega arith)) ∙ ap (λ n. take (code_length s) (drop n s)) at in
      record { inside = omega arith; keys = subst (λ n. InKeys n (code_in s) own) (sym e) (subst (λ code. InKeys 1 code own) last k) }
