-- The constants of an opened file where they lie in it, up to its end.
use Prim.Native.Nat.{ℕ, ◌+◌, ◌*◌, ◌<◌}
use native.Mathlib.Omega.{arith}
use mathlib.Core.Path.{◌≡◌, refl, sym, ap, ◌∙◌}
use mathlib.Core.List.{List}
use mathlib.Core.Option.{some}
use lib.Dec.{ltb}
use lib.ListN.{take, drop}
use lib.Seq.{drop-drop, get_or-drop}
use borrow.Author.Tests.{ltb-true}
use Rattle.rules.specs.Bytes.{byte, number, word, within}
use Rattle.rules.specs.Tables.{constant_count, constant_of, module_of}
use Rattle.rules.specs.ModuleFile.{constants_in, read}
use Rattle.soundness.specs.Tests.{decide}
use Rattle.format.specs.declared.Sections.{Sections}
use Rattle.format.specs.Layout.{Packed}
use Rattle.reader.proofs.Records.{constants_length, constant_byte, constant_word}

module _ (s : List ℕ) (c : Sections) (k : Packed s c) (i : ℕ) where
  pool_slot : i < c.constants → constant_of (drop c.pool s) i ≡ constant_of (constants_in s) i
  unfolding constant_of word
  pool_slot h =
      let q : c.pool + (12 * i + 4) ≡ c.pool + 12 * i + 4 = omega arith in
      let b : byte (drop c.pool s) (12 * i) ≡ byte (constants_in s) (12 * i) = get_or-drop c.pool s (12 * i) 0 ∙ sym (constant_byte s c k i h) in
      let w : word 8 (drop c.pool s) (12 * i + 4) ≡ word 8 (constants_in s) (12 * i + 4) =
      ap (λ (x : List ℕ). number (take 8 x)) (drop-drop (12 * i + 4) c.pool s) ∙ ap (word 8 s) q ∙ sym (constant_word s c k 8 i 4 h (omega arith)) in
      rw (b, w) refl

  -- what is read of the pool is the file's constant
  pub pool_constant : within (ltb i c.constants) (constant_of (drop c.pool s) i) ≡ (read s).constant i
  unfolding module_of
  pool_constant =
      let l = constants_length s c k in
      let n : c.constants ≡ constant_count (constants_in s) = omega arith in
      decide (ltb i c.constants) (λ e. rw (← n, e) (ap some (pool_slot (ltb-true i c.constants e)))) (λ e. rw (← n, e) refl)
