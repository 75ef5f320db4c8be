-- What an instruction that keeps a number's type gives, by the type. Assumes nothing.
use mathlib.Core.Path.{◌≡◌, refl}
use mathlib.Core.Bool.{true, false}
use Rattle.rules.specs.Instructions.{is_pointer}
use Rattle.rules.specs.Operations.{apply1, low, raises, negated, complemented, bumped, computed, on_words, on_doubles}
use Rattle.rules.specs.declared.Slot.{Slot}
use Rattle.rules.specs.declared.Unary.{Unary}
use Rattle.values.specs.Values.{gives}
use Rattle.values.specs.Changes.{Keeping, negs, nots, counts, changed, double_changed}

module _ (s : Slot) where
  pub int_changed : {u : Unary} → Keeping u → s.kind ≡ 3 → gives 3 (changed 32 u (low s.payload)) ≡ apply1 u s
  unfolding negated complemented bumped computed on_words
  int_changed negs e = rw e refl
  int_changed nots e = rw e refl
  int_changed (counts true) e = rw e refl
  int_changed (counts false) e = rw e refl

  pub long_changed : {u : Unary} → Keeping u → s.kind ≡ 4 → gives 4 (changed 64 u s.payload) ≡ apply1 u s
  unfolding negated complemented bumped computed on_words
  long_changed negs e = rw e refl
  long_changed nots e = rw e refl
  long_changed (counts true) e = rw e refl
  long_changed (counts false) e = rw e refl

  pub double_is : {u : Unary} → Keeping u → s.kind ≡ 6 → double_changed u s.payload ≡ apply1 u s
  unfolding negated complemented bumped computed on_doubles
  double_is negs e = rw e refl
  double_is nots e = rw e refl
  double_is (counts true) e = rw e refl
  double_is (counts false) e = rw e refl

  pub pointer_is : {u : Unary} → Keeping u → is_pointer s.kind ≡ true → raises 32 ≡ apply1 u s
  pointer_is negs e = rw e refl
  pointer_is nots e = rw e refl
  pointer_is (counts u) e = rw e refl
