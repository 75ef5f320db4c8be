-- The proof of `transfer::flea`.
use Rattle.transfer.proofs.Structures.{field_low, flea_empty, flea_number, flea_low, flea_none, flea_falls}
use Rattle.soundness.specs.Readable.{pointer_back}
use Rattle.rules.specs.ModuleFile.{read}
use native.Mathlib.Omega.{arith}
use Prim.Native.Nat.{ℕ, ◌+◌, ◌-◌, ◌%◌}
use mathlib.Core.Path.{refl, sym, ap, ◌∙◌}
use Rattle.transfer.proofs.flea.Goals as goal

pub returns-then-h-lt1 : goal.returns-then-h-lt1
returns-then-h-lt1 c = λ b. flea_empty _ c.requires.file_value b _ _ _ c.requires.holds _ c.from-h.ensures c.if-h-lt1.true

pub returns-then-t-lt128 : goal.returns-then-t-lt128
returns-then-t-lt128 c = λ b. flea_number _ c.requires.file_value b _ _ _ c.requires.holds _ c.from-h.ensures c.if-h-lt1.false c.if-t-lt128.true

pub returns-then-k-lt10 : goal.returns-then-k-lt10
returns-then-k-lt10 c = λ b. flea_low _ c.requires.file_value b _ _ _ c.requires.holds _ c.from-h.ensures c.if-h-lt1.false c.if-t-lt128.false (omega (arith, c.from-k.ensures, c.slice_known-3-1.given (31 + c.from-h.result))) _ (ap (λ (x : ℕ). x % 64) c.from-k.ensures) c.if-k-lt10.true

pub returns-then-to-eq0 : goal.returns-then-to-eq0
returns-then-to-eq0 c = λ b. flea_none _ c.requires.file_value b _ _ _ c.requires.holds _ c.from-h.ensures c.if-h-lt1.false c.if-t-lt128.false (omega (arith, c.from-k.ensures, c.slice_known-3-1.given (31 + c.from-h.result))) _ (ap (λ (x : ℕ). x % 64) c.from-k.ensures) c.if-k-lt10.false _ refl (sym c.field-to.ensures ∙ c.if-to-eq0.true)

pub overflow_add-t-2 : goal.overflow_add-t-2
overflow_add-t-2 c = let l = field_low c.field-to.result (read c.args.file.now) (10 + (c.from-k.result % 64 - 10)) c.args.n c.field-to.ensures in omega (arith, l, c.from-k.ensures, c.slice_known-3-1.given (31 + c.from-h.result))

pub retype-requires : goal.retype-requires
retype-requires c = (c.requires.holds, omega (arith, c.from-h.ensures, c.if-h-lt1.false), pointer_back _ (omega (arith, c.if-t-lt128.false)))

pub returns : goal.returns
returns c = λ b. flea_falls _ c.requires.file_value b _ _ _ c.requires.holds _ c.from-h.ensures c.if-h-lt1.false c.if-t-lt128.false (omega (arith, c.from-k.ensures, c.slice_known-3-1.given (31 + c.from-h.result))) _ (ap (λ (x : ℕ). x % 64) c.from-k.ensures) c.if-k-lt10.false _ refl _ c.field-to.ensures c.if-to-eq0.false _ c.retype.ensures
