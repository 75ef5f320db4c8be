-- The proof of `records::pointers::tload`.
use Rattle.records.proofs.PointerLaws.{target_is_type, pointer_empty, pointer_other, tload_falls}
use borrow.Author.Tests.{not-true, not-false}
use native.Mathlib.Omega.{arith}
use mathlib.Core.Path.{sym, ◌∙◌}
use Rattle.records.proofs.pointers.tload.Goals as goal

pub returns-then-h-lt1 : goal.returns-then-h-lt1
returns-then-h-lt1 c = (pointer_empty _ _ (c.requires) c.from-h.ensures _ c.if-h-lt1.true).0

pub returns-then-not-number : goal.returns-then-not-number
returns-then-not-number c = (pointer_other _ _ (c.requires) c.from-h.ensures _ c.if-h-lt1.false (sym c.cell-number.ensures ∙ not-true _ c.if-not-number.true-raw)).0

pub retype-requires : goal.retype-requires
retype-requires c = (c.requires, omega (arith, c.from-h.ensures, c.if-h-lt1.false), target_is_type _ (sym c.cell-number.ensures ∙ not-false _ c.if-not-number.false-raw))

pub returns : goal.returns
returns c = tload_falls _ _ (c.requires) c.from-h.ensures _ c.if-h-lt1.false (sym c.cell-number.ensures ∙ not-false _ c.if-not-number.false-raw) _ c.retype.ensures
