-- The proof of `records::pointers::delete`.
use Rattle.records.proofs.PointerLaws.{delete_empty, delete_number, delete_managed, delete_falls}
use Rattle.records.proofs.pointers.delete.Goals as goal

pub returns-then-h-lt1 : goal.returns-then-h-lt1
returns-then-h-lt1 c = delete_empty _ _ (c.requires) c.from-h.ensures _ c.if-h-lt1.true

pub returns-then-t-lt128 : goal.returns-then-t-lt128
returns-then-t-lt128 c = delete_number _ _ (c.requires) c.from-h.ensures _ c.if-h-lt1.false c.if-t-lt128.true

pub returns-then-t-gt191 : goal.returns-then-t-gt191
returns-then-t-gt191 c = delete_managed _ _ (c.requires) c.from-h.ensures _ c.if-h-lt1.false c.if-t-gt191.true

pub returns : goal.returns
returns c = delete_falls _ _ (c.requires) c.from-h.ensures _ c.if-h-lt1.false c.if-t-lt128.false c.if-t-gt191.false _ c.pop.ensures
