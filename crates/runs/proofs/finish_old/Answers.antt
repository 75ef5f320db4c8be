use Rattle.runs.proofs.Waits.{old_structures}
use Rattle.runs.proofs.Resumed.{lent_old}
use native.Mathlib.Omega.{arith}
use Rattle.runs.proofs.finish_old.Goals as goal

pub translate-requires : goal.translate-requires
translate-requires c = omega (arith, c.requires.packed.0.whole, c.requires.packed.0.little_code, c.requires.packed.0.code_is, old_structures _ _ c.requires.packed.0 c.requires.packed.2)

pub finish-requires : goal.finish-requires
finish-requires c = record { packed = (c.requires.packed.0, c.requires.packed.1, lent_old _ c.requires.packed.1 _ c.requires.packed.0.code_is c.requires.packed.2 c.translate.ensures); standing = c.requires.standing }
