use Rattle.runs.proofs.Waits.{long_enough}
use mathlib.Core.Path.{sym, ◌∙◌}
use native.Mathlib.Omega.{arith}
use Rattle.runs.proofs.run_rest.Goals as goal

pub word-edition-requires : goal.word-edition-requires
word-edition-requires c = omega (arith, long_enough _ _ c.requires.packed.0)

pub run_old-requires : goal.run_old-requires
run_old-requires c = record { packed = (c.requires.packed.0, c.requires.packed.1, sym c.word-edition.ensures.0 ∙ c.if-edition-eq1.true, c.if-c-le512.true); standing = c.requires.standing }
