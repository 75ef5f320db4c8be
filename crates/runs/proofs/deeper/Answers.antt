use Rattle.runs.proofs.Waits.{long_enough}
use Rattle.runs.proofs.Resumed.{stands_longer, rest_longer}
use Rattle.keys.proofs.Files.{file_keyed}
use mathlib.Core.Path.{sym, ◌∙◌}
use native.Mathlib.Omega.{arith}
use Rattle.runs.proofs.deeper.Goals as goal

pub word-edition-requires : goal.word-edition-requires
word-edition-requires c = omega (arith, long_enough _ _ c.requires.packed.0)

pub finish_old-requires : goal.finish_old-requires
finish_old-requires c = record { packed = (c.requires.packed.0, c.requires.packed.1, sym c.word-edition.ensures.0 ∙ c.if-edition-eq1.true); standing = (stands_longer _ c.requires.standing c.copy_words.ensures c.copy_words.auto.to, c.copy_words.auto.to) }

pub returns-then-edition-eq1 : goal.returns-then-edition-eq1
returns-then-edition-eq1 c = rest_longer c.copy_words.new.to c.requires.standing c.copy_words.ensures c.finish_old.ensures

pub finish-requires : goal.finish-requires
finish-requires c = record { packed = (c.requires.packed.0, c.requires.packed.1, file_keyed _ c.requires.packed.1 _ c.requires.packed.0.code_is (λ q. c.if-edition-eq1.false (c.word-edition.ensures.0 ∙ q))); standing = (stands_longer _ c.requires.standing c.copy_words.ensures c.copy_words.auto.to, c.copy_words.auto.to) }

pub returns : goal.returns
returns c = rest_longer c.copy_words.new.to c.requires.standing c.copy_words.ensures c.finish.ensures
