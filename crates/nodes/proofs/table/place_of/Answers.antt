use native.Mathlib.Omega.{arith}
use mathlib.Core.Path.{◌∙◌}
use Rattle.nodes.proofs.Numbering.{place_word, label_in_code}
use Rattle.nodes.proofs.table.place_of.Goals as goal

pub returns : goal.returns
returns c = let e = c.word.ensures.0 ∙ place_word _ _ c.requires.0.0 _ c.requires.1 in let h = label_in_code _ c.requires.0.1 c.args.k (omega (arith, c.requires.1, c.requires.0.0.labels_is)) in (e, omega (arith, e, h, c.requires.0.0.extent_is))
