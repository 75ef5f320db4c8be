use Rattle.rules.specs.Bytes.{written}
use mathlib.Core.Path.{◌∙◌, ap}
use Rattle.beside.proofs.put_head.Goals as goal

pub returns : goal.returns
returns c = c.store32-2.ensures ∙ ap (λ x. written 4 x 4 8) c.store32.ensures
