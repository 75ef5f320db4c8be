-- The proof of `writer::put_pair`.
use Prim.Native.Nat.{◌+◌}
use mathlib.Core.Path.{◌∙◌, ap}
use Rattle.rules.specs.Bytes.{written}
use Rattle.writer.proofs.put_pair.Goals as goal

pub returns : goal.returns
returns c = c.store32-2.ensures ∙ ap (λ x. written 4 x (c.args.at + 4) c.args.offset) c.store32.ensures
