use Rattle.nodes.proofs.Lists.{waiting_nothing, waiting_node}
use Rattle.std.specs.Prelude.{Some}
use mathlib.Core.Path.{ap, sym, ◌∙◌}
use Prim.Native.Nat.{ℕ, ◌+◌}
use lib.ListN.{get_or}
use Rattle.nodes.proofs.list.first.Goals as goal

pub returns-then-i-n : goal.returns-then-i-n
returns-then-i-n c = waiting_nothing _ (sym c.from-i.ensures ∙ c.if-i-n.true ∙ c.from-n.ensures)

pub returns : goal.returns
returns c = ap Some (c.from.ensures ∙ ap (λ (j : ℕ). get_or c.args.marks.now (256 + j) 0) c.from-i.ensures) ∙ waiting_node _ (λ z. c.if-i-n.false (c.from-i.ensures ∙ z ∙ sym c.from-n.ensures))
