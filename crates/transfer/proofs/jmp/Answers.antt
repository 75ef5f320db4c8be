-- The proof of `transfer::jmp`.
use mathlib.Core.Path.{sym}
use Rattle.transfer.proofs.Labels.{jmp_nowhere, jmp_jumps}
use Rattle.transfer.proofs.jmp.Goals as goal

pub returns-in_default : goal.returns-in_default
returns-in_default c = λ q r h. jmp_nowhere _ _ _ q r h (sym c.in_default.ensures)

pub returns : goal.returns
returns c = λ q r h. jmp_jumps _ _ _ q r h _ (sym c.in-Some.ensures)
