-- The proof of `runs::find`.
use mathlib.Core.Path.{sym, ap, ◌∙◌}
use Rattle.reader.specs.Answers.{function_found}
use Rattle.runs.proofs.Bodies.{names_entry, names_none, names_function}
use Rattle.runs.proofs.find.Goals as goal

pub returns-then-function-eq-ENTRY : goal.returns-then-function-eq-ENTRY
returns-then-function-eq-ENTRY c = names_entry _ _ c.requires.0 _ c.if-function-eq-ENTRY.true

pub returns-in_err-g : goal.returns-in_err-g
returns-in_err-g c = rw c.from_residual.ensures (names_none _ _ c.requires.0 _ c.if-function-eq-ENTRY.false (sym c.function.ensures ∙ ap (function_found _ _) c.in_err-g.was))

pub returns : goal.returns
returns c =
    names_function _ _ c.requires.0 _ c.if-function-eq-ENTRY.false c.requires.1 c.in_ok-g.g (sym (ap (function_found _ _) c.in_ok-g.was) ∙ c.function.ensures)
