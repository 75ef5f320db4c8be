-- The proof of `control::jumps::target`.
use mathlib.Core.Path.{sym, ap, ◌∙◌}
use Rattle.reader.specs.Answers.{label_in}
use Rattle.rules.specs.Machine.{owned}
use Rattle.rules.specs.ModuleFile.{read}
use Rattle.state.specs.State.{top_of}
use Rattle.control.proofs.Files.{owner_good}
use Rattle.control.proofs.JumpLaws.{owner_same, owner_other}
use Rattle.control.proofs.jumps.target.Goals as goal

pub returns-in_err-l : goal.returns-in_err-l
returns-in_err-l c = rw c.from_residual.ensures
    (ap (owned (top_of c.args.r c.args.f.now).body) (sym (ap label_in c.in_err-l.was) ∙ c.label.ensures ∙ ap (read c.args.file.now).label c.operand-n.ensures))

pub returns-then-l-from : goal.returns-then-l-from
returns-then-l-from c = let e = sym (ap label_in c.in_ok-l.was) ∙ c.label.ensures in
    let good = owner_good _ c.requires.packed.1 _ c.in_ok-l.l e in
    owner_other c.in_ok-l.l.owner _ c.in_ok-l.l.place good (λ q. c.if-l-from.true (q ∙ sym c.from.ensures)) ∙ ap (owned (top_of c.args.r c.args.f.now).body) (e ∙ ap (read c.args.file.now).label c.operand-n.ensures)

pub returns : goal.returns
returns c = let e = sym (ap label_in c.in_ok-l.was) ∙ c.label.ensures in
    let good = owner_good _ c.requires.packed.1 _ c.in_ok-l.l e in
    owner_same c.in_ok-l.l.owner _ c.in_ok-l.l.place good (c.if-l-from.false ∙ c.from.ensures) ∙ ap (owned (top_of c.args.r c.args.f.now).body) (e ∙ ap (read c.args.file.now).label c.operand-n.ensures)
