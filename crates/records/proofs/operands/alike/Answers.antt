-- The proof of `records::operands::alike`.
use borrow.Author.Tests.{eq-eqb, ne_eqb, lt-ltb, le-ltb}
use mathlib.Core.Path.{refl}
use Rattle.records.proofs.operands.alike.Goals as goal

pub returns-then-t-u : goal.returns-then-t-u
returns-then-t-u c = rw (eq-eqb c.args.t c.args.u c.if-t-u.true) refl

pub returns-then-t-lt192 : goal.returns-then-t-lt192
returns-then-t-lt192 c = rw (ne_eqb c.args.t c.args.u c.if-t-u.false, lt-ltb c.args.t 192 c.if-t-lt192.true) refl

pub returns : goal.returns
returns c = rw (ne_eqb c.args.t c.args.u c.if-t-u.false, le-ltb c.args.t 192 c.if-t-lt192.false) refl
