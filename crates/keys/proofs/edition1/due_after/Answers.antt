-- The proof of `keys::edition1::due_after`.
use native.Mathlib.Omega.{arith}
use borrow.Author.Tests.{lt-ltb, le-ltb, eq-eqb, ne_eqb}
use Rattle.keys.proofs.Translation.{due_later, due_first}
use Rattle.keys.proofs.edition1.due_after.Goals as goal

pub returns-then-due-gt0 : goal.returns-then-due-gt0
returns-then-due-gt0 c = due_later _ c.args.b c.if-due-gt0.true

pub returns-then-b-gt37 : goal.returns-then-b-gt37
returns-then-b-gt37 c = due_first c.args.due c.args.b 0 (omega arith) (omega arith) (simp (lt-ltb _ _ c.if-b-gt37.true))

pub returns-then-k-eq1 : goal.returns-then-k-eq1
returns-then-k-eq1 c = due_first c.args.due c.args.b 4 (omega arith) (omega arith) (simp (le-ltb _ _ c.if-b-gt37.false, ← c.from-k.ensures, eq-eqb _ _ c.if-k-eq1.true))

pub returns : goal.returns
returns c = due_first c.args.due c.args.b 0 (omega arith) (omega arith) (simp (le-ltb _ _ c.if-b-gt37.false, ← c.from-k.ensures, ne_eqb _ _ c.if-k-eq1.false))
