use borrow.Author.Tests.{not-true, not-false}
use Rattle.checker.proofs.Turns.{still_working}
use Rattle.checker.proofs.Starting.{body_refused, body_drained}
use borrow.Author.Rules.{rules}
use Rattle.checker.proofs.bodies.check_body.Goals as goal

pub returns-then-not-started : goal.returns-then-not-started
returns-then-not-started g c = body_refused _ _ _ _ _ _ _ (rw (not-true c.begin-started.result c.if-not-started.true-raw) at c.begin-started.ensures)

pub drain-requires : goal.drain-requires
drain-requires g c = record { working = still_working _ _ _ _ _ _ _ _ c.requires.working c.begin-started.ensures.grows c.begin-started.ensures.sound; st_len = search rules; keyed = c.requires.keyed }

pub returns : goal.returns
returns g c = body_drained _ _ _ _ _ _ _ c.requires.working.tabled (rw (not-false c.begin-started.result c.if-not-started.false-raw) at c.begin-started.ensures) _ _ _ c.drain.ensures
