-- The proof of `formula::stop`.
use Rattle.grammar.specs.Scanned.{reads_stops}
use Rattle.formula.proofs.stop.Goals as goal

pub returns-in-Err : goal.returns-in-Err
returns-in-Err c = c.in-Err.ensures.1

pub returns-in-Ok : goal.returns-in-Ok
returns-in-Ok c = reads_stops c.args.line.now _ c.in-Ok.ensures
