use Rattle.desk.proofs.Lines.{as_long, height_low, accepted_fills}
use Rattle.desk.proofs.reports.accepted_text.Goals as goal

pub run_text-requires : goal.run_text-requires
run_text-requires c = (as_long 32768 c.run-answer.new.payloads c.run-answer.auto.payloads, as_long 4096 c.run-answer.new.types c.run-answer.auto.types, c.requires, height_low _ _ _ _ _ _ _ _ _ c.run-answer.ensures.same c.run-answer.auto.types)

pub returns : goal.returns
returns c = accepted_fills _ _ _ _ _ _ _ _ _ _ c.run-answer.ensures.same c.run_text.ensures
