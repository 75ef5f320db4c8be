-- The proof of `runs::clear_part`.
use Rattle.runs.proofs.Final.{cleared}
use Rattle.runs.proofs.clear_part.Goals as goal

pub returns : goal.returns
returns c = cleared c.args.s.now c.fill.new.self _ _ c.requires.0 c.requires.1 (c.fill.ensures.after (λ y q. q))
