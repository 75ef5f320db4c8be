-- The invariants and measures of `climb::bodies::drain`.
use Rattle.rules.specs.Tables.{body_of}
use Rattle.tracks.specs.Visits.{Drained, fuel}
use Rattle.climb.proofs.bodies.drain.Given as goal

abbrev pub invariant-loop-k : goal.invariant-loop-k
invariant-loop-k l = Drained l.file l.table (body_of l.owner) l.initial.marks l.initial.grounds l.initial.row l.from l.marks l.grounds l.row l.most

abbrev pub decreases-loop-k : goal.decreases-loop-k
decreases-loop-k l = fuel l.marks l.grounds 256
