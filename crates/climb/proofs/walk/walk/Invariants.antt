-- The invariants and measures of `climb::walk::walk`.
use Prim.Native.Nat.{suc, ◌-◌}
use Rattle.rules.specs.Tables.{body_of}
use Rattle.tracks.specs.Loop.{Walking}
use Rattle.climb.proofs.walk.walk.Given as goal

abbrev pub invariant-loop-b : goal.invariant-loop-b
invariant-loop-b l = Walking l.file l.table (body_of l.owner) l.initial.«at» l.initial.ground_level l.initial.marks l.initial.grounds l.initial.row l.known l.marks l.grounds l.row l.most l.«at» l.locals l.ground_level l.height

abbrev pub decreases-loop-b : goal.decreases-loop-b
decreases-loop-b l = suc l.end - l.«at»
