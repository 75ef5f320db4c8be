use mathlib.Core.Path.{sym}
use Rattle.climb.proofs.Starting.{entry_starts, function_there, function_starts}
use Rattle.climb.proofs.heights.parameters.Goals as goal

pub returns-then-owner-eq-ENTRY : goal.returns-then-owner-eq-ENTRY
returns-then-owner-eq-ENTRY c = entry_starts c.args.file.now c.args.owner c.if-owner-eq-ENTRY.true

pub returns-in_default : goal.returns-in_default
returns-in_default c = absurd (function_there c.args.file.now c.requires.1 c.args.owner c.if-owner-eq-ENTRY.false c.requires.2 (sym c.in_default.ensures))

pub returns : goal.returns
returns c = function_starts c.args.file.now c.requires.1 c.args.owner c.if-owner-eq-ENTRY.false c.requires.2 c.in-Some.f c.in-Some.ensures
