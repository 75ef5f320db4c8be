use Rattle.checker.proofs.Starting.{start_standing, begin_breaks, begin_ends, begin_goes}
use Rattle.checker.proofs.Turns.{still_working}
use Rattle.checker.proofs.bodies.begin.Goals as goal

pub land-turn-requires : goal.land-turn-requires
land-turn-requires g c = record { working = c.requires.working; standing = start_standing _ c.requires.working.readable _ _ _ c.requires.seeded c.start-p.ensures; e_value = c.end-e.ensures }

pub walk-requires : goal.walk-requires
walk-requires g c = let t = rw c.in-Goes.is at c.land-turn.ensures.turned in record { working = still_working _ _ _ _ _ _ _ _ c.requires.working t.grows t.sound; standing = record { holds = c.requires.seeded.holds; stands = t.turn.1 }; keyed = c.requires.keyed }

pub returns-in-Breaks : goal.returns-in-Breaks
returns-in-Breaks g c = begin_breaks _ _ _ _ _ c.requires.seeded c.start-p.ensures _ _ _ _ (rw c.in-Breaks.is at c.land-turn.ensures.turned)

pub returns-in-Ends : goal.returns-in-Ends
returns-in-Ends g c = begin_ends _ _ _ _ _ c.requires.seeded c.start-p.ensures _ _ _ _ (rw c.in-Ends.is at c.land-turn.ensures.turned)

pub returns-in-Goes : goal.returns-in-Goes
returns-in-Goes g c = begin_goes _ _ _ _ _ c.requires.seeded c.start-p.ensures _ _ _ _ _ (rw c.in-Goes.is at c.land-turn.ensures.turned) _ _ _ c.walk.ensures.left
