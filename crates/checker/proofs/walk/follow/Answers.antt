use Rattle.checker.proofs.Turns.{node_met, node_breaks, stops_turn, breaks_turn, both_ways, from_earlier, turn_leads, still_working}
use Rattle.records.specs.declared.Transfer.TheVariants.{Falls, Forks}
use mathlib.Core.Path.{refl, ◌∙◌}
use Rattle.checker.proofs.walk.follow.Goals as goal

pub land-requires : goal.land-requires
land-requires c = let h = rw c.in-Falls.is at c.requires.holds.1 in record { working = c.requires.working; standing = record { holds = c.requires.holds.0; stands = h.1 }; e_value = c.requires.e_value }

pub jump-same-requires : goal.jump-same-requires
jump-same-requires c = let h = rw c.in-Jumps.is at c.requires.holds.1 in record { working = c.requires.working; standing = record { holds = c.requires.holds.0; stands = h.1 }; labelled = h.0 }

pub returns-then-same : goal.returns-then-same
returns-then-same c = record { turned = rw c.in-Jumps.is (node_met _ _ _ _ _ _ _ _ _ _ (rw c.if-same.true at c.jump-same.ensures.left)); turn_leads = rw c.in-Jumps.is tt; marks_unchanged = c.jump-same.ensures.marks_unchanged }

pub jump-same-requires-in-Forks : goal.jump-same-requires-in-Forks
jump-same-requires-in-Forks c = let h = rw c.in-Forks.is at c.requires.holds.1 in record { working = c.requires.working; standing = record { holds = c.requires.holds.0; stands = h.0.1 }; labelled = h.0.0 }

pub land-requires-then-same-2 : goal.land-requires-then-same-2
land-requires-then-same-2 c = let h = rw c.in-Forks.is at c.requires.holds.1 in record { working = still_working _ _ _ _ _ _ _ _ c.requires.working c.jump-same-in-Forks.ensures.left.grows c.jump-same-in-Forks.ensures.left.sound; standing = record { holds = c.requires.holds.0; stands = h.1.1 }; e_value = c.requires.e_value }

pub returns-then-same-2 : goal.returns-then-same-2
returns-then-same-2 c = let h = rw c.in-Forks.is at c.requires.holds.1 in record { turned = rw c.in-Forks.is (both_ways _ _ c.requires.working.tabled _ _ _ _ _ _ _ _ _ _ _ _ (rw c.if-same-2.true at c.jump-same-in-Forks.ensures.left) (from_earlier _ _ _ _ _ _ _ _ _ _ _ _ h.1.0 c.land-then-same-2.ensures.turned)); turn_leads = rw c.in-Forks.is (turn_leads (Forks c.in-Forks.x c.in-Forks.q) tt c.land-then-same-2.result); marks_unchanged = c.land-then-same-2.ensures.marks_unchanged ∙ c.jump-same-in-Forks.ensures.marks_unchanged }

pub returns-in-Breaks : goal.returns-in-Breaks
returns-in-Breaks c = let h = rw c.in-Breaks.is at c.requires.holds.1 in record { turned = rw c.in-Breaks.is (breaks_turn _ _ _ _ _ _ _ _ c.requires.working.sound h); turn_leads = tt; marks_unchanged = refl }

pub returns-in-Stops : goal.returns-in-Stops
returns-in-Stops c = record { turned = rw c.in-Stops.is (stops_turn _ _ _ _ _ _ _ c.requires.working.sound); turn_leads = rw c.in-Stops.is tt; marks_unchanged = refl }

pub returns-in-Falls : goal.returns-in-Falls
returns-in-Falls c = let h = rw c.in-Falls.is at c.requires.holds.1 in record { turned = rw c.in-Falls.is (from_earlier _ _ _ _ _ _ _ _ _ _ _ _ h.0 c.land.ensures.turned); turn_leads = rw c.in-Falls.is (turn_leads (Falls c.in-Falls.q) tt c.land.result); marks_unchanged = c.land.ensures.marks_unchanged }

pub returns-else-same : goal.returns-else-same
returns-else-same c = record { turned = rw c.in-Jumps.is (node_breaks _ _ _ _ _ _ _ _ _ _ _ (rw c.if-same.false at c.jump-same.ensures.left)); turn_leads = tt; marks_unchanged = c.jump-same.ensures.marks_unchanged }

pub returns-else-same-2 : goal.returns-else-same-2
returns-else-same-2 c = record { turned = rw c.in-Forks.is (node_breaks _ _ _ _ _ _ _ _ _ _ _ (rw c.if-same-2.false at c.jump-same-in-Forks.ensures.left)); turn_leads = tt; marks_unchanged = c.jump-same-in-Forks.ensures.marks_unchanged }
