use Rattle.checker.proofs.Arrivals.{before_end, place_in_table}
use Rattle.checker.proofs.Turns.{passes_on, node_met, node_breaks}
use mathlib.Core.Logic.{inl, inr}
use mathlib.Core.Path.{refl, sym, ◌∙◌}
use native.Mathlib.Omega.{arith}
use Rattle.checker.proofs.walk.land.Goals as goal

pub node_at-v-requires : goal.node_at-v-requires
node_at-v-requires c = place_in_table _ _ c.requires.working.readable c.requires.working.tabled _ c.requires.working.has _ c.requires.standing.stands.place

pub returns-then-v-eq0 : goal.returns-then-v-eq0
returns-then-v-eq0 c = record { turned = passes_on _ _ _ _ _ _ _ _ c.requires.working.sound (omega arith) c.requires.standing.stands (inr (sym c.node_at-v.ensures ∙ c.if-v-eq0.true)); marks_unchanged = refl }

pub returns-then-q-e : goal.returns-then-q-e
returns-then-q-e c = record { turned = passes_on _ _ _ _ _ _ _ _ c.requires.working.sound (omega arith) c.requires.standing.stands (inl (c.if-q-e.true ∙ c.requires.e_value)); marks_unchanged = refl }

pub arrive-same-requires : goal.arrive-same-requires
arrive-same-requires c = record { working = c.requires.working; standing = c.requires.standing; q_bound = (before_end _ c.requires.working.readable _ c.requires.working.has _ c.requires.standing.stands.place (λ z. c.if-q-e.false (z ∙ sym c.requires.e_value)), c.node_at-v.ensures, omega (arith, c.if-v-eq0.false)) }

pub returns-then-same : goal.returns-then-same
returns-then-same c = record { turned = node_met _ _ _ _ _ _ _ _ _ _ (rw c.if-same.true at c.arrive-same.ensures.left); marks_unchanged = c.arrive-same.ensures.marks_unchanged }

pub returns : goal.returns
returns c = record { turned = node_breaks _ _ _ _ _ _ _ _ _ _ _ (rw c.if-same.false at c.arrive-same.ensures.left); marks_unchanged = c.arrive-same.ensures.marks_unchanged }
