use native.Mathlib.Omega.{arith}
use mathlib.Core.Path.{sym, ◌∙◌}
use Rattle.tracks.specs.Loop.{walking_start}
use Rattle.climb.proofs.Walking.{plain_step, plain_fits, other_asks, other_finishes, other_step, ends_here, code_fits, keyed}
use Rattle.climb.proofs.walk.walk.Goals as goal

pub end-end-requires : goal.end-end-requires
end-end-requires c = (c.requires.ready.0.packed, c.requires.ready.0.has)

pub loop-b-init : goal.loop-b-init
loop-b-init c = walking_start _ _ _ _ c.requires.ready.0 _ _ _ _ _ _ _ _ _ c.requires.climbing c.requires.standing c.max-most.ensures

pub decode-requires : goal.decode-requires
decode-requires c = code_fits _ _ _ _ c.requires.ready.0 _ c.requires.ready.1 _ c.end-end.ensures _ c.loop-b.invariant.standing.place

pub shape_of-row-in_default : goal.shape_of-row-in_default
shape_of-row-in_default c = c.loop-b.invariant.climbing.wide ∙ sym c.requires.climbing.wide

pub shape_of-marks-in_default : goal.shape_of-marks-in_default
shape_of-marks-in_default c = c.loop-b.invariant.climbing.marked ∙ sym c.requires.climbing.marked

pub shape_of-grounds-in_default : goal.shape_of-grounds-in_default
shape_of-grounds-in_default c = c.loop-b.invariant.climbing.grounded ∙ sym c.requires.climbing.grounded

pub returns-in_default : goal.returns-in_default
returns-in_default c = ends_here _ _ _ _ c.requires.ready.0 _ c.requires.ready.1 _ _ _ _ _ _ _ _ _ _ _ _ _ _ c.loop-b.invariant _ c.end-end.ensures (sym c.in_default.ensures)

pub effect-x-requires : goal.effect-x-requires
effect-x-requires c = (keyed _ _ _ _ c.requires.ready.0 _ c.requires.ready.1 _ _ _ _ _ _ _ _ _ _ _ _ _ _ c.loop-b.invariant _ c.end-end.ensures _ (sym c.in-Some.ensures)).2

pub overflow_add-at : goal.overflow_add-at
overflow_add-at c = let q = (keyed _ _ _ _ c.requires.ready.0 _ c.requires.ready.1 _ _ _ _ _ _ _ _ _ _ _ _ _ _ c.loop-b.invariant _ c.end-end.ensures _ (sym c.in-Some.ensures)).3 in omega (arith, q)

pub overflow_mul-at : goal.overflow_mul-at
overflow_mul-at c = omega (arith, c.if-x-lt16.true)

pub overflow_add-at-then-x-lt16 : goal.overflow_add-at-then-x-lt16
overflow_add-at-then-x-lt16 c = let q = (keyed _ _ _ _ c.requires.ready.0 _ c.requires.ready.1 _ _ _ _ _ _ _ _ _ _ _ _ _ _ c.loop-b.invariant _ c.end-end.ensures _ (sym c.in-Some.ensures)).3 in omega (arith, q, c.if-x-lt16.true)

pub overflow_add-height : goal.overflow_add-height
overflow_add-height c = let q = plain_fits _ _ _ _ c.requires.ready.0 _ c.requires.ready.1 _ _ _ _ _ _ _ _ _ _ _ _ _ _ c.loop-b.invariant _ c.end-end.ensures _ (sym c.in-Some.ensures) _ c.effect-x.ensures c.if-x-lt16.true in omega (arith, q.1)

pub overflow_sub-height : goal.overflow_sub-height
overflow_sub-height c = let q = plain_fits _ _ _ _ c.requires.ready.0 _ c.requires.ready.1 _ _ _ _ _ _ _ _ _ _ _ _ _ _ c.loop-b.invariant _ c.end-end.ensures _ (sym c.in-Some.ensures) _ c.effect-x.ensures c.if-x-lt16.true in q.0

pub met-requires : goal.met-requires
met-requires c = (plain_step _ _ _ _ c.requires.ready.0 _ c.requires.ready.1 _ _ _ _ _ _ _ _ _ _ _ _ _ _ c.loop-b.invariant _ c.end-end.ensures _ (sym c.in-Some.ensures) _ c.effect-x.ensures _ c.if-x-lt16.true c.max-most-then-x-lt16.ensures).2.in_table

pub node_at-requires : goal.node_at-requires
node_at-requires c = (plain_step _ _ _ _ c.requires.ready.0 _ c.requires.ready.1 _ _ _ _ _ _ _ _ _ _ _ _ _ _ c.loop-b.invariant _ c.end-end.ensures _ (sym c.in-Some.ensures) _ c.effect-x.ensures _ c.if-x-lt16.true c.max-most-then-x-lt16.ensures).2.in_table

pub overflow_sub-node_at : goal.overflow_sub-node_at
overflow_sub-node_at c = let m = c.met.ensures c.if-met.true in ((plain_step _ _ _ _ c.requires.ready.0 _ c.requires.ready.1 _ _ _ _ _ _ _ _ _ _ _ _ _ _ c.loop-b.invariant _ c.end-end.ensures _ (sym c.in-Some.ensures) _ c.effect-x.ensures _ c.if-x-lt16.true c.max-most-then-x-lt16.ensures).2.node _ c.node_at.ensures m.0 (λ z. m.1 (z ∙ sym c.end-end.ensures))).0

pub arrive-requires : goal.arrive-requires
arrive-requires c = let m = c.met.ensures c.if-met.true in let p = (plain_step _ _ _ _ c.requires.ready.0 _ c.requires.ready.1 _ _ _ _ _ _ _ _ _ _ _ _ _ _ c.loop-b.invariant _ c.end-end.ensures _ (sym c.in-Some.ensures) _ c.effect-x.ensures _ c.if-x-lt16.true c.max-most-then-x-lt16.ensures).2 in ((p.node _ c.node_at.ensures m.0 (λ z. m.1 (z ∙ sym c.end-end.ensures))).1, p.small, p.sizes)

pub shape_of-row-then-met : goal.shape_of-row-then-met
shape_of-row-then-met c = c.loop-b.invariant.climbing.wide ∙ sym c.requires.climbing.wide

pub shape_of-marks-then-met : goal.shape_of-marks-then-met
shape_of-marks-then-met c = c.arrive.ensures.marked ∙ c.loop-b.invariant.climbing.marked ∙ sym c.requires.climbing.marked

pub shape_of-grounds-then-met : goal.shape_of-grounds-then-met
shape_of-grounds-then-met c = c.arrive.ensures.grounded ∙ c.loop-b.invariant.climbing.grounded ∙ sym c.requires.climbing.grounded

pub returns-then-met : goal.returns-then-met
returns-then-met c = let m = c.met.ensures c.if-met.true in ((plain_step _ _ _ _ c.requires.ready.0 _ c.requires.ready.1 _ _ _ _ _ _ _ _ _ _ _ _ _ _ c.loop-b.invariant _ c.end-end.ensures _ (sym c.in-Some.ensures) _ c.effect-x.ensures _ c.if-x-lt16.true c.max-most-then-x-lt16.ensures).2.node _ c.node_at.ensures m.0 (λ z. m.1 (z ∙ sym c.end-end.ensures))).2 _ _ c.arrive.ensures

pub loop-b-smaller-then-x-lt16 : goal.loop-b-smaller-then-x-lt16
loop-b-smaller-then-x-lt16 c = let q = (keyed _ _ _ _ c.requires.ready.0 _ c.requires.ready.1 _ _ _ _ _ _ _ _ _ _ _ _ _ _ c.loop-b.invariant _ c.end-end.ensures _ (sym c.in-Some.ensures)).0 in omega (arith, q, c.end-end.ensures)

pub loop-b-preserved-then-x-lt16 : goal.loop-b-preserved-then-x-lt16
loop-b-preserved-then-x-lt16 c = (plain_step _ _ _ _ c.requires.ready.0 _ c.requires.ready.1 _ _ _ _ _ _ _ _ _ _ _ _ _ _ c.loop-b.invariant _ c.end-end.ensures _ (sym c.in-Some.ensures) _ c.effect-x.ensures _ c.if-x-lt16.true c.max-most-then-x-lt16.ensures).2.on

pub other-turned-requires : goal.other-turned-requires
other-turned-requires c = record { packed = (c.requires.ready.0.packed, c.requires.ready.0.readable, c.requires.ready.0.tabled); other_asks = other_asks _ _ _ _ c.requires.ready.0 _ c.requires.ready.1 _ _ _ _ _ _ _ _ _ _ _ _ _ _ c.loop-b.invariant _ c.end-end.ensures _ (sym c.in-Some.ensures) _ c.effect-x.ensures c.if-x-lt16.false }

pub shape_of-row-in_default-turned : goal.shape_of-row-in_default-turned
shape_of-row-in_default-turned c = (other_finishes _ _ _ _ c.requires.ready.0 _ c.requires.ready.1 _ _ _ _ _ _ _ _ _ _ _ _ _ _ c.loop-b.invariant _ c.end-end.ensures _ (sym c.in-Some.ensures) _ c.effect-x.ensures c.if-x-lt16.false _ _ _ c.in_default-turned.ensures).climbing.wide ∙ sym c.requires.climbing.wide

pub shape_of-marks-in_default-turned : goal.shape_of-marks-in_default-turned
shape_of-marks-in_default-turned c = (other_finishes _ _ _ _ c.requires.ready.0 _ c.requires.ready.1 _ _ _ _ _ _ _ _ _ _ _ _ _ _ c.loop-b.invariant _ c.end-end.ensures _ (sym c.in-Some.ensures) _ c.effect-x.ensures c.if-x-lt16.false _ _ _ c.in_default-turned.ensures).climbing.marked ∙ sym c.requires.climbing.marked

pub shape_of-grounds-in_default-turned : goal.shape_of-grounds-in_default-turned
shape_of-grounds-in_default-turned c = (other_finishes _ _ _ _ c.requires.ready.0 _ c.requires.ready.1 _ _ _ _ _ _ _ _ _ _ _ _ _ _ c.loop-b.invariant _ c.end-end.ensures _ (sym c.in-Some.ensures) _ c.effect-x.ensures c.if-x-lt16.false _ _ _ c.in_default-turned.ensures).climbing.grounded ∙ sym c.requires.climbing.grounded

pub returns-in_default-turned : goal.returns-in_default-turned
returns-in_default-turned c = other_finishes _ _ _ _ c.requires.ready.0 _ c.requires.ready.1 _ _ _ _ _ _ _ _ _ _ _ _ _ _ c.loop-b.invariant _ c.end-end.ensures _ (sym c.in-Some.ensures) _ c.effect-x.ensures c.if-x-lt16.false _ _ _ c.in_default-turned.ensures

pub met-requires-in-loop-b : goal.met-requires-in-loop-b
met-requires-in-loop-b c = (other_step _ _ _ _ c.requires.ready.0 _ c.requires.ready.1 _ _ _ _ _ _ _ _ _ _ _ _ _ _ c.loop-b.invariant _ c.end-end.ensures _ (sym c.in-Some.ensures) _ c.effect-x.ensures c.if-x-lt16.false _ _ _ _ c.in-Some-turned.ensures _ c.max-most-in-loop-b.ensures).in_table

pub node_at-requires-then-met-2 : goal.node_at-requires-then-met-2
node_at-requires-then-met-2 c = (other_step _ _ _ _ c.requires.ready.0 _ c.requires.ready.1 _ _ _ _ _ _ _ _ _ _ _ _ _ _ c.loop-b.invariant _ c.end-end.ensures _ (sym c.in-Some.ensures) _ c.effect-x.ensures c.if-x-lt16.false _ _ _ _ c.in-Some-turned.ensures _ c.max-most-in-loop-b.ensures).in_table

pub overflow_sub-node_at-then-met-2 : goal.overflow_sub-node_at-then-met-2
overflow_sub-node_at-then-met-2 c = let m = c.met-in-loop-b.ensures c.if-met-2.true in ((other_step _ _ _ _ c.requires.ready.0 _ c.requires.ready.1 _ _ _ _ _ _ _ _ _ _ _ _ _ _ c.loop-b.invariant _ c.end-end.ensures _ (sym c.in-Some.ensures) _ c.effect-x.ensures c.if-x-lt16.false _ _ _ _ c.in-Some-turned.ensures _ c.max-most-in-loop-b.ensures).node _ c.node_at-then-met-2.ensures m.0 (λ z. m.1 (z ∙ sym c.end-end.ensures))).0

pub arrive-requires-then-met-2 : goal.arrive-requires-then-met-2
arrive-requires-then-met-2 c = let m = c.met-in-loop-b.ensures c.if-met-2.true in let p = other_step _ _ _ _ c.requires.ready.0 _ c.requires.ready.1 _ _ _ _ _ _ _ _ _ _ _ _ _ _ c.loop-b.invariant _ c.end-end.ensures _ (sym c.in-Some.ensures) _ c.effect-x.ensures c.if-x-lt16.false _ _ _ _ c.in-Some-turned.ensures _ c.max-most-in-loop-b.ensures in ((p.node _ c.node_at-then-met-2.ensures m.0 (λ z. m.1 (z ∙ sym c.end-end.ensures))).1, p.small, p.sizes)

pub shape_of-row-then-met-2 : goal.shape_of-row-then-met-2
shape_of-row-then-met-2 c = (other_step _ _ _ _ c.requires.ready.0 _ c.requires.ready.1 _ _ _ _ _ _ _ _ _ _ _ _ _ _ c.loop-b.invariant _ c.end-end.ensures _ (sym c.in-Some.ensures) _ c.effect-x.ensures c.if-x-lt16.false _ _ _ _ c.in-Some-turned.ensures _ c.max-most-in-loop-b.ensures).wide ∙ sym c.requires.climbing.wide

pub shape_of-marks-then-met-2 : goal.shape_of-marks-then-met-2
shape_of-marks-then-met-2 c = c.arrive-then-met-2.ensures.marked ∙ (other_step _ _ _ _ c.requires.ready.0 _ c.requires.ready.1 _ _ _ _ _ _ _ _ _ _ _ _ _ _ c.loop-b.invariant _ c.end-end.ensures _ (sym c.in-Some.ensures) _ c.effect-x.ensures c.if-x-lt16.false _ _ _ _ c.in-Some-turned.ensures _ c.max-most-in-loop-b.ensures).sizes.0 ∙ sym c.requires.climbing.marked

pub shape_of-grounds-then-met-2 : goal.shape_of-grounds-then-met-2
shape_of-grounds-then-met-2 c = c.arrive-then-met-2.ensures.grounded ∙ (other_step _ _ _ _ c.requires.ready.0 _ c.requires.ready.1 _ _ _ _ _ _ _ _ _ _ _ _ _ _ c.loop-b.invariant _ c.end-end.ensures _ (sym c.in-Some.ensures) _ c.effect-x.ensures c.if-x-lt16.false _ _ _ _ c.in-Some-turned.ensures _ c.max-most-in-loop-b.ensures).sizes.1 ∙ sym c.requires.climbing.grounded

pub returns-then-met-2 : goal.returns-then-met-2
returns-then-met-2 c = let m = c.met-in-loop-b.ensures c.if-met-2.true in ((other_step _ _ _ _ c.requires.ready.0 _ c.requires.ready.1 _ _ _ _ _ _ _ _ _ _ _ _ _ _ c.loop-b.invariant _ c.end-end.ensures _ (sym c.in-Some.ensures) _ c.effect-x.ensures c.if-x-lt16.false _ _ _ _ c.in-Some-turned.ensures _ c.max-most-in-loop-b.ensures).node _ c.node_at-then-met-2.ensures m.0 (λ z. m.1 (z ∙ sym c.end-end.ensures))).2 _ _ c.arrive-then-met-2.ensures

pub loop-b-smaller : goal.loop-b-smaller
loop-b-smaller c = let q = (keyed _ _ _ _ c.requires.ready.0 _ c.requires.ready.1 _ _ _ _ _ _ _ _ _ _ _ _ _ _ c.loop-b.invariant _ c.end-end.ensures _ (sym c.in-Some.ensures)).0 in let p = (other_step _ _ _ _ c.requires.ready.0 _ c.requires.ready.1 _ _ _ _ _ _ _ _ _ _ _ _ _ _ c.loop-b.invariant _ c.end-end.ensures _ (sym c.in-Some.ensures) _ c.effect-x.ensures c.if-x-lt16.false _ _ _ _ c.in-Some-turned.ensures _ c.max-most-in-loop-b.ensures).further in omega (arith, q, p, c.end-end.ensures)

pub loop-b-preserved : goal.loop-b-preserved
loop-b-preserved c = (other_step _ _ _ _ c.requires.ready.0 _ c.requires.ready.1 _ _ _ _ _ _ _ _ _ _ _ _ _ _ c.loop-b.invariant _ c.end-end.ensures _ (sym c.in-Some.ensures) _ c.effect-x.ensures c.if-x-lt16.false _ _ _ _ c.in-Some-turned.ensures _ c.max-most-in-loop-b.ensures).on
