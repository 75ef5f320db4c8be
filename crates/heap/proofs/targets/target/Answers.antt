use Rattle.heap.proofs.Aimed.{listed_low}
use Rattle.heap.proofs.Aimed.{aims_none, aims_number, aims_past, aims_whole, aims_beyond, field_inside, aims_field}
use Rattle.heap.proofs.Search.{found_at, found_none}
use Rattle.heap.specs.Blocks.{entry_at}
use Rattle.std.specs.Prelude.{None}
use mathlib.Core.Path.{◌≡◌}
use Prim.Native.Nat.{◌/◌}
use native.Mathlib.Omega.{arith}
use Rattle.heap.proofs.targets.target.Goals as goal

pub returns-in_default : goal.returns-in_default
returns-in_default c = let z : ◌≡◌ c.find.result None = cc in
    λ p s m sh st. aims_none _ _ _ p _ s m sh st _ c.requires.2 (found_none (entry_at c.args.t.now) c.args.k.count (c.args.a / 65536) _ c.find.ensures z)

pub entry_at-e-requires : goal.entry_at-e-requires
entry_at-e-requires c = let f = found_at (entry_at c.args.t.now) c.args.k.count (c.args.a / 65536) _ c.find.ensures _ c.in-Some.is in let s = c.requires.0.1 in omega (arith, f.0, s.room_table, s.few)

pub returns-then-o-eq0 : goal.returns-then-o-eq0
returns-then-o-eq0 c = let f = found_at (entry_at c.args.t.now) c.args.k.count (c.args.a / 65536) _ c.find.ensures _ c.in-Some.is in λ p s m sh st. aims_number _ _ _ p _ s m sh st _ c.requires.2 _ _ f.0 f.1 c.entry_at-e.ensures c.if-n-lt10.true c.if-o-eq0.true

pub returns-then-n-lt10 : goal.returns-then-n-lt10
returns-then-n-lt10 c = let f = found_at (entry_at c.args.t.now) c.args.k.count (c.args.a / 65536) _ c.find.ensures _ c.in-Some.is in λ p s m sh st. aims_past _ _ _ p _ s m sh st _ c.requires.2 _ _ f.0 f.1 c.entry_at-e.ensures c.if-n-lt10.true c.if-o-eq0.false

pub overflow_mul-at : goal.overflow_mul-at
overflow_mul-at c = let f = found_at (entry_at c.args.t.now) c.args.k.count (c.args.a / 65536) _ c.find.ensures _ c.in-Some.is in omega (arith, listed_low _ _ _ _ _ c.requires.0.1 _ _ f.0 c.entry_at-e.ensures)

pub returns-then-o-eq0-2 : goal.returns-then-o-eq0-2
returns-then-o-eq0-2 c = let f = found_at (entry_at c.args.t.now) c.args.k.count (c.args.a / 65536) _ c.find.ensures _ c.in-Some.is in λ p s m sh st. aims_whole _ _ _ p _ s m sh st _ c.requires.2 _ _ f.0 f.1 c.entry_at-e.ensures c.if-n-lt10.false _ c.load8_padded-count.ensures (omega arith) c.if-o-eq0-2.true

pub returns-then-count-o : goal.returns-then-count-o
returns-then-count-o c = let f = found_at (entry_at c.args.t.now) c.args.k.count (c.args.a / 65536) _ c.find.ensures _ c.in-Some.is in λ p s m sh st. aims_beyond _ _ _ p _ s m sh st _ c.requires.2 _ _ f.0 f.1 c.entry_at-e.ensures c.if-n-lt10.false _ c.load8_padded-count.ensures c.if-o-eq0-2.false c.if-count-o.true

pub overflow_add-at : goal.overflow_add-at
overflow_add-at c = let f = found_at (entry_at c.args.t.now) c.args.k.count (c.args.a / 65536) _ c.find.ensures _ c.in-Some.is in omega (arith, listed_low _ _ _ _ _ c.requires.0.1 _ _ f.0 c.entry_at-e.ensures)

pub overflow_add-result : goal.overflow_add-result
overflow_add-result c = let f = found_at (entry_at c.args.t.now) c.args.k.count (c.args.a / 65536) _ c.find.ensures _ c.in-Some.is in
    omega (arith, field_inside _ _ _ _ _ c.requires.0.1 _ _ _ _ f.0 c.entry_at-e.ensures c.if-n-lt10.false c.load8_padded-count.ensures c.if-count-o.false)

pub returns : goal.returns
returns c = let f = found_at (entry_at c.args.t.now) c.args.k.count (c.args.a / 65536) _ c.find.ensures _ c.in-Some.is in λ p s m sh st. aims_field _ _ _ p _ s m sh st _ c.requires.2 _ _ f.0 f.1 c.entry_at-e.ensures c.if-n-lt10.false _ c.load8_padded-count.ensures c.if-o-eq0-2.false c.requires.1 _ c.if-count-o.false c.load8_padded-kind.ensures
