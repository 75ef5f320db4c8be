-- The proof of `heap::blocks::new`.
use Rattle.heap.proofs.Collected.{gives_from, gives_then, source_room, source_none, found_as, found_of, room_of_lem, unmade}
use Rattle.heap.proofs.Aimed.{type_low}
use Rattle.std.specs.Prelude.{None}
use mathlib.Core.Path.{◌≡◌}
use native.Mathlib.Omega.{arith}
use Rattle.heap.proofs.blocks.new.Goals as goal

pub squeezed-requires : goal.squeezed-requires
squeezed-requires c =
    let z : ◌≡◌ c.place.result None = cc in
    record { sane = (c.freed-q.ensures.sane, found_as z (c.place.ensures _ c.freed-q.ensures.sane)); le_cells = (c.requires.sane.1, c.requires.sane.2, c.requires.sane.3) }

pub returns-in_default : goal.returns-in_default
returns-in_default c =
    let z : ◌≡◌ c.place.result None = cc in
    gives_then c.freed-q.ensures (source_none _ c.args.k _ _ _ _ _ c.freed-q.result _ _ c.args.managed c.freed-q.ensures (found_as z (c.place.ensures _ c.freed-q.ensures.sane))) c.squeezed.ensures

pub grant-requires : goal.grant-requires
grant-requires c =
    let f = found_as c.in-Some.is (c.place.ensures _ c.freed-q.ensures.sane) in
    (omega (arith, room_of_lem c.freed-q.ensures.sane f c.requires.sane.1, c.freed-q.ensures.sane.room_table), omega (arith, type_low _ _ (rw c.requires.sane.3 at c.requires.sane.1)))

pub returns : goal.returns
returns c =
    let f = found_as c.in-Some.is (c.place.ensures _ c.freed-q.ensures.sane) in
    gives_then c.freed-q.ensures (source_room _ c.args.k _ _ _ _ _ c.freed-q.result _ _ c.args.managed c.freed-q.ensures _ f) (gives_from (unmade c.freed-q.ensures.sane) (c.grant.ensures _ _ _ c.freed-q.ensures.sane (found_of c.requires.sane.3 f) (rw c.requires.sane.3 at c.requires.sane.1)))
