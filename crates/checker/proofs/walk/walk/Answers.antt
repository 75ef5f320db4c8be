use Rattle.checker.proofs.Walking.{walk_first, walk_ended, heads, walk_on, walk_ends, walk_breaks, walk_bounds, walk_less, decode_fits, decoded_late, decoded_key, decoded_moved}
use Rattle.checker.proofs.Turns.{still_working}
use mathlib.Core.Path.{refl, ◌∙◌, sym}
use native.Mathlib.Omega.{arith}
use Rattle.checker.proofs.walk.walk.Goals as goal

pub end-e-requires : goal.end-e-requires
end-e-requires c = (c.requires.working.packed, c.requires.working.has)

pub loop-key-init : goal.loop-key-init
loop-key-init c = (walk_first _ _ c.requires.working.readable _ c.requires.working.has _ _ _ _ c.requires.working.sound c.requires.standing.holds c.requires.standing.stands, refl)

pub decode-requires : goal.decode-requires
decode-requires c = decode_fits _ _ _ _ _ _ c.requires.working _ c.end-e.ensures _ c.requires.keyed _ _ c.loop-key.invariant.0.stands

pub shape_of-room-in_default : goal.shape_of-room-in_default
shape_of-room-in_default c = c.loop-key.invariant.0.grows.long

pub shape_of-marks-in_default : goal.shape_of-marks-in_default
shape_of-marks-in_default c = c.loop-key.invariant.0.grows.many

pub shape_of-st-in_default : goal.shape_of-st-in_default
shape_of-st-in_default c = c.loop-key.invariant.0.holds.long ∙ sym c.requires.standing.holds.long

pub returns-in_default : goal.returns-in_default
returns-in_default c = record { left = walk_ended _ _ c.requires.working.readable _ c.requires.working.has _ _ _ _ _ _ _ _ c.loop-key.invariant.0 (decoded_late _ _ _ _ _ _ c.requires.working _ c.end-e.ensures _ c.requires.keyed _ _ c.loop-key.invariant.0.stands (sym c.decode.ensures ∙ c.in_default.is)); marks_unchanged = c.loop-key.invariant.1 }

pub transfer-next-requires : goal.transfer-next-requires
transfer-next-requires c = record { packed = (c.requires.working.packed, c.requires.working.readable); holds = (c.loop-key.invariant.0.holds, decoded_key _ _ _ _ _ _ c.requires.working _ c.end-e.ensures _ c.requires.keyed _ _ c.loop-key.invariant.0.stands _ (sym c.decode.ensures ∙ c.in-Some.is)) }

pub overflow_add-at : goal.overflow_add-at
overflow_add-at c = let b = walk_bounds _ _ _ _ _ _ c.requires.working _ c.end-e.ensures _ _ c.loop-key.invariant.0.stands in omega (arith, b.0, b.1, c.requires.working.packed.little_code)

pub follow-turn-requires : goal.follow-turn-requires
follow-turn-requires c = let m = decoded_moved _ _ _ _ _ _ c.requires.working _ c.end-e.ensures _ c.requires.keyed _ _ c.loop-key.invariant.0.stands _ (sym c.decode.ensures ∙ c.in-Some.is) c.loop-key.st _ _ c.transfer-next.ensures in record { working = still_working _ _ _ _ _ _ _ _ c.requires.working c.loop-key.invariant.0.grows c.loop-key.invariant.0.sound; holds = (m.holds, heads _ c.args.table.now c.requires.working.readable _ c.requires.working.has _ _ _ _ c.loop-key.invariant.0.stands m); e_value = c.end-e.ensures }

pub shape_of-room-in-Breaks : goal.shape_of-room-in-Breaks
shape_of-room-in-Breaks c = c.follow-turn.ensures.turned.grows.long ∙ c.loop-key.invariant.0.grows.long

pub shape_of-marks-in-Breaks : goal.shape_of-marks-in-Breaks
shape_of-marks-in-Breaks c = c.follow-turn.ensures.turned.grows.many ∙ c.loop-key.invariant.0.grows.many

pub shape_of-st-in-Breaks : goal.shape_of-st-in-Breaks
shape_of-st-in-Breaks c = let m = decoded_moved _ _ _ _ _ _ c.requires.working _ c.end-e.ensures _ c.requires.keyed _ _ c.loop-key.invariant.0.stands _ (sym c.decode.ensures ∙ c.in-Some.is) c.loop-key.st _ _ c.transfer-next.ensures in m.holds.long ∙ sym c.requires.standing.holds.long

pub returns-in-Breaks : goal.returns-in-Breaks
returns-in-Breaks c = let m = decoded_moved _ _ _ _ _ _ c.requires.working _ c.end-e.ensures _ c.requires.keyed _ _ c.loop-key.invariant.0.stands _ (sym c.decode.ensures ∙ c.in-Some.is) c.loop-key.st _ _ c.transfer-next.ensures in record { left = walk_breaks _ _ c.requires.working.readable _ c.requires.working.has _ _ _ _ _ _ _ _ c.loop-key.invariant.0 _ _ m _ _ (rw c.in-Breaks.is at c.follow-turn.ensures.turned); marks_unchanged = c.follow-turn.ensures.marks_unchanged ∙ c.loop-key.invariant.1 }

pub shape_of-room-in-Ends : goal.shape_of-room-in-Ends
shape_of-room-in-Ends c = c.follow-turn.ensures.turned.grows.long ∙ c.loop-key.invariant.0.grows.long

pub shape_of-marks-in-Ends : goal.shape_of-marks-in-Ends
shape_of-marks-in-Ends c = c.follow-turn.ensures.turned.grows.many ∙ c.loop-key.invariant.0.grows.many

pub shape_of-st-in-Ends : goal.shape_of-st-in-Ends
shape_of-st-in-Ends c = let m = decoded_moved _ _ _ _ _ _ c.requires.working _ c.end-e.ensures _ c.requires.keyed _ _ c.loop-key.invariant.0.stands _ (sym c.decode.ensures ∙ c.in-Some.is) c.loop-key.st _ _ c.transfer-next.ensures in m.holds.long ∙ sym c.requires.standing.holds.long

pub returns-in-Ends : goal.returns-in-Ends
returns-in-Ends c = let m = decoded_moved _ _ _ _ _ _ c.requires.working _ c.end-e.ensures _ c.requires.keyed _ _ c.loop-key.invariant.0.stands _ (sym c.decode.ensures ∙ c.in-Some.is) c.loop-key.st _ _ c.transfer-next.ensures in record { left = walk_ends _ _ c.requires.working.readable _ c.requires.working.has _ _ _ _ _ _ _ _ c.loop-key.invariant.0 _ _ m _ _ (rw c.in-Ends.is at c.follow-turn.ensures.turned) (rw c.in-Ends.is at c.follow-turn.ensures.turn_leads); marks_unchanged = c.follow-turn.ensures.marks_unchanged ∙ c.loop-key.invariant.1 }

pub loop-key-smaller : goal.loop-key-smaller
loop-key-smaller c = let t = rw c.in-Goes.is at c.follow-turn.ensures.turned in walk_less _ _ _ _ _ _ c.requires.working _ c.end-e.ensures _ _ _ t.turn.0 t.turn.1

pub loop-key-preserved : goal.loop-key-preserved
loop-key-preserved c = let m = decoded_moved _ _ _ _ _ _ c.requires.working _ c.end-e.ensures _ c.requires.keyed _ _ c.loop-key.invariant.0.stands _ (sym c.decode.ensures ∙ c.in-Some.is) c.loop-key.st _ _ c.transfer-next.ensures in (walk_on _ _ c.requires.working.readable _ c.requires.working.has _ _ _ _ _ _ _ _ c.loop-key.invariant.0 _ _ m _ _ _ (rw c.in-Goes.is at c.follow-turn.ensures.turned) (rw c.in-Goes.is at c.follow-turn.ensures.turn_leads), c.follow-turn.ensures.marks_unchanged ∙ c.loop-key.invariant.1)
