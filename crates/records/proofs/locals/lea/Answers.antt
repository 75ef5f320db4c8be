-- The proof of `records::locals::lea`.
use native.Mathlib.Omega.{arith}
use Rattle.soundness.specs.Readable.{pointer_back}
use Rattle.records.proofs.LocalLaws.{no_local, lea_pointer, lea_full, lea_falls}
use Rattle.records.proofs.locals.lea.Goals as goal

pub returns-then-from-i : goal.returns-then-from-i
returns-then-from-i c =
    (no_local _ _ _ c.requires c.from.ensures _ c.if-from-i.true).1

pub returns-then-t-gt127 : goal.returns-then-t-gt127
returns-then-t-gt127 c =
    let from = c.from in
    let if1 = c.if-from-i in
    lea_pointer _ _ _ c.requires from.ensures _ if1.false c.if-t-gt127.true

pub returns-then-st-gt31 : goal.returns-then-st-gt31
returns-then-st-gt31 c =
    let from = c.from in
    let if1 = c.if-from-i in
    let if2 = c.if-t-gt127 in
    lea_full _ _ _ c.requires from.ensures _ if1.false if2.false c.if-st-gt31.true

pub push-requires : goal.push-requires
push-requires c = (c.requires, omega arith, pointer_back _ (omega arith))

pub returns : goal.returns
returns c =
    let from = c.from in
    let if1 = c.if-from-i in
    let if2 = c.if-t-gt127 in
    let push = c.push in
    lea_falls _ _ _ c.requires from.ensures _ if1.false if2.false _ push.ensures
