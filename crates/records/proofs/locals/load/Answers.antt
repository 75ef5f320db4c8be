-- The proof of `records::locals::load`.
use native.Mathlib.Omega.{arith}
use Rattle.records.proofs.LocalLaws.{local_type, no_local, load_full, load_falls}
use Rattle.records.proofs.locals.load.Goals as goal

pub returns-then-from-i : goal.returns-then-from-i
returns-then-from-i c =
    (no_local _ _ _ c.requires c.from.ensures _ c.if-from-i.true).0

pub returns-then-st-gt31 : goal.returns-then-st-gt31
returns-then-st-gt31 c =
    let from = c.from in
    let if1 = c.if-from-i in
    load_full _ _ _ c.requires from.ensures _ if1.false c.if-st-gt31.true

pub push-requires : goal.push-requires
push-requires c =
    let from = c.from in
    let if1 = c.if-from-i in
    (c.requires, omega arith, local_type _ _ _ c.requires from.ensures if1.false)

pub returns : goal.returns
returns c =
    let from = c.from in
    let if1 = c.if-from-i in
    let push = c.push in
    load_falls _ _ _ c.requires from.ensures _ if1.false _ push.ensures
