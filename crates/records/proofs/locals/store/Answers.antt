-- The proof of `records::locals::store`.
use native.Mathlib.Omega.{arith}
use mathlib.Core.Path.{refl}
use Rattle.records.specs.Laws.{top_type}
use Rattle.records.proofs.LocalLaws.{store_empty, store_differs, store_falls, store_beyond, store_17th, store_binds}
use Rattle.records.proofs.locals.store.Goals as goal

pub returns-then-h-lt1 : goal.returns-then-h-lt1
returns-then-h-lt1 c =
    store_empty _ _ _ c.requires refl _ _ c.from-h.ensures c.if-h-lt1.true

pub returns-then-st-i : goal.returns-then-st-i
returns-then-st-i c =
    let from = c.from-h in
    let if1 = c.if-h-lt1 in
    let from2 = c.from-l in
    let if2 = c.if-i-l in
    store_differs _ _ _ c.requires from2.ensures _ _ from.ensures if1.false if2.true c.if-st-i.true

pub returns-then-i-l : goal.returns-then-i-l
returns-then-i-l c =
    let from = c.from-h in
    let if1 = c.if-h-lt1 in
    let from2 = c.from-l in
    let if2 = c.if-i-l in
    let if3 = c.if-st-i in
    let pop = c.pop in
    store_falls _ _ _ c.requires from2.ensures _ _ from.ensures if1.false if2.true if3.false _ pop.ensures

pub returns-then-i-l-2 : goal.returns-then-i-l-2
returns-then-i-l-2 c =
    let from = c.from-h in
    let if1 = c.if-h-lt1 in
    let from2 = c.from-l in
    store_beyond _ _ _ c.requires from2.ensures _ _ from.ensures if1.false c.if-i-l.false c.if-i-l-2.true

pub returns-then-i-gt15 : goal.returns-then-i-gt15
returns-then-i-gt15 c =
    let from = c.from-h in
    let if1 = c.if-h-lt1 in
    let from2 = c.from-l in
    let if2 = c.if-i-l in
    store_17th _ _ _ c.requires from2.ensures _ _ from.ensures if1.false if2.false c.if-i-l-2.false c.if-i-gt15.true

pub bind-requires : goal.bind-requires
bind-requires c =
    let from = c.from-h in
    let if1 = c.if-h-lt1 in
    (c.requires, omega arith, top_type _ _ from.ensures c.requires if1.false)

pub returns : goal.returns
returns c =
    let from = c.from-h in
    let if1 = c.if-h-lt1 in
    let from2 = c.from-l in
    let if2 = c.if-i-l in
    let if4 = c.if-i-l-2 in
    let if5 = c.if-i-gt15 in
    let bind = c.bind in
    store_binds _ _ _ c.requires from2.ensures _ _ from.ensures if1.false if2.false if4.false if5.false _ bind.ensures
