-- The proof of `transfer::ret`.
use Rattle.transfer.proofs.Functions.{return_type, ret_nowhere, ret_bare, ret_empty, ret_other, ret_stops}
use mathlib.Core.Path.{sym}
use Rattle.transfer.proofs.ret.Goals as goal

pub returns-in_default : goal.returns-in_default
returns-in_default c = λ q. ret_nowhere _ _ c.requires.packed.0 _ q _ c.requires.holds (sym c.in_default.ensures)

pub returns-then-f-eq0 : goal.returns-then-f-eq0
returns-then-f-eq0 c = let is = c.in-Some.ensures in
    λ q. ret_bare _ _ c.requires.packed.0 _ q _ c.requires.holds c.in-Some.f is c.if-f-eq0.true

pub returns-then-n-eq0 : goal.returns-then-n-eq0
returns-then-n-eq0 c = let is = c.in-Some.ensures in
    let type = return_type _ c.requires.packed.1 _ c.in-Some.f is c.if-f-eq0.false in
    λ q. ret_empty _ _ c.requires.packed.0 _ q _ c.requires.holds c.in-Some.f is c.if-f-eq0.false type _ c.from-n.ensures c.if-n-eq0.true

pub returns-then-st-n : goal.returns-then-st-n
returns-then-st-n c = let is = c.in-Some.ensures in
    let type = return_type _ c.requires.packed.1 _ c.in-Some.f is c.if-f-eq0.false in
    λ q. ret_other _ _ c.requires.packed.0 _ q _ c.requires.holds c.in-Some.f is c.if-f-eq0.false type _ c.from-n.ensures c.if-n-eq0.false c.if-st-n.true

pub returns : goal.returns
returns c = let is = c.in-Some.ensures in
    let type = return_type _ c.requires.packed.1 _ c.in-Some.f is c.if-f-eq0.false in
    λ q. ret_stops _ _ c.requires.packed.0 _ q _ c.requires.holds c.in-Some.f is c.if-f-eq0.false type _ c.from-n.ensures c.if-n-eq0.false c.if-st-n.false
