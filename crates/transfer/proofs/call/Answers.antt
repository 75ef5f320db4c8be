-- The proof of `transfer::call`.
use Rattle.transfer.proofs.Functions.{function_few, function_number, param_type, return_type, call_nowhere, call_other, call_bare, call_valued}
use borrow.Author.Tests.{not-true, not-false}
use mathlib.Core.Path.{sym}
use Rattle.transfer.proofs.call.Goals as goal

pub returns-in_default : goal.returns-in_default
returns-in_default c = λ b. call_nowhere _ b _ _ _ c.requires.holds (sym c.in_default.ensures)

pub take_arguments-alike-requires : goal.take_arguments-alike-requires
take_arguments-alike-requires c = let is = c.in-Some.ensures in
    record { packed = (c.requires.packed.0, function_number _ c.requires.packed.1 _ c.in-Some.f is _ c.requires.packed.0, function_few _ c.requires.packed.1 _ c.in-Some.f is); by_index = param_type _ c.requires.packed.1 _ c.in-Some.f is; holds = c.requires.holds }

pub returns-then-not-alike : goal.returns-then-not-alike
returns-then-not-alike c = let is = c.in-Some.ensures in
    λ b. call_other _ b _ _ _ c.in-Some.f is _ _ c.take_arguments-alike.ensures (not-true _ c.if-not-alike.true-raw)

pub returns-then-f-eq0 : goal.returns-then-f-eq0
returns-then-f-eq0 c = let is = c.in-Some.ensures in
    λ b. call_bare _ b _ _ _ c.in-Some.f is _ _ c.take_arguments-alike.ensures (not-false _ c.if-not-alike.false-raw) c.if-f-eq0.true

pub push_type-requires : goal.push_type-requires
push_type-requires c = let is = c.in-Some.ensures in
    (c.take_arguments-alike.ensures.holds, return_type _ c.requires.packed.1 _ c.in-Some.f is c.if-f-eq0.false)

pub returns : goal.returns
returns c = let is = c.in-Some.ensures in
    λ b. call_valued _ b _ _ _ c.in-Some.f is _ _ c.take_arguments-alike.ensures (not-false _ c.if-not-alike.false-raw) c.if-f-eq0.false _ _ c.push_type.ensures
