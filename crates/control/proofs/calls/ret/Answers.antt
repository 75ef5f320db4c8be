-- The proof of `control::calls::ret`.
use native.Mathlib.Omega.{arith}
use mathlib.Core.Path.{◌≡◌, sym, ap, ◌∙◌}
use Rattle.reader.specs.Answers.{function_found}
use Rattle.std.specs.Prelude.{None}
use Rattle.reader.proofs.Records.{function_count_lem}
use Rattle.control.proofs.Files.{returned}
use Rattle.control.proofs.ReturnLaws.{top_kind, ret_30, ret_bare, ret_21, ret_22, ret_value}
use Rattle.control.proofs.calls.ret.Goals as goal
use Rattle.control.proofs.calls.ret.Goals.{else-v-g-via-then-v-g+else-v-kind_of, else-v-g-via-else-v-g}

pub returns-in_default : goal.returns-in_default
returns-in_default c = λ cap k. let z : ◌≡◌ c.function.result None = cc in
    ret_30 cap _ _ _ _ k _ (omega (arith, function_count_lem _ _ c.requires.packed.0, c.requires.packed.0.few_functions)) (rw c.from.ensures at (sym c.function.ensures ∙ ap (function_found _ _) z))

pub returns-then-g-eq0 : goal.returns-then-g-eq0
returns-then-g-eq0 c = λ cap k. rw (c.leave.ensures, c.from-base.ensures) (ret_bare cap _ _ _ _ k _ (omega (arith, function_count_lem _ _ c.requires.packed.0, c.requires.packed.0.few_functions)) c.in-Some.g (rw c.from.ensures at (sym (ap (function_found _ _) c.in-Some.is) ∙ c.function.ensures)) c.if-g-eq0.true)

pub returns-then-h-r : goal.returns-then-h-r
returns-then-h-r c = λ cap k. ret_21 cap _ _ _ _ k _ (omega (arith, function_count_lem _ _ c.requires.packed.0, c.requires.packed.0.few_functions)) c.in-Some.g (rw c.from.ensures at (sym (ap (function_found _ _) c.in-Some.is) ∙ c.function.ensures)) c.if-g-eq0.false c.if-h-r.true

pub kind_of-requires : goal.kind_of-requires
kind_of-requires c = (returned _ c.requires.packed.1 _ c.in-Some.g (sym (ap (function_found _ _) c.in-Some.is) ∙ c.function.ensures) c.if-g-eq0.false)

pub returns-then-v-kind_of : goal.returns-then-v-kind_of
returns-then-v-kind_of c = λ cap k. ret_22 cap _ _ _ _ k _ (omega (arith, function_count_lem _ _ c.requires.packed.0, c.requires.packed.0.few_functions)) c.in-Some.g (rw c.from.ensures at (sym (ap (function_found _ _) c.in-Some.is) ∙ c.function.ensures)) c.if-g-eq0.false _ c.if-h-r.false c.slot_at-v.ensures (λ e. c.if-v-kind_of.true (e ∙ sym c.kind_of.ensures))

pub put_slot-requires : goal.put_slot-requires
put_slot-requires c = (omega (arith, c.from-base.ensures, c.requires.prepared.0.1.low, c.requires.prepared.0.1.high, c.requires.prepared.0.1.payloads, c.if-h-r.false), omega (arith, c.from-base.ensures, c.requires.prepared.0.1.low, c.requires.prepared.0.1.high, c.requires.prepared.0.1.types, c.if-h-r.false))

pub leave-requires-2 : goal.leave-requires-2
leave-requires-2 c = (omega (arith, c.requires.prepared.0.1.words), c.requires.prepared.0.1.whole)

pub returns : goal.returns
returns c = λ cap k. rw (c.leave-2.ensures, c.from-base.ensures)
    (ret_value cap _ _ _ _ k _ (omega (arith, function_count_lem _ _ c.requires.packed.0, c.requires.packed.0.few_functions)) c.in-Some.g (rw c.from.ensures at (sym (ap (function_found _ _) c.in-Some.is) ∙ c.function.ensures)) c.if-g-eq0.false _ c.if-h-r.false c.slot_at-v.ensures _ _
    (elim c.else-v-g.branch [
      | else-v-g-via-then-v-g+else-v-kind_of w ↦ w.if-v-kind_of.false ∙ w.kind_of.ensures
      | else-v-g-via-else-v-g w ↦ top_kind _ _ _ _ _ _ c.if-h-r.false c.slot_at-v.ensures c.requires.prepared.1 (returned _ c.requires.packed.1 _ c.in-Some.g (sym (ap (function_found _ _) c.in-Some.is) ∙ c.function.ensures) c.if-g-eq0.false) w.if-v-g.false
    ])
    (rw c.from-base.ensures at c.put_slot.ensures.0) (rw c.from-base.ensures at c.put_slot.ensures.1) (omega (arith, c.slot_at-v.type_inv)))
