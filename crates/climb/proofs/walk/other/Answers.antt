use mathlib.Core.Option.{some}
use Prim.Native.Nat.{ℕ}
use Rattle.rules.specs.ModuleFile.{read}
use Rattle.rules.specs.Tables.{Body}
use Rattle.climb.specs.Turns.{Callable}
use Rattle.climb.proofs.Laws.{either}
use native.Mathlib.Omega.{arith}
use mathlib.Core.Path.{◌≡◌, sym, subst}
use Rattle.climb.proofs.Laws.{other_stops, other_stores, other_calls, other_jumps, other_forks}
use Rattle.climb.proofs.walk.other.Goals as goal

pub returns-then-x-eq-RET : goal.returns-then-x-eq-RET
returns-then-x-eq-RET c = other_stops _ _ _ _ _ _ _ _ c.if-x-eq-RET.true

pub operand-n-requires : goal.operand-n-requires
operand-n-requires c = c.requires.other_asks.whole (omega (arith, c.if-x-eq-RET.false, c.requires.other_asks.up_to))

pub store-requires : goal.store-requires
store-requires c = (c.requires.other_asks.low, c.requires.other_asks.few, λ h. c.requires.other_asks.stores c.if-x-eq-STORE.true (omega (arith, h, c.operand-n.ensures)))

pub returns-then-x-eq-STORE : goal.returns-then-x-eq-STORE
returns-then-x-eq-STORE c = other_stores _ _ _ _ _ _ _ _ c.if-x-eq-STORE.true _ c.operand-n.ensures _ c.store.ensures

pub call-requires : goal.call-requires
call-requires c = (c.requires.packed.0, c.requires.other_asks.low, c.requires.other_asks.small.1, c.requires.other_asks.wide, subst (λ (k : ℕ). Callable c.args.file.now k c.args.s.height) (sym c.operand-n.ensures) (c.requires.other_asks.calls c.if-x-eq-CALL.true))

pub returns-then-x-eq-CALL : goal.returns-then-x-eq-CALL
returns-then-x-eq-CALL c = other_calls _ _ _ _ _ _ _ _ c.if-x-eq-CALL.true _ c.operand-n.ensures _ _ c.call.ensures

pub jump-requires : goal.jump-requires
jump-requires c = record { packed = (c.requires.packed.0, c.requires.packed.1, c.requires.packed.2); ground_bound = (c.requires.other_asks.small.0, c.requires.other_asks.sizes, subst (λ (k : ℕ). (b : Body) × (p : ℕ) × ((read c.args.file.now).label k ≡ some (b, p))) (sym c.operand-n.ensures) (either c.args.x c.requires.other_asks.from c.requires.other_asks.up_to c.if-x-eq-RET.false c.if-x-eq-STORE.false c.if-x-eq-CALL.false c.requires.other_asks.labelled (λ z. ((c.requires.other_asks.forks z).1, (c.requires.other_asks.forks z).2, (c.requires.other_asks.forks z).3)))) }

pub returns-then-x-eq-JMP : goal.returns-then-x-eq-JMP
returns-then-x-eq-JMP c = other_jumps _ _ _ _ _ _ _ _ c.if-x-eq-JMP.true _ c.operand-n.ensures _ _ c.jump.ensures

pub overflow_sub-result : goal.overflow_sub-result
overflow_sub-result c = (c.requires.other_asks.forks (omega (arith, c.if-x-eq-RET.false, c.if-x-eq-STORE.false, c.if-x-eq-CALL.false, c.if-x-eq-JMP.false, c.requires.other_asks.up_to, c.requires.other_asks.from))).0

pub returns : goal.returns
returns c = other_forks _ _ _ _ _ _ _ _ (omega (arith, c.if-x-eq-RET.false, c.if-x-eq-STORE.false, c.if-x-eq-CALL.false, c.if-x-eq-JMP.false, c.requires.other_asks.up_to, c.requires.other_asks.from)) _ c.operand-n.ensures _ _ c.jump.ensures
