-- The proof of `machine::steps::step`.
use native.Mathlib.Omega.{arith}
use mathlib.Core.Path.{refl}
use Rattle.rules.specs.declared.Instruction.TheVariants.{Push, Load, Store, Lea, Jmp, Branch, Call, Ret}
use Rattle.rules.specs.declared.Condition.TheVariants.{Je, Jne, Ja, Jae, Jb, Jbe}
use Rattle.machine.proofs.Arms.{wide, wide_or, wide_room, performed, stands_known}
use Rattle.machine.proofs.steps.step.Goals as goal

pub push-requires : goal.push-requires
push-requires c = record { packed = (c.requires.packed.0, c.requires.packed.2); ready_on = (_, c.requires.ready.0); place_lt_stop = (c.requires.place_lt_stop.0, wide_room _ _ _ c.requires.place_lt_stop.1 1 Push c.in-1.is (λ w. refl) (λ w. refl)) }

pub load-requires : goal.load-requires
load-requires c = record { ready = c.requires.ready.0; place_lt_stop = (c.requires.place_lt_stop.0, wide_room _ _ _ c.requires.place_lt_stop.1 3 Load c.in-3.is (λ w. refl) (λ w. refl)) }

pub store-requires : goal.store-requires
store-requires c = record { ready = c.requires.ready.0; place_lt_stop = (c.requires.place_lt_stop.0, wide_room _ _ _ c.requires.place_lt_stop.1 4 Store c.in-4.is (λ w. refl) (λ w. refl)) }

pub lea-requires : goal.lea-requires
lea-requires c = record { ready = c.requires.ready.0; place_lt_stop = (c.requires.place_lt_stop.0, wide_room _ _ _ c.requires.place_lt_stop.1 5 Lea c.in-5.is (λ w. refl) (λ w. refl)) }

pub jmp-requires : goal.jmp-requires
jmp-requires c = record { packed = (c.requires.packed.0, c.requires.packed.1); place_in_bounds = (wide_room _ _ _ c.requires.place_lt_stop.1 32 Jmp c.in-32.is (λ w. refl) (λ w. refl), omega (arith, c.requires.ready.0.words)) }

pub branch-file-requires : goal.branch-file-requires
branch-file-requires c = record { packed = (c.requires.packed.0, c.requires.packed.1); place_in_bounds = (wide_room _ _ _ c.requires.place_lt_stop.1 33 (Branch Je) c.in-33.is (λ w. refl) (λ w. refl), (_, c.requires.ready.0), c.requires.place_lt_stop.0) }

pub branch-file-requires-in-34 : goal.branch-file-requires-in-34
branch-file-requires-in-34 c = record { packed = (c.requires.packed.0, c.requires.packed.1); place_in_bounds = (wide_room _ _ _ c.requires.place_lt_stop.1 34 (Branch Jne) c.in-34.is (λ w. refl) (λ w. refl), (_, c.requires.ready.0), c.requires.place_lt_stop.0) }

pub branch-file-requires-in-35 : goal.branch-file-requires-in-35
branch-file-requires-in-35 c = record { packed = (c.requires.packed.0, c.requires.packed.1); place_in_bounds = (wide_room _ _ _ c.requires.place_lt_stop.1 35 (Branch Ja) c.in-35.is (λ w. refl) (λ w. refl), (_, c.requires.ready.0), c.requires.place_lt_stop.0) }

pub branch-file-requires-in-36 : goal.branch-file-requires-in-36
branch-file-requires-in-36 c = record { packed = (c.requires.packed.0, c.requires.packed.1); place_in_bounds = (wide_room _ _ _ c.requires.place_lt_stop.1 36 (Branch Jae) c.in-36.is (λ w. refl) (λ w. refl), (_, c.requires.ready.0), c.requires.place_lt_stop.0) }

pub branch-file-requires-in-37 : goal.branch-file-requires-in-37
branch-file-requires-in-37 c = record { packed = (c.requires.packed.0, c.requires.packed.1); place_in_bounds = (wide_room _ _ _ c.requires.place_lt_stop.1 37 (Branch Jb) c.in-37.is (λ w. refl) (λ w. refl), (_, c.requires.ready.0), c.requires.place_lt_stop.0) }

pub branch-file-requires-in-38 : goal.branch-file-requires-in-38
branch-file-requires-in-38 c = record { packed = (c.requires.packed.0, c.requires.packed.1); place_in_bounds = (wide_room _ _ _ c.requires.place_lt_stop.1 38 (Branch Jbe) c.in-38.is (λ w. refl) (λ w. refl), (_, c.requires.ready.0), c.requires.place_lt_stop.0) }

pub call-requires : goal.call-requires
call-requires c = record { packed = (c.requires.packed.0, c.requires.packed.1); place_in_bounds = (wide_room _ _ _ c.requires.place_lt_stop.1 39 Call c.in-39.is (λ w. refl) (λ w. refl), c.requires.place_lt_stop.0, (_, (_, c.requires.ready.0))) }

pub ret-requires : goal.ret-requires
ret-requires c = record { packed = (c.requires.packed.0, c.requires.packed.1); prepared = ((_, c.requires.ready.0), c.requires.ready.1.kinds) }

pub numeric-requires : goal.numeric-requires
numeric-requires c = record { known = (stands_known _ _ _ c.requires.place_lt_stop.1, c.in_default.in_default-own.rest); ready_on = ((_, c.requires.ready.0), c.requires.ready.1) }

pub returns-in-1 : goal.returns-in-1
returns-in-1 c = wide _ _ _ _ _ c.requires.place_lt_stop.1 _ _ _ _ _ _ _ 1 Push c.in-1.is (λ w. refl) (λ n. refl) (c.push.ensures _ c.requires.ready.0)

pub returns-in-3 : goal.returns-in-3
returns-in-3 c = wide _ _ _ _ _ c.requires.place_lt_stop.1 _ _ _ _ _ _ _ 3 Load c.in-3.is (λ w. refl) (λ n. refl) (c.load.ensures _)

pub returns-in-4 : goal.returns-in-4
returns-in-4 c = wide _ _ _ _ _ c.requires.place_lt_stop.1 _ _ _ _ _ _ _ 4 Store c.in-4.is (λ w. refl) (λ n. refl) (c.store.ensures _)

pub returns-in-5 : goal.returns-in-5
returns-in-5 c = wide _ _ _ _ _ c.requires.place_lt_stop.1 _ _ _ _ _ _ _ 5 Lea c.in-5.is (λ w. refl) (λ n. refl) (c.lea.ensures _)

pub returns-in-32 : goal.returns-in-32
returns-in-32 c = wide _ _ _ _ _ c.requires.place_lt_stop.1 _ _ _ _ _ _ _ 32 Jmp c.in-32.is (λ w. refl) (λ n. refl) (c.jmp.ensures _ _ _ c.requires.ready.0)

pub returns-in-33 : goal.returns-in-33
returns-in-33 c = wide _ _ _ _ _ c.requires.place_lt_stop.1 _ _ _ _ _ _ _ 33 (Branch Je) c.in-33.is (λ w. refl) (λ n. refl) (c.branch-file.ensures _ c.requires.ready.0)

pub returns-in-34 : goal.returns-in-34
returns-in-34 c = wide _ _ _ _ _ c.requires.place_lt_stop.1 _ _ _ _ _ _ _ 34 (Branch Jne) c.in-34.is (λ w. refl) (λ n. refl) (c.branch-file-in-34.ensures _ c.requires.ready.0)

pub returns-in-35 : goal.returns-in-35
returns-in-35 c = wide _ _ _ _ _ c.requires.place_lt_stop.1 _ _ _ _ _ _ _ 35 (Branch Ja) c.in-35.is (λ w. refl) (λ n. refl) (c.branch-file-in-35.ensures _ c.requires.ready.0)

pub returns-in-36 : goal.returns-in-36
returns-in-36 c = wide _ _ _ _ _ c.requires.place_lt_stop.1 _ _ _ _ _ _ _ 36 (Branch Jae) c.in-36.is (λ w. refl) (λ n. refl) (c.branch-file-in-36.ensures _ c.requires.ready.0)

pub returns-in-37 : goal.returns-in-37
returns-in-37 c = wide _ _ _ _ _ c.requires.place_lt_stop.1 _ _ _ _ _ _ _ 37 (Branch Jb) c.in-37.is (λ w. refl) (λ n. refl) (c.branch-file-in-37.ensures _ c.requires.ready.0)

pub returns-in-38 : goal.returns-in-38
returns-in-38 c = wide _ _ _ _ _ c.requires.place_lt_stop.1 _ _ _ _ _ _ _ 38 (Branch Jbe) c.in-38.is (λ w. refl) (λ n. refl) (c.branch-file-in-38.ensures _ c.requires.ready.0)

pub returns-in-39 : goal.returns-in-39
returns-in-39 c = wide_or _ _ _ _ _ c.requires.place_lt_stop.1 _ _ _ _ _ _ _ 39 Call c.in-39.is (λ w. refl) (λ n. refl) (c.call.ensures _ _ c.requires.ready.0)

pub returns-in-40 : goal.returns-in-40
returns-in-40 c = wide _ _ _ _ _ c.requires.place_lt_stop.1 _ _ _ _ _ _ _ 40 (λ w. Ret) c.in-40.is (λ w. refl) (λ n. refl) (c.ret.ensures _ c.requires.ready.0)

pub returns-in_default : goal.returns-in_default
returns-in_default c = performed _ _ _ _ _ c.requires.place_lt_stop.1 _ _ _ _ _ _ c.requires.ready.0 c.numeric.ensures
