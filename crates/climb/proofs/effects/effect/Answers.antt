use mathlib.Core.List.{[], ◌∷◌}
use mathlib.Core.Path.{refl}
use Rattle.keys.proofs.Chain.{none_left}
use Rattle.climb.proofs.Arms.{arm}
use Rattle.climb.proofs.effects.effect.Goals as goal

pub returns-in-8 : goal.returns-in-8
returns-in-8 c = arm 0 (8 ∷ []) refl _ c.in-8.is

pub returns-in-2 : goal.returns-in-2
returns-in-2 c = arm 1 (2 ∷ 12 ∷ 14 ∷ 16 ∷ 18 ∷ 20 ∷ 22 ∷ 24 ∷ 26 ∷ 28 ∷ 30 ∷ 50 ∷ []) refl _ c.in-2.is

pub returns-in-11 : goal.returns-in-11
returns-in-11 c = arm 1 (11 ∷ 13 ∷ 15 ∷ 17 ∷ 21 ∷ 23 ∷ 27 ∷ 29 ∷ 31 ∷ []) refl _ c.in-11.is

pub returns-in-10 : goal.returns-in-10
returns-in-10 c = arm 2 (10 ∷ 42 ∷ 44 ∷ 46 ∷ []) refl _ c.in-10.is

pub returns-in-7 : goal.returns-in-7
returns-in-7 c = arm 2 (7 ∷ 19 ∷ 25 ∷ 41 ∷ 43 ∷ 45 ∷ 47 ∷ []) refl _ c.in-7.is

pub returns-in-48 : goal.returns-in-48
returns-in-48 c = arm 3 (48 ∷ []) refl _ c.in-48.is

pub returns-in-9 : goal.returns-in-9
returns-in-9 c = arm 3 (9 ∷ 51 ∷ []) refl _ c.in-9.is

pub returns-in-6 : goal.returns-in-6
returns-in-6 c = arm 10 (6 ∷ []) refl _ c.in-6.is

pub returns-in-1 : goal.returns-in-1
returns-in-1 c = arm 11 (1 ∷ 3 ∷ 5 ∷ 49 ∷ 52 ∷ []) refl _ c.in-1.is

pub returns-in-4 : goal.returns-in-4
returns-in-4 c = arm 16 (4 ∷ []) refl _ c.in-4.is

pub returns-in-32 : goal.returns-in-32
returns-in-32 c = arm 17 (32 ∷ []) refl _ c.in-32.is

pub returns-in-34 : goal.returns-in-34
returns-in-34 c = arm 18 (34 ∷ 36 ∷ 38 ∷ []) refl _ c.in-34.is

pub returns-in-33 : goal.returns-in-33
returns-in-33 c = arm 18 (33 ∷ 35 ∷ 37 ∷ []) refl _ c.in-33.is

pub returns-in-39 : goal.returns-in-39
returns-in-39 c = arm 19 (39 ∷ []) refl _ c.in-39.is

pub returns-in-0 : goal.returns-in-0
returns-in-0 c = arm 20 (0 ∷ 40 ∷ 54 ∷ 56 ∷ 58 ∷ 60 ∷ 62 ∷ []) refl _ c.in-0.is

pub returns-in-53 : goal.returns-in-53
returns-in-53 c = arm 20 (53 ∷ 55 ∷ 57 ∷ 59 ∷ 61 ∷ 63 ∷ []) refl _ c.in-53.is

pub returns-in_default : goal.returns-in_default
returns-in_default c = none_left 64 ((53 ∷ 55 ∷ 57 ∷ 59 ∷ 61 ∷ 63 ∷ []) ∷ (0 ∷ 40 ∷ 54 ∷ 56 ∷ 58 ∷ 60 ∷ 62 ∷ []) ∷ (39 ∷ []) ∷ (33 ∷ 35 ∷ 37 ∷ []) ∷ (34 ∷ 36 ∷ 38 ∷ []) ∷ (32 ∷ []) ∷ (4 ∷ []) ∷ (1 ∷ 3 ∷ 5 ∷ 49 ∷ 52 ∷ []) ∷ (6 ∷ []) ∷ (9 ∷ 51 ∷ []) ∷ (48 ∷ []) ∷ (7 ∷ 19 ∷ 25 ∷ 41 ∷ 43 ∷ 45 ∷ 47 ∷ []) ∷ (10 ∷ 42 ∷ 44 ∷ 46 ∷ []) ∷ (11 ∷ 13 ∷ 15 ∷ 17 ∷ 21 ∷ 23 ∷ 27 ∷ 29 ∷ 31 ∷ []) ∷ (2 ∷ 12 ∷ 14 ∷ 16 ∷ 18 ∷ 20 ∷ 22 ∷ 24 ∷ 26 ∷ 28 ∷ 30 ∷ 50 ∷ []) ∷ (8 ∷ []) ∷ []) refl _ c.requires c.in_default.in_default-own.rest
