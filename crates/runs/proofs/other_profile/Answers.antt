-- The proof of `runs::other_profile`.
use Rattle.runs.proofs.Profiles.{for_any_entry, for_any, profile_in_file, made_for_lem}
use native.Mathlib.Omega.{arith}
use Rattle.runs.proofs.other_profile.Goals as goal

pub returns-then-c-ne24 : goal.returns-then-c-ne24
returns-then-c-ne24 c = for_any _ _ c.requires.0 _ _ c.requires.2 c.if-c-ne24.true

pub returns-then-function-eq-ENTRY : goal.returns-then-function-eq-ENTRY
returns-then-function-eq-ENTRY c = for_any_entry _ _ c.requires.0 _ _ c.if-function-eq-ENTRY.true

pub word-made-requires : goal.word-made-requires
word-made-requires c = omega (arith, profile_in_file _ _ c.requires.0 _ c.args.profile c.requires.2 c.if-c-ne24.false c.if-function-eq-ENTRY.false)

pub returns : goal.returns
returns c = made_for_lem _ _ c.requires.0 _ _ c.requires.2 c.if-c-ne24.false c.if-function-eq-ENTRY.false _ c.word-made.ensures.0
