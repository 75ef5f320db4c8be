-- The proof of `reader::entries::label`.
use Prim.Native.Nat.{◌<◌, ◌≤◌}
use native.Mathlib.Omega.{arith}
use borrow.Author.Tests.{lt-ltb, le-ltb}
use Rattle.reader.proofs.Records.{labels_length, label_found}
use Rattle.rules.specs.ModuleFile.{labels_in}
use Rattle.rules.specs.Tables.{label_count, module_of}
use Rattle.reader.proofs.entries.label.Goals as goal

pub returns-then-c-k : goal.returns-then-c-k
unfolding module_of
returns-then-c-k c = let l = labels_length c.args.file.now c.args.c (c.requires) in
    let h : label_count (labels_in c.args.file.now) ≤ c.args.k = omega arith in simp (le-ltb _ _ h)

pub returns : goal.returns
unfolding module_of
returns c = let l = labels_length c.args.file.now c.args.c (c.requires) in
    let h : c.args.k < label_count (labels_in c.args.file.now) = omega arith in
    simp (lt-ltb _ _ h) (label_found c.args.file.now c.args.c (c.requires) c.args.k _ _ (omega arith) c.word-owner.ensures.0 c.word-place.ensures.0)
