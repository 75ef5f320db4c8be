-- The proof of `nodes::room::save`.
use lib.ListN.{take, drop}
use lib.Seq.{take-length, drop-drop}
use mathlib.Core.Path.{◌≡◌, ap, ◌∙◌, sym}
use Prim.Native.Nat.{ℕ, ◌+◌, ◌-◌}
use mathlib.Core.List.{List, ◌++◌, append_assoc}
use native.Mathlib.Omega.{arith}
use Rattle.nodes.proofs.room.save.Goals as goal

pub returns : goal.returns
returns c =
    let room : List ℕ = c.args.room.now in
    let st : List ℕ = c.args.st.now in
    let e : c.args.«at» + 64 - c.args.«at» ≡ 64 = omega arith in
    let w : take 64 st ≡ st = ap (λ (k : ℕ). take k st) (sym c.requires.1) ∙ take-length st in
    rw (e, c.copy_from_slice.ensures.after, w)
    (ap (λ (x : List ℕ). take c.args.«at» room ++ (st ++ x)) (drop-drop 64 c.args.«at» room) ∙ sym (append_assoc (take c.args.«at» room) st (drop (c.args.«at» + 64) room)))
