-- The proof of `access::targets::target_of`.
use mathlib.Core.Path.{◌≡◌}
use Rattle.access.proofs.Leading.{aimed_31, aimed_36, aimed_slot, aimed_low, aimed_lost, aimed_whole, aimed_cell}
use Rattle.state.proofs.Families.{not_pointer, is_pointer_lem}
use Rattle.heap.specs.declared.Target.TheVariants.{Lost}
use Rattle.heap.specs.declared.Target.{Target}
use Rattle.access.proofs.targets.target_of.Goals as goal

pub returns-then-w-lt7 : goal.returns-then-w-lt7
returns-then-w-lt7 c =
    aimed_31 _ _ _ _ _ c.requires.0 _ c.requires.1 c.args.w (not_pointer c.if-w-lt7.true)

pub returns-then-a : goal.returns-then-a
returns-then-a c =
    aimed_36 _ _ _ _ _ c.requires.0 _ c.requires.1 c.args.w (is_pointer_lem c.requires.2 c.if-w-lt7.false) c.if-a.true

pub returns-then-a-n : goal.returns-then-a-n
returns-then-a-n c =
    aimed_slot _ _ _ _ _ c.requires.0 _ c.requires.1 c.args.w (is_pointer_lem c.requires.2 c.if-w-lt7.false) c.if-a.false c.if-a-n.true

pub returns-then-a-lt65536 : goal.returns-then-a-lt65536
returns-then-a-lt65536 c =
    aimed_low _ _ _ _ _ c.requires.0 _ c.requires.1 c.args.w (is_pointer_lem c.requires.2 c.if-w-lt7.false) c.if-a.false c.if-a-n.false c.if-a-lt65536.true

pub target-requires : goal.target-requires
target-requires c =
    ((c.args.cells.now, rw c.shelf.ensures c.requires.0.sane), c.requires.0.plain, c.if-a-lt65536.false)

pub returns-in-Lost : goal.returns-in-Lost
returns-in-Lost c =
    let z : ◌≡◌ {A = Target} c.target.result Lost = cc in
    aimed_lost _ _ _ _ _ c.requires.0 _ c.requires.1 c.args.w (is_pointer_lem c.requires.2 c.if-w-lt7.false) c.if-a.false _ c.shelf.ensures _ c.target.ensures z

pub returns-in-Whole : goal.returns-in-Whole
returns-in-Whole c =
    aimed_whole _ _ _ _ _ c.requires.0 _ c.requires.1 c.args.w (is_pointer_lem c.requires.2 c.if-w-lt7.false) c.if-a.false _ c.shelf.ensures _ c.target.ensures _ c.in-Whole.is

pub returns-in-Cell : goal.returns-in-Cell
returns-in-Cell c =
    aimed_cell _ _ _ _ _ c.requires.0 _ c.requires.1 c.args.w (is_pointer_lem c.requires.2 c.if-w-lt7.false) c.if-a.false _ c.shelf.ensures _ c.target.ensures _ _ c.in-Cell.is
