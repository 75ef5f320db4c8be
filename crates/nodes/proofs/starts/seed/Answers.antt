use Rattle.nodes.proofs.Seeds.{started_long, counted_long, seed_entry, seed_function}
use mathlib.Core.Path.{◌∙◌, sym}
use native.Mathlib.Omega.{arith}
use Rattle.reader.proofs.Records.{function_in_file, stride_small}
use Rattle.nodes.proofs.Bounds.{function_number}
use Rattle.nodes.proofs.starts.seed.Goals as goal

pub returns-then-owner-eq4294967295 : goal.returns-then-owner-eq4294967295
returns-then-owner-eq4294967295 c = seed_entry c.args.st.now _ c.requires.st_len c.zero.ensures _ _ c.if-owner-eq4294967295.true

pub overflow_mul-at : goal.overflow_mul-at
overflow_mul-at c = let n = function_number _ _ c.requires.packed.0 _ c.requires.packed.2 c.if-owner-eq4294967295.false in let m = stride_small _ _ c.requires.packed.0 _ n in omega (arith, n, m, c.requires.packed.0.functions_is, c.requires.packed.0.few_functions)

pub overflow_add-at : goal.overflow_add-at
overflow_add-at c = let n = function_number _ _ c.requires.packed.0 _ c.requires.packed.2 c.if-owner-eq4294967295.false in let r = function_in_file _ _ c.requires.packed.0 _ n in omega (arith, r)

pub overflow_add-st : goal.overflow_add-st
overflow_add-st c = let n = function_number _ _ c.requires.packed.0 _ c.requires.packed.2 c.if-owner-eq4294967295.false in let r = function_in_file _ _ c.requires.packed.0 _ n in omega (arith, r)

pub bounds-file-at : goal.bounds-file-at
bounds-file-at c = let n = function_number _ _ c.requires.packed.0 _ c.requires.packed.2 c.if-owner-eq4294967295.false in let r = function_in_file _ _ c.requires.packed.0 _ n in omega (arith, r)

pub bounds-st-1 : goal.bounds-st-1
bounds-st-1 c = rw (started_long c.args.st.now _ c.requires.st_len c.zero.ensures) (omega arith)

pub overflow_add-at-2 : goal.overflow_add-at-2
overflow_add-at-2 c = let n = function_number _ _ c.requires.packed.0 _ c.requires.packed.2 c.if-owner-eq4294967295.false in let r = function_in_file _ _ c.requires.packed.0 _ n in omega (arith, r)

pub copy_params-requires : goal.copy_params-requires
copy_params-requires c = let n = function_number _ _ c.requires.packed.0 _ c.requires.packed.2 c.if-owner-eq4294967295.false in let r = function_in_file _ _ c.requires.packed.0 _ n in (omega (arith, r), counted_long c.args.st.now _ c.requires.st_len c.zero.ensures _)

pub shape_of-st : goal.shape_of-st
shape_of-st c = c.copy_params.ensures.long ∙ counted_long c.args.st.now _ c.requires.st_len c.zero.ensures _ ∙ sym c.requires.st_len

pub returns : goal.returns
returns c = seed_function c.args.st.now _ c.requires.st_len c.zero.ensures _ _ c.requires.packed.0 c.requires.packed.1 _ c.requires.packed.2 c.if-owner-eq4294967295.false _ c.copy_params.ensures
