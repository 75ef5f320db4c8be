use Rattle.rules.specs.Tables.{function_at, function_of}
use Rattle.rules.specs.ModuleFile.{edition, functions_in}
use Rattle.rules.specs.Instructions.{ty_of}
use Rattle.rules.specs.Bytes.{byte}
use Rattle.reader.proofs.Records.{function_in_file, stride_small, function_byte, param_at}
use lib.ListN.{get_or}
use mathlib.Core.Path.{◌≡◌, sym, ◌∙◌, ap}
use mathlib.Core.Option.{some}
use native.Mathlib.Omega.{arith}
use Prim.Native.Nat.{ℕ, ◌+◌, ◌*◌}
use Rattle.reader.proofs.entries.param.Goals as goal

pub overflow_mul-at : goal.overflow_mul-at
overflow_mul-at c = let f = function_in_file c.args.file.now c.args.c c.requires.packed c.args.k c.requires.k_lt_functions.0 in let m = stride_small c.args.file.now c.args.c c.requires.packed c.args.k c.requires.k_lt_functions.0 in omega arith

pub overflow_add-at : goal.overflow_add-at
overflow_add-at c = let f = function_in_file c.args.file.now c.args.c c.requires.packed c.args.k c.requires.k_lt_functions.0 in let m = stride_small c.args.file.now c.args.c c.requires.packed c.args.k c.requires.k_lt_functions.0 in omega arith

pub overflow_add-at-2 : goal.overflow_add-at-2
overflow_add-at-2 c = let f = function_in_file c.args.file.now c.args.c c.requires.packed c.args.k c.requires.k_lt_functions.0 in let m = stride_small c.args.file.now c.args.c c.requires.packed c.args.k c.requires.k_lt_functions.0 in omega arith

pub overflow_add-at-3 : goal.overflow_add-at-3
overflow_add-at-3 c = let f = function_in_file c.args.file.now c.args.c c.requires.packed c.args.k c.requires.k_lt_functions.0 in let m = stride_small c.args.file.now c.args.c c.requires.packed c.args.k c.requires.k_lt_functions.0 in omega arith

pub bounds-file-at : goal.bounds-file-at
bounds-file-at c = let f = function_in_file c.args.file.now c.args.c c.requires.packed c.args.k c.requires.k_lt_functions.0 in let m = stride_small c.args.file.now c.args.c c.requires.packed c.args.k c.requires.k_lt_functions.0 in omega arith

pub returns : goal.returns
unfolding function_of
returns c = let fs = functions_in c.args.file.now in let a : c.args.c.stride * c.args.k ≡ function_at (edition c.args.file.now) c.args.k = ap (λ (n : ℕ). n * c.args.k) c.requires.packed.stride_is in
    let q : c.args.c.stride * c.args.k + (10 + c.args.j) ≡ function_at (edition c.args.file.now) c.args.k + 10 + c.args.j = omega arith in
    let r : c.args.c.records + c.args.c.stride * c.args.k + (10 + c.args.j) ≡ c.args.c.records + c.args.c.stride * c.args.k + 10 + c.args.j = omega arith in
    let e : get_or c.args.file.now (c.args.c.records + c.args.c.stride * c.args.k + 10 + c.args.j) 0 ≡ byte fs (function_at (edition c.args.file.now) c.args.k + 10 + c.args.j) =
    sym (ap (byte fs) (sym q) ∙ function_byte c.args.file.now c.args.c c.requires.packed c.args.k (10 + c.args.j) c.requires.k_lt_functions.0 (omega arith) ∙ ap (byte c.args.file.now) r) in
    (e, λ l. param_at fs (function_at (edition c.args.file.now) c.args.k + 10) (byte fs (function_at (edition c.args.file.now) c.args.k + 8)) c.args.j l ∙ ap (λ (b : ℕ). some (ty_of b)) (sym e))
