use Rattle.formula.proofs.LineLaws.{formula_40, formula_43, formula_written, front_of}
use lib.ListN.{length-replicate}
use native.Mathlib.Omega.{arith}
use Prim.Native.Nat.{ℕ, ◌*◌}
use mathlib.Core.Path.{◌∙◌}
use Rattle.formula.proofs.compile.Goals as goal

pub returns-then-line-gt256 : goal.returns-then-line-gt256
returns-then-line-gt256 c = formula_40 c.args.line.now c.args.out.now c.if-line-gt256.true

pub refusal-requires : goal.refusal-requires
refusal-requires c = (omega arith, c.in_default.ensures)

pub returns-in_default : goal.returns-in_default
returns-in_default c = c.refusal.ensures c.args.out.now

pub returns-then-c-gt32 : goal.returns-then-c-gt32
returns-then-c-gt32 c = let y = c.in-Some.ensures in formula_43 c.args.line.now (omega arith) c.args.out.now c.read_line.new.code c.read_line.new.pool _ y c.if-c-gt32.true

pub overflow_mul-n : goal.overflow_mul-n
overflow_mul-n c = let y = c.in-Some.ensures in omega (arith, y.3.few)

pub slice_bounds-pool-end : goal.slice_bounds-pool-end
slice_bounds-pool-end c = let y = c.in-Some.ensures in (front_of (12 * c.in-Some.c.numbers) 1536 c.read_line.new.pool (omega (arith, y.3.few)) (c.read_line.auto.pool ∙ length-replicate {A = ℕ} 1536 0)).within

pub slice_bounds-write_module-end : goal.slice_bounds-write_module-end
slice_bounds-write_module-end c = let y = c.in-Some.ensures in (front_of (12 * c.in-Some.c.numbers) 1536 c.read_line.new.pool (omega (arith, y.3.few)) (c.read_line.auto.pool ∙ length-replicate {A = ℕ} 1536 0)).long

pub slice_bounds-code-end : goal.slice_bounds-code-end
slice_bounds-code-end c = let y = c.in-Some.ensures in (front_of c.in-Some.c.code 771 c.read_line.new.code y.3.short (c.read_line.auto.code ∙ length-replicate {A = ℕ} 771 0)).within

pub slice_bounds-write_module-end-2 : goal.slice_bounds-write_module-end-2
slice_bounds-write_module-end-2 c = let y = c.in-Some.ensures in (front_of c.in-Some.c.code 771 c.read_line.new.code y.3.short (c.read_line.auto.code ∙ length-replicate {A = ℕ} 771 0)).long

pub write_module-requires : goal.write_module-requires
write_module-requires c = let y = c.in-Some.ensures in ((front_of (12 * c.in-Some.c.numbers) 1536 c.read_line.new.pool (omega (arith, y.3.few)) (c.read_line.auto.pool ∙ length-replicate {A = ℕ} 1536 0)).short, (front_of c.in-Some.c.code 771 c.read_line.new.code y.3.short (c.read_line.auto.code ∙ length-replicate {A = ℕ} 771 0)).short)

pub returns : goal.returns
returns c = let y = c.in-Some.ensures in c.write_module.ensures ∙ formula_written c.args.line.now (omega arith) c.args.out.now c.read_line.new.code c.read_line.new.pool _ y (omega arith)
