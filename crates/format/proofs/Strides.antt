-- Records of an edition's function table as the code finds them: by a size that it keeps.
use mathlib.Core.Path.{◌≡◌}
use Prim.Native.Nat.{ℕ, ◌+◌, ◌*◌, ◌/◌, ◌≤◌, ◌<◌}
use native.Mathlib.Nat.{mul-le-mul_right}
use native.Mathlib.Omega.{arith}
use Rattle.rules.specs.Tables.{function_size, function_at}
use Rattle.soundness.specs.Functions.{size_least, record_inside}

pub stride_under : (size i : ℕ) → size ≤ 24 → size * i ≤ 24 * i
stride_under size i h = mul-le-mul_right i h

-- record i of n in a table of F bytes
pub record_from : (e size i F n : ℕ) → size ≡ function_size e → n ≡ F / function_size e → i < n → size * i + 20 ≤ F
record_from e size i F n q r h =
    let l : i < F / function_size e = omega arith in
    let a : function_at e i + function_size e ≤ F = record_inside e F i l in let b : 20 ≤ function_size e = size_least e in rw q (omega arith)
