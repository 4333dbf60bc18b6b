-- The turns of the loop that adds up one word of each record.
use Prim.Native.Nat.{ℕ, ◌*◌, ◌<◌, ◌≤◌}
use native.Mathlib.Nat.{mul-le-mul_right}
use native.Mathlib.Omega.{arith}

-- where record i begins is a small number
pub record_small : {words n i : ℕ} → i < n → n ≤ 4294967295 → words ≤ 16 → words * i ≤ 68719476720
record_small {words} {n} {i} h g e =
    let m : words * i ≤ 16 * i = mul-le-mul_right i e in omega (arith, m, h, g)
