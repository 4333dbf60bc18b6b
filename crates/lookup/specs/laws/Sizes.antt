-- Where a table's part of a list lies.
use Rattle.std.specs.Prelude.{◌≡◌, List, ℕ, ◌+◌, ◌*◌, ◌-◌, ◌<◌, ◌≤◌, length, take, drop}
use Rattle.std.proofs.Common.{ap₂, mul-le-mul, mul-le-mul_left, arith}
use Rattle.lists.specs.laws.Count.{total_in}
use Rattle.lookup.specs.Sizes.{size, size_start, table_part}

part_in : (words : ℕ) (sizes : List ℕ) (f unit t n : ℕ) → t < n → unit * size_start words sizes f t + unit * size words sizes f t ≤ unit * size_start words sizes f n
unfolding size_start
part_in words sizes f unit t n h = omega (arith, mul-le-mul_left unit (total_in (size words sizes f) t n h))

-- a part that ends where table t's does lies within the list
pub part-within : {e : ℕ} (words : ℕ) (sizes l : List ℕ) (f unit t n : ℕ) → t < n → length l ≡ unit * size_start words sizes f n
    → e ≡ unit * size_start words sizes f t + unit * size words sizes f t → e ≤ length l
part-within words sizes l f unit t n h g e = omega (arith, part_in words sizes f unit t n h)

-- and is table t's if it begins there too
pub part_is : {a e : ℕ} (words : ℕ) (sizes l : List ℕ) (f unit t : ℕ) → a ≡ unit * size_start words sizes f t
    → e ≡ unit * size_start words sizes f t + unit * size words sizes f t → take (e - a) (drop a l) ≡ table_part words sizes f unit t l
unfolding table_part
part_is {a} {e} words sizes l f unit t ea ee = let z : e - a ≡ unit * size words sizes f t = omega arith in ap₂ (λ (n m : ℕ). take n (drop m l)) z ea

-- the parts of 16 tables of 32-bit sizes, in units of at most 9 words
pub units_small : {unit t n : ℕ} → unit ≤ 9 → t ≤ 16 → n ≤ t * 4294967295 → unit * n ≤ 618475290480
units_small {unit} {t} {n} h g e = mul-le-mul {n₂ = 9} {m₂ = 68719476720} h (omega arith)
