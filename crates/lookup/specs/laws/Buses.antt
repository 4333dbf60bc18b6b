-- Where the names of the lookups lie.
use Rattle.std.specs.Prelude.{◌≡◌, List, ℕ, ◌+◌, ◌-◌, ◌<◌, ◌≤◌, length, take, drop}
use Rattle.std.proofs.Common.{ap₂, ◌∙◌, arith}
use Rattle.lists.specs.Count.{total}
use Rattle.lists.specs.laws.Count.{total_in}
use Rattle.lookup.specs.Lookups.{lookup_count, name_length, name_start}
use Rattle.lookup.specs.Buses.{name_at}
use Rattle.lookup.specs.Requires.{BusNames}

-- the parts that lie in a list
pub part_in : (f : ℕ → ℕ) (n i : ℕ) {a m z : ℕ} → total f n ≤ z → a ≡ total f i → m ≡ f i → i < n → a + m ≤ z
part_in f n i {a} {m} {z} h e g b = omega (arith, total_in f i n b)

-- lookup i's name lies within the names
pub name_in : {a w : ℕ} (l m : List ℕ) (i : ℕ) → BusNames l m → i < lookup_count l → a ≡ name_start l i → w ≡ name_length l i → a + w ≤ length m
unfolding name_start
name_in l m i n h ea ew = part_in (name_length l) (lookup_count l) i n.room ea ew h

-- the bytes that the code takes for the name of lookup i are its name
pub name_is : {a c w : ℕ} (l m : List ℕ) (i : ℕ) → a ≡ name_start l i → w ≡ name_length l i → c ≡ a + w → take (c - a) (drop a m) ≡ name_at l m i
unfolding name_at
name_is {a} {c} {w} l m i ea ew ec = let k : c - a ≡ w = omega arith in ap₂ (λ (x y : ℕ). take x (drop y m)) (k ∙ ew) ea
