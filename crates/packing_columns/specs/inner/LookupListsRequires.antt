-- What the code asks of its lists.
use Rattle.std.specs.Prelude.{List, ℕ, ◌<◌, ◌≤◌, length}
use Rattle.expression.specs.Words.{word}
use Rattle.lookup.specs.Lookups.{lookup_count, tuple_start}

-- numbers of lookups, of which there are n
pub record LookupNumbers (n : ℕ) (order : List ℕ) : Type 0 where
  pub short : length order ≤ 64
  pub below : (t : ℕ) → t < length order → word order t < n

-- few lookups and tuples
pub record FewTuples (lookups : List ℕ) : Type 0 where
  pub few : lookup_count lookups ≤ 64
  pub short : (i : ℕ) → i ≤ lookup_count lookups → tuple_start lookups i ≤ 64
