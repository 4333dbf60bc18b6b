-- Lists of bytes of the same sizes as the five parts of a room.
use Rattle.std.specs.Prelude.{ℕ, ◌-◌, ◌*◌, ◌≡◌, List, length}
use Rattle.wire.specs.declared.room.Ends.{Ends}

pub record Sized (x : Ends) (lookups tuples multiplicities flags elements : List ℕ) : Type 0 where
  pub lookups_size : length lookups ≡ 4 * (x.first - 0)
  pub tuples_size : length tuples ≡ 4 * (x.second - x.first)
  pub multiplicities_size : length multiplicities ≡ 4 * (x.third - x.second)
  pub flags_size : length flags ≡ 4 * (x.fourth - x.third)
  pub elements_size : length elements ≡ 4 * (x.fifth - x.fourth)
