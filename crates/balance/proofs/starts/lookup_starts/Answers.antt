use Rattle.balance.proofs.RowsLoops.{lookup_starts_is}
use mathlib.Core.Path.{refl}
use Rattle.balance.proofs.starts.lookup_starts.Goals as goal

pub returns : goal.returns
returns c =
    lookup_starts_is _ _ _ c.tuple_start-first_tuple.ensures.0 c.multiplicity_start.ensures.0 c.flag_start.ensures.0 c.element_start.ensures.0 c.exclusive.ensures c.tuple_count.ensures refl
