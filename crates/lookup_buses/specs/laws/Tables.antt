-- A table's own lists are as the code asks.
use Rattle.std.specs.Prelude.{◌≡◌, ℕ, ◌<◌}
use Rattle.std.proofs.Common.{sym, subst}
use Rattle.lookup.specs.Lookups.{Lookups}
use Rattle.lookup.specs.Sizes.{table_count}
use Rattle.lookup_buses.specs.CheckBusWidths.{BusTables, bus_sizes, table_at}
use Rattle.lookup_buses.specs.inner.Requires.{BusLists, BusTablesFit}

pub owned : {l : BusTables} {t : ℕ} {x : Lookups} → BusTablesFit l → t < table_count bus_sizes l.sizes → x ≡ table_at l t → BusLists x.lookups x.names x.tuples
owned {l} {t} {x} f h e = subst (λ (y : Lookups). BusLists y.lookups y.names y.tuples) (sym e) (f.each t h)
