-- Bus widths (`check_bus_widths`). SPECIFICATION, section 7.1: "in a table the buses by their first lookup of any kind, one without tuples
-- included; on a bus its tuples in list order". A lookup without tuples is an appearance too, and so is an exclusive one.
use Rattle.std.specs.Prelude.{false, cond, ◌&&◌, List, ℕ, eqb, ltb}
use Rattle.std.proofs.Math.Option.{Option, none, some}
use Rattle.lists.specs.Same.{same_list}
use Rattle.lists.specs.Count.{first}
use Rattle.expression.specs.Words.{word}
use Rattle.expression.specs.declared.refusal.Refusal.{Refusal}
use Rattle.expression.specs.declared.refusal.Refusal.TheVariants.{WidthsDiffer}
use Rattle.lookup.specs.Lookups.{Lookups, lookup_count, on_bus, tuple_count, tuple_width}
use Rattle.lookup.specs.Buses.{name_at, alone_at}
use Rattle.lookup_degree.specs.Sums.{greatest}
use Rattle.lookup_buses.specs.Order.{arranged}

-- several tables, of which only the lookups, names and tuples count here
pub record Tables : Type 0 where
  pub count : ℕ
  pub table : ℕ → Lookups

-- the width of the first tuple of lookup i, if that is on the bus of this name and has tuples
unfoldable pub width_in_lookup : List ℕ → Lookups → ℕ → Option ℕ
width_in_lookup bus l i =
    cond (on_bus l.lookups i && same_list bus (name_at l.lookups l.names i) && ltb 0 (tuple_count l.lookups i))
    (some (tuple_width l.lookups l.tuples i 0)) none

unfoldable pub width_in_table : List ℕ → Lookups → Option ℕ
width_in_table bus l = first (width_in_lookup bus l) (lookup_count l.lookups)

-- the width first seen on a bus: on one bus the tuples come by table, then in list order
unfoldable pub expected : Tables → List ℕ → Option ℕ
expected ts bus = first (λ t. width_in_table bus (ts.table t)) ts.count

-- refusal 6 with "lookup, expected, actual": a tuple of lookup i, of this width, where that width is expected
abbrev pub tuple_refusal : ℕ → Option ℕ → ℕ → Option Refusal
tuple_refusal i none width = none
tuple_refusal i (some e) width = cond (eqb width e) none (some (WidthsDiffer i e width))

-- the lookups of a table, bus by bus; a local has none
unfoldable pub by_bus : Lookups → List ℕ
by_bus l = arranged (alone_at false l.lookups) (name_at l.lookups l.names) (lookup_count l.lookups)

unfoldable pub lookup_refusal : Tables → Lookups → ℕ → Option Refusal
lookup_refusal ts l i =
    cond (on_bus l.lookups i)
    (first (λ k. tuple_refusal i (expected ts (name_at l.lookups l.names i)) (tuple_width l.lookups l.tuples i k)) (tuple_count l.lookups i))
    none

unfoldable pub table_refusal : Tables → Lookups → Option Refusal
table_refusal ts l = first (λ k. lookup_refusal ts l (word (by_bus l) k)) (lookup_count l.lookups)

unfoldable pub widths_refusal : Tables → Option Refusal
widths_refusal ts = first (λ t. table_refusal ts (ts.table t)) ts.count

unfoldable pub widest_in_lookup : Lookups → ℕ → ℕ
widest_in_lookup l i = cond (on_bus l.lookups i) (greatest (tuple_width l.lookups l.tuples i) (tuple_count l.lookups i)) 0

unfoldable pub widest_in_table : Lookups → ℕ
widest_in_table l = greatest (widest_in_lookup l) (lookup_count l.lookups)

-- "the width of the widest tuple on any bus, 0 where there is none"
unfoldable pub widest : Tables → ℕ
widest ts = greatest (λ t. widest_in_table (ts.table t)) ts.count
