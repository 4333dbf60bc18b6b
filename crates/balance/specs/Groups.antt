-- The groups of balance. SPECIFICATION, section 8.1: "Each local is a group by itself", "Then each bus over all tables is one, by first
-- appearance." A group without entries counts too.
use Rattle.std.specs.Prelude.{Bool, false, cond, not, ◌&&◌, ◌||◌}
use mathlib.Core.List.{List, [], ◌∷◌, ◌++◌, map, flat_map}
use Rattle.lists.specs.Same.{same_list}
use Rattle.lookup.specs.Lookups.{Lookup, lookups_of}
use Rattle.lookup.specs.Table.{Table}
use Rattle.lookup_buses.specs.Order.{keep}

-- a lookup and its table
pub record Member : Type 0 where
  pub table : Table
  pub lookup : Lookup

-- the lookups of a table, in list order
abbrev pub members_of : Table → List Member
members_of t = map (λ (l : Lookup). record { table = t; lookup = l }) (lookups_of t.lookups)

-- all lookups of all tables, by table
unfoldable pub members : List Table → List Member
members tables = flat_map members_of tables

abbrev pub local : Member → Bool
local m = m.lookup.local

-- two lookups on one bus
unfoldable pub same_bus : Member → Member → Bool
same_bus m n = not (local m) && (not (local n) && same_list m.lookup.name n.lookup.name)

-- whether one of them is on the bus of m
unfoldable pub appears : Member → List Member → Bool
appears m [] = false
appears m (n ∷ ns) = same_bus m n || appears m ns

-- "Each local is a group by itself"
unfoldable pub local_group : Member → List (List Member)
local_group m = cond (local m) ((m ∷ []) ∷ []) []

-- the bus of m over all tables, where m is the first on it: `before` are the lookups before m
unfoldable pub bus_group : List Member → List Member → Member → List (List Member)
bus_group all before m = cond (local m || appears m before) [] (keep (same_bus m) all ∷ [])

unfoldable pub bus_groups : List Member → List Member → List Member → List (List Member)
bus_groups all before [] = []
bus_groups all before (m ∷ ms) = bus_group all before m ++ bus_groups all (before ++ (m ∷ [])) ms

unfoldable pub groups : List Member → List (List Member)
groups ms = flat_map local_group ms ++ bus_groups ms [] ms
