-- The parts of a table's lists that belong to its lookups.
use mathlib.Core.List.{List, flat_map}
use Rattle.std.specs.Prelude.{ℕ, ◌+◌, ◌-◌, take, drop}
use Rattle.lookup.specs.Lookups.{name_start, tuple_start, multiplicity_start, flag_start, element_start}
use Rattle.packing_columns.specs.declared.lookup_lists.LookupList.{LookupList}
use Rattle.packing_columns.specs.declared.lookup_lists.LookupList.TheVariants.{Names, Tuples, Multiplicities, Flags, Elements}

-- where the part of lookup i begins in each list
unfoldable pub list_start : LookupList → List ℕ → List ℕ → ℕ → ℕ
list_start Names lookups tuples i = name_start lookups i
list_start Tuples lookups tuples i = tuple_start lookups i
list_start Multiplicities lookups tuples i = multiplicity_start lookups i
list_start Flags lookups tuples i = flag_start lookups i
list_start Elements lookups tuples i = element_start tuples (tuple_start lookups i)

-- how many words it has, and which
unfoldable pub list_length : LookupList → List ℕ → List ℕ → ℕ → ℕ
list_length list lookups tuples i = list_start list lookups tuples (i + 1) - list_start list lookups tuples i

unfoldable pub list_part : {A : Type 0} → LookupList → List ℕ → List ℕ → List A → ℕ → List A
list_part list lookups tuples src i = take (list_length list lookups tuples i) (drop (list_start list lookups tuples i) src)

-- the parts of these lookups, one after the other
unfoldable pub list_parts : {A : Type 0} → LookupList → List ℕ → List ℕ → List A → List ℕ → List A
list_parts list lookups tuples src is = flat_map (list_part list lookups tuples src) is
