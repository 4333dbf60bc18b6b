-- The entries of a group. SPECIFICATION, section 8.2: "gone through by table, lookup, row and tuple", "multiplicity × flag in an exclusive
-- lookup, else the multiplicity". Slots skip the zeros.
use Rattle.std.specs.Prelude.{ℕ, cond, length, get_or}
use mathlib.Core.List.{List, [], map, flat_map}
use Rattle.lists.specs.Count.{joined}
use Rattle.lists.specs.Tab.{tab}
use Rattle.field.specs.Word.{mul_m}
use Rattle.expression.specs.Words.{word}
use Rattle.lookup.specs.Lookups.{Lookup}
use Rattle.lookup.specs.Table.{values_of}
use Rattle.logup.specs.Ledger.{Entry}
use Rattle.balance.specs.Groups.{Member}

-- how often tuple k counts, from the values of the nodes; an additive lookup has no flags
unfoldable pub count_of : ℕ → Lookup → List ℕ → ℕ → ℕ
count_of p l vals k = mul_m p (word vals (word l.multiplicities k)) (cond l.exclusive (word vals (word l.flags k)) 1)

unfoldable pub entry_of : ℕ → Lookup → List ℕ → ℕ → Entry
entry_of p l vals k = record { tuple = map (word vals) (get_or l.tuples k []); count = count_of p l vals k }

-- a lookup on one row
unfoldable pub row_entries : ℕ → Lookup → List ℕ → List Entry
row_entries p l vals = tab (entry_of p l vals) 0 (length l.tuples)

-- a lookup on all rows
unfoldable pub member_entries : ℕ → Member → List Entry
member_entries p m = joined (λ r. row_entries p m.lookup (values_of p m.table r)) 0 m.table.traces.shape.height

unfoldable pub entries : ℕ → List Member → List Entry
entries p ms = flat_map (member_entries p) ms
