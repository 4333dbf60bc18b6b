-- The lookups of all tables by one number: the lists of all tables, taken as one, are lists of lookups too.
use Rattle.std.specs.Prelude.{ℕ, zero, suc, cond, List, ltb}
use Rattle.lookup.specs.Lookups.{lookup_at}
use Rattle.balance.specs.Tables.{TableLists, table_count, size_start, table_at, lookup_count_size}
use Rattle.balance.specs.Groups.{Member}

-- the table of lookup m, among n tables from table t on
unfoldable pub table_from : List ℕ → ℕ → ℕ → ℕ → ℕ
table_from sizes m t zero = t
table_from sizes m t (suc n) = cond (ltb m (size_start sizes lookup_count_size (suc t))) t (table_from sizes m (suc t) n)

unfoldable pub table_of : List ℕ → ℕ → ℕ
table_of sizes m = table_from sizes m 0 (table_count sizes)

-- lookup m of all lookups, and its table
unfoldable pub member_at : TableLists → ℕ → Member
member_at l m = record { table = table_at l (table_of l.sizes m); lookup = lookup_at l.lookups m }
