-- Lawful flags: each is 0 or 1 and at most one of a lookup is 1, on every row of a table.
use Rattle.std.specs.Prelude.{ℕ, ◌<◌, ◌≤◌, ◌≡◌, true}
use Rattle.expression.specs.Words.{word}
use Rattle.lookup.specs.Lookups.{lookup_count, exclusive, tuple_count, flag_node}
use Rattle.lookup.specs.Table.{Table, values_of}

-- the flag of branch k of lookup i on row r
abbrev pub flag_at : ℕ → Table → ℕ → ℕ → ℕ → ℕ
flag_at p t r i k = word (values_of p t r) (flag_node t.lookups i k)

pub record LawfulFlags (p : ℕ) (t : Table) : Type 0 where
  pub binary : (r i k : ℕ) → r < t.traces.shape.height → i < lookup_count t.lookups.lookups → exclusive t.lookups.lookups i ≡ true
      → k < tuple_count t.lookups.lookups i → flag_at p t r i k ≤ 1
  pub one : (r i j k : ℕ) → r < t.traces.shape.height → i < lookup_count t.lookups.lookups → exclusive t.lookups.lookups i ≡ true
      → j < tuple_count t.lookups.lookups i → k < tuple_count t.lookups.lookups i → flag_at p t r i j ≡ 1 → flag_at p t r i k ≡ 1 → j ≡ k
