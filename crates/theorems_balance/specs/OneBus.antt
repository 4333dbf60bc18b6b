-- A table by itself whose lookups are all on one bus: balance has one group of it, and the group's nets are the table's ledger. Its proof is
-- laws/OneBus.antt.
use Rattle.std.specs.Prelude.{ℕ, ◌<◌, ◌≡◌, true, List, [], ◌∷◌, T}
use Rattle.expression.specs.declared.sizes.Limits.{Limits}
use Rattle.lookup.specs.Lookups.{lookup_count, lookup_at}
use Rattle.lookup.specs.Table.{Table}
use Rattle.logup.specs.Ledger.{has_ledger, ledger}
use Rattle.balance_slots.specs.Nets.{net_of}
use Rattle.balance.specs.Groups.{Member, members, same_bus, groups}
use Rattle.balance.specs.Entries.{entries}

-- lookup i of a table, with the table
abbrev pub member_of : Table → ℕ → Member
member_of t i = record { table = t; lookup = lookup_at t.lookups i }

-- every lookup of the table is on the bus of every other, and there is one
pub record OneBus (t : Table) : Type 0 where
  pub some : 0 < lookup_count t.lookups.lookups
  pub each : (i j : ℕ) → i < lookup_count t.lookups.lookups → j < lookup_count t.lookups.lookups
      → same_bus (member_of t i) (member_of t j) ≡ true

-- its lookups are one group, and that group's nets are the words of its ledger
abbrev pub OneBusLedger : Limits → ℕ → Type 0
OneBusLedger m p =
    (t : Table) → OneBus t → T (has_ledger m p t)
    → (groups (members (t ∷ [])) ≡ members (t ∷ []) ∷ [])
    × ((tuple : List ℕ) → net_of p (entries p (members (t ∷ []))) tuple ≡ ledger p t tuple)
