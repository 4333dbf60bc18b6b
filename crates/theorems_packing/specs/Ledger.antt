-- The packed table has the same entries on every row, and so the same ledger. SPECIFICATION, section 9.1.
use Rattle.std.specs.Prelude.{◌≡◌, List, ℕ}
use Rattle.expression.specs.declared.sizes.Limits.{Limits}
use Rattle.lookup.specs.Table.{Table, values_of}
use Rattle.lookup_degree.specs.Sums.{sum_of}
use Rattle.logup.specs.Ledger.{Entry, row_entries, ledger}
use Rattle.theorems_packing.specs.Packed.{packed_table}
use Rattle.theorems_packing.specs.Passes.{Tested}

-- On each row whatever is counted of the entries has the same sum: a merge moves entries, and neither adds nor drops one.
abbrev pub SameEntries : Type 0
SameEntries =
    (m : Limits) (p limit : ℕ) (t : Table) → Tested m p t → (r : ℕ) (counted : Entry → ℕ)
    → sum_of counted (row_entries p (packed_table limit t).lookups (values_of p t r))
    ≡ sum_of counted (row_entries p t.lookups (values_of p t r))

-- every list of words has the same word in both ledgers
abbrev pub PackedLedger : Type 0
PackedLedger = (m : Limits) (p limit : ℕ) (t : Table) → Tested m p t → (l : List ℕ) → ledger p (packed_table limit t) l ≡ ledger p t l
