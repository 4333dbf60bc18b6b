-- The nets of a table's lookups, taken together, are its ledger's words.
use Rattle.std.specs.Prelude.{◌≡◌, ℕ, ◌<◌}
use Rattle.std.proofs.Common.{sym, ap, ◌∙◌}
use mathlib.Core.List.{List, [], ◌∷◌, append-nil, map, flat_map}
use Rattle.lists.specs.Count.{total}
use Rattle.lists.specs.Tab.{tab}
use Rattle.lists.specs.laws.Tab.{map-tab}
use Rattle.lists.specs.laws.Sums.{total_cong}
use Rattle.expression.specs.Requires.{Below}
use Rattle.lookup.specs.Lookups.{Lookups, Lookup, lookup_count, lookup_at, lookups_of}
use Rattle.lookup.specs.Table.{Table, values_of}
use Rattle.lookup.specs.Requires.{Agreeing}
use Rattle.logup.specs.Ledger as logup
use Rattle.balance_slots.specs.Nets.{net_of}
use Rattle.balance.specs.Groups.{Member, members}
use Rattle.balance.specs.Entries.{row_entries, member_entries, entries}
use Rattle.balance.proofs.laws.Lists.{flat-tab}
use Rattle.balance.proofs.laws.Sums.{tally, tally-joined, total_swap}
use Rattle.balance.proofs.laws.Ledger.{lookup_entries_is, net-same}
use Rattle.theorems_balance.specs.OneBus.{member_of}

pub members-one : (t : Table) → members (t ∷ []) ≡ tab (member_of t) 0 (lookup_count t.lookups.lookups)
unfolding members flat_map lookups_of
members-one t =
    append-nil (map (λ (l : Lookup). record { table = t; lookup = l }) (tab (lookup_at t.lookups) 0 (lookup_count t.lookups.lookups)))
    ∙ map-tab (λ (l : Lookup). record { table = t; lookup = l }) (lookup_at t.lookups) (lookup_count t.lookups.lookups)

row-tally : (p : ℕ) (k : Lookups) (vals l : List ℕ)
    → tally (logup.row_entries p k vals) l ≡ total (λ i. tally (logup.lookup_entries p k vals i) l) (lookup_count k.lookups)
unfolding logup.row_entries
row-tally p k vals l = tally-joined (logup.lookup_entries p k vals) (lookup_count k.lookups) l

table-tally : (p : ℕ) (t : Table) (l : List ℕ)
    → tally (logup.entries p t) l ≡ total (λ r. tally (logup.row_entries p t.lookups (values_of p t r)) l) t.traces.shape.height
unfolding logup.entries
table-tally p t l = tally-joined (λ r. logup.row_entries p t.lookups (values_of p t r)) t.traces.shape.height l

member-tally : (p : ℕ) (m : Member) (l : List ℕ)
    → tally (member_entries p m) l ≡ total (λ r. tally (row_entries p m.lookup (values_of p m.table r)) l) m.table.traces.shape.height
unfolding member_entries
member-tally p m l = tally-joined (λ r. row_entries p m.lookup (values_of p m.table r)) m.table.traces.shape.height l

group-tally : (p : ℕ) (f : ℕ → Member) (n : ℕ) (l : List ℕ) → tally (entries p (tab f 0 n)) l ≡ total (λ i. tally (member_entries p (f i)) l) n
unfolding entries
group-tally p f n l = ap (λ (es : List logup.Entry). tally es l) (flat-tab (member_entries p) f n) ∙ tally-joined (λ i. member_entries p (f i)) n l

pub ledger_nets : (p n : ℕ) (t : Table) → 0 < p → ((r : ℕ) → Below p (values_of p t r)) → Agreeing n t.lookups
    → (l : List ℕ) → net_of p (entries p (members (t ∷ []))) l ≡ logup.ledger p t l
unfolding logup.ledger net_of
ledger_nets p n t z b a l = net-same p z (entries p (members (t ∷ []))) (logup.entries p t) l (by_lookup ∙ total_swap cell N H ∙ sym by_row)
  where
    N : ℕ
    N = lookup_count t.lookups.lookups

    H : ℕ
    H = t.traces.shape.height

    cell : ℕ → ℕ → ℕ
    cell i r = tally (row_entries p (lookup_at t.lookups i) (values_of p t r)) l

    -- a row of the ledger
    row : (r : ℕ) → tally (logup.row_entries p t.lookups (values_of p t r)) l ≡ total (λ i. cell i r) N
    row r =
        row-tally p t.lookups (values_of p t r) l
        ∙ total_cong (λ i. tally (logup.lookup_entries p t.lookups (values_of p t r) i) l) (λ i. cell i r) N
        (λ i g. ap (λ (es : List logup.Entry). tally es l)
        (sym (lookup_entries_is p t.lookups (values_of p t r) (b r) i (a.multiplicities_agree i g) (a.flags_agree i g))))

    by_lookup : tally (entries p (members (t ∷ []))) l ≡ total (λ i. total (cell i) H) N
    by_lookup =
        ap (λ (ms : List Member). tally (entries p ms) l) (members-one t)
        ∙ group-tally p (member_of t) N l
        ∙ total_cong (λ i. tally (member_entries p (member_of t i)) l) (λ i. total (cell i) H) N (λ i h. member-tally p (member_of t i) l)

    by_row : tally (logup.entries p t) l ≡ total (λ r. total (λ i. cell i r) N) H
    by_row =
        table-tally p t l
        ∙ total_cong (λ r. tally (logup.row_entries p t.lookups (values_of p t r)) l) (λ r. total (λ i. cell i r) N) H (λ r h. row r)
