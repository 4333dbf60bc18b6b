-- Balance accepts exactly where every group has enough slots and every net of it is zero, as statements. SPECIFICATION, sections 8.4 and 9.4. Their
-- proofs are laws/Passes.antt.
use Rattle.std.specs.Prelude.{ℕ, ◌/◌, ◌<◌, ◌≤◌, ◌≡◌, ◌↔◌, List, [], ◌∷◌, length}
use Rattle.std.proofs.Math.Option.{none}
use Rattle.expression.specs.declared.sizes.Limits.{Limits}
use Rattle.lookup.specs.Table.{Table}
use Rattle.balance_slots.specs.Slots.{slots}
use Rattle.balance_slots.specs.Nets.{net_of}
use Rattle.balance.specs.Tables.{TableLists, tables_of}
use Rattle.balance.specs.Groups.{Member, members, groups}
use Rattle.balance.specs.Entries.{entries}
use Rattle.balance.specs.Refusals.{tables_refusal}
use Rattle.balance.specs.Balance.{balance, check}

-- "16 where the group has more different tuples, skipped entries aside, than there are slots": it has not, in a workspace of so many words
abbrev pub Fits : ℕ → ℕ → List Member → Type 0
Fits p room ms = length (slots p (entries p ms)) ≤ room / 10

-- "18 where a net is not zero": none is
abbrev pub Balanced : ℕ → List Member → Type 0
Balanced p ms = (tuple : List ℕ) → net_of p (entries p ms) tuple ≡ 0

-- the group gets neither
abbrev pub Passes : ℕ → ℕ → List Member → Type 0
Passes p room ms = Fits p room ms × Balanced p ms

-- what holds of each group
abbrev pub AllGroups : (List Member → Type 0) → List (List Member) → Type 0
AllGroups P [] = Unit {0}
AllGroups P (ms ∷ gs) = P ms × AllGroups P gs

-- the groups of all tables
abbrev pub groups_of : TableLists → List (List Member)
groups_of l = groups (members (tables_of l))

-- Behind the tests: "balance accepts exactly where every group has enough slots and every net of it is zero".
abbrev pub BalancePasses : Type 0
BalancePasses =
    (p room : ℕ) → 0 < p → (tables : List Table)
    → ((balance p room tables).refusal ≡ none) ↔ AllGroups (Passes p room) (groups (members tables))

-- At the entry point: and the tables have none of refusals 1 to 5 and 9.
abbrev pub CheckPasses : Type 0
CheckPasses =
    (m : Limits) (p : ℕ) → 0 < p → (l : TableLists) (workspace : List ℕ)
    → ((check m p l workspace).refusal ≡ none) ↔ ((tables_refusal m p l ≡ none) × AllGroups (Passes p (length workspace)) (groups_of l))
