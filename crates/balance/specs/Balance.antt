-- Balance (`check_lookups`): the answer and the lent workspace afterwards, for every input. SPECIFICATION, section 8.
use Rattle.std.specs.Prelude.{ℕ, suc, cond, List, length, replicate}
use Rattle.std.proofs.Math.Option.{Option, none, some}
use Rattle.lists.specs.Fold.{fold}
use Rattle.field.specs.Known.{prime_of}
use Rattle.expression.specs.Choices.{known, limits_of}
use Rattle.expression.specs.declared.choices.Choices.{Choices}
use Rattle.expression.specs.Refusal.{Numbers, numbers}
use Rattle.expression.specs.declared.sizes.Limits.{Limits}
use Rattle.expression.specs.declared.refusal.Refusal.{Refusal}
use Rattle.expression.specs.declared.refusal.Refusal.TheVariants.{SizeAtOdds}
use Rattle.lookup.specs.Table.{Table}
use Rattle.balance_slots.specs.Slots.{Slot, slots}
use Rattle.balance_slots.specs.Workspace.{workspace_of}
use Rattle.balance_slots.specs.GroupRefusal.{group_refusal}
use Rattle.balance.specs.Tables.{TableLists, tables_of}
use Rattle.balance.specs.Groups.{Member, members, groups}
use Rattle.balance.specs.Entries.{entries}
use Rattle.balance.specs.Refusals.{tables_refusal}

-- the first refusal so far, what the workspace holds, and the number of the next group
pub record Visited : Type 0 where
  pub refusal : Option Refusal
  pub workspace : List ℕ
  pub group : ℕ

-- no refusal so far, and these slots in group g (SPECIFICATION, section 8.5)
abbrev pub visited : ℕ → Option Refusal → Visited → List Slot → Visited
visited room (some f) v ss = v
visited room none v ss =
    record { refusal = group_refusal room v.group ss; workspace = workspace_of room ss; group = suc v.group }

-- "goes group by group"; `room` is the number of the workspace's words
unfoldable pub visit : ℕ → ℕ → Visited → List Member → Visited
visit p room v ms = visited room v.refusal v (slots p (entries p ms))

-- no group leaves zeros
abbrev pub unvisited : ℕ → Visited
unvisited room = record { refusal = none; workspace = replicate room 0; group = 0 }

-- all groups of tables that have none of refusals 1 to 12
unfoldable pub balance : ℕ → ℕ → List Table → Visited
balance p room tables = fold (visit p room) (unvisited room) (groups (members tables))

-- the answer, and the workspace afterwards
pub record Outcome : Type 0 where
  pub refusal : Option Refusal
  pub workspace : List ℕ

-- balance within some limits and modulo some prime: what it gives for the tables' lists and a workspace
abbrev pub Check : Type 0
Check = TableLists → List ℕ → Outcome

-- refusals 1 to 12 leave lent outputs as they were (SPECIFICATION, section 10.5)
abbrev pub outcome : Option Refusal → Visited → List ℕ → Outcome
outcome (some f) v workspace = record { refusal = some f; workspace = workspace }
outcome none v workspace = record { refusal = v.refusal; workspace = v.workspace }

-- the entry point: within limits m, modulo p, the tables' lists, and the workspace as it is lent
unfoldable pub check : Limits → ℕ → TableLists → List ℕ → Outcome
check m p l workspace = outcome (tables_refusal m p l) (balance p (length workspace) (tables_of l)) workspace

-- at the choices of a call: refusal 1 where one of them is unknown
unfoldable pub check_at : Choices → TableLists → List ℕ → Outcome
check_at c l workspace =
    cond (known c) (check (limits_of c.profile) (prime_of c.field) l workspace) (record { refusal = some SizeAtOdds; workspace = workspace })

-- SPECIFICATION, section 1.4: "An answer is a number and three 64-bit details"; beside it the workspace afterwards
pub record BalanceNumbers : Type 0 where
  pub answer : Numbers
  pub workspace : List ℕ

unfoldable pub in_numbers : Outcome → BalanceNumbers
in_numbers o = record { answer = numbers o.refusal; workspace = o.workspace }
