-- What the code knows after some groups, and what the workspace holds.
use Rattle.std.specs.Prelude.{ℕ, suc, List, Result, Err, Ok}
use Rattle.std.proofs.Math.Option.{none, some}
use Rattle.balance_slots.specs.Slots.{slots}
use Rattle.balance_slots.specs.Workspace.{workspace_of}
use Rattle.balance_slots.specs.GroupRefusal.{group_refusal}
use Rattle.balance.specs.Groups.{Member}
use Rattle.balance.specs.Entries.{entries}
use Rattle.balance.specs.Balance.{Visited}
use Rattle.balance_groups.specs.declared.check.GroupRefused.{GroupRefused}

-- no refusal so far, and the number of the next group
abbrev pub at_group : List ℕ → ℕ → Visited
at_group workspace g = record { refusal = none; workspace = workspace; group = g }

-- what an answer says of a visit, which left this workspace
abbrev pub visited_of : List ℕ → Result ℕ GroupRefused → Visited
visited_of workspace (Ok g) = at_group workspace g
visited_of workspace (Err f) = record { refusal = some f.refusal; workspace = workspace; group = f.next }

-- after group g of these lookups, none before it refused
unfoldable pub group_visited : ℕ → ℕ → ℕ → List Member → Visited
group_visited p room g ms =
    record {
      refusal = group_refusal room g (slots p (entries p ms));
      workspace = workspace_of room (slots p (entries p ms));
      group = suc g;
    }
