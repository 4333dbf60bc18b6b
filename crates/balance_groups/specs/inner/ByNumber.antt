-- The groups by the numbers of their lookups, the lists of all tables taken as one: what the code goes through.
use Rattle.std.specs.Prelude.{ℕ, zero, suc, ◌≤◌, Bool, cond, not, ◌&&◌, List, [], ◌∷◌, ◌++◌, eqb, length}
use Rattle.lists.specs.Same.{same_list}
use Rattle.lists.specs.Count.{every}
use Rattle.lookup.specs.Lookups.{lookup_count, on_bus, name_start}
use Rattle.lookup.specs.Buses.{name_at}
use Rattle.balance.specs.Tables.{TableLists}
use Rattle.balance.specs.Groups.{Member}
use Rattle.balance.specs.Members.{member_at}

-- of f 0, .., f (n - 1) those whose number passes a test
module _ {A : Type 0} where
  unfoldable pub kept : (ℕ → Bool) → (ℕ → A) → ℕ → List A
  kept t f zero = []
  kept t f (suc n) = kept t f n ++ cond (t n) (f n ∷ []) []

-- whether lookup k is in the group of lookup m: on m's bus, or m itself if m is local
unfoldable pub same_group : List ℕ → List ℕ → ℕ → ℕ → Bool
same_group lookups names m k =
    cond (on_bus lookups m) (on_bus lookups k && same_list (name_at lookups names m) (name_at lookups names k)) (eqb m k)

-- no lookup before m is in its group
unfoldable pub first_of_bus : List ℕ → List ℕ → ℕ → Bool
first_of_bus lookups names m = every (λ k. not (same_group lookups names m k)) m

-- whether a group begins with lookup m: among the locals, or among the buses
unfoldable pub starts_group : List ℕ → List ℕ → Bool → ℕ → Bool
starts_group lookups names buses m = cond buses (on_bus lookups m && first_of_bus lookups names m) (not (on_bus lookups m))

-- the group of lookup m
unfoldable pub group_at : TableLists → ℕ → List Member
group_at l m = kept (same_group l.lookups.lookups l.lookups.names m) (member_at l) (lookup_count l.lookups.lookups)

-- the groups of the locals, or of the buses, that begin with one of the first n lookups
unfoldable pub groups_to : TableLists → Bool → ℕ → List (List Member)
groups_to l buses n = kept (starts_group l.lookups.lookups l.lookups.names buses) (group_at l) n

-- few enough lookups for the sums of their words, and all names lie in the list
pub record GroupNames (lookups names : List ℕ) : Type 0 where
  pub few : lookup_count lookups ≤ 1024
  pub room : name_start lookups (lookup_count lookups) ≤ length names
