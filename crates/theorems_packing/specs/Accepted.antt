-- Packing does not change what balance (`check_lookups`) accepts: at the entry point, its tests included, with the same workspace.
use Rattle.std.specs.Prelude.{◌≡◌, true, List, ◌↔◌, ℕ, ◌<◌, T}
use Rattle.std.proofs.Math.Option.{none}
use Rattle.field.specs.Known.{prime_of}
use Rattle.expression.specs.Choices.{known, limits_of}
use Rattle.expression.specs.declared.choices.Choices.{Choices}
use Rattle.expression.specs.declared.sizes.Limits.{Limits}
use Rattle.lookup.specs.Table.{Table}
use Rattle.balance.specs.Tables.{TableLists, tables_of, lists_fit}
use Rattle.balance.specs.Refusals.{tables_refusal}
use Rattle.balance.specs.Balance.{Check, balance, check_at}
use Rattle.theorems_packing.specs.Lists.{lists_of}
use Rattle.theorems_packing.specs.Same.{AllSame, AllPacked}

-- Tables that say the same, behind the tests: a workspace that suffices for the one suffices for the other.
abbrev pub SameAccepted : Type 0
SameAccepted =
    (p room : ℕ) → 0 < p → (ts us : List Table) → AllSame p ts us
    → ((balance p room ts).refusal ≡ none) ↔ ((balance p room us).refusal ≡ none)

-- the packed tables have none of refusals 1 to 5 and 9, and the call accepts them exactly where it accepts the tables
pub record AcceptedTogether (m : Limits) (p : ℕ) (check : Check) (l l' : TableLists) : Type 0 where
  pub tests : tables_refusal m p l' ≡ none
  pub accepted : (workspace : List ℕ) → ((check l workspace).refusal ≡ none) ↔ ((check l' workspace).refusal ≡ none)

-- Lists of tables that have none of refusals 1 to 5 and 9, and any lists of the packed tables that are as long as their sizes say
-- (SPECIFICATION, section 2.7).
abbrev pub PackingAccepted : Limits → ℕ → Check → Type 0
PackingAccepted m p check =
    (l l' : TableLists) → AllPacked (tables_of l) (tables_of l') → lists_fit m l' ≡ true → tables_refusal m p l ≡ none
    → AcceptedTogether m p check l l'

-- The lists of the packed tables, one after the other, are such lists.
abbrev pub PackedListsAccepted : Limits → ℕ → Check → Type 0
PackedListsAccepted m p check =
    (l : TableLists) (us : List Table) → AllPacked (tables_of l) us → tables_refusal m p l ≡ none → AcceptedTogether m p check l (lists_of us)

-- what holds of `check_lookups` at every known field and profile, with that profile's limits and that field's prime
abbrev pub AtKnownChoices : (Limits → ℕ → Check → Type 0) → Type 0
AtKnownChoices S = (c : Choices) → T (known c) → S (limits_of c.profile) (prime_of c.field) (check_at c)

-- both in each field
abbrev pub KnownAccepted : Type 0
KnownAccepted = AtKnownChoices PackingAccepted

abbrev pub KnownListsAccepted : Type 0
KnownListsAccepted = AtKnownChoices PackedListsAccepted
