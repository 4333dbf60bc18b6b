-- Two groups, in each field: a local whose tuple is empty, and a bus of two tables. The local counts nothing and the bus has (3) once, so the second
-- group alone makes balance refuse, and the sums of the two are not both zero.
use Rattle.std.specs.Prelude.{ℕ, ◌≡◌, refl, T, length, replicate}
use Rattle.std.proofs.Common.{sym, ◌∙◌, ⊎_elim, leb→le}
use Rattle.std.proofs.Math.Option.{none, some, some-ne-none}
use mathlib.Core.List.Memᴰ
use mathlib.Core.List.{List, [], ◌∷◌, flat_map}
use Rattle.lists.specs.Same.{same_list}
use Rattle.lists.specs.Count.{total, every, joined}
use Rattle.lists.specs.Fold.{fold}
use Rattle.lists.specs.Tab.{tab}
use Rattle.field.specs.Word.{add_m, mul_m}
use Rattle.field.specs.Known.{known_field, prime_of, w_of}
use Rattle.field.proofs.laws.Known.{certificate_of}
use Rattle.expression.specs.Words.{all_below, all_within}
use Rattle.expression.specs.Choices as Choices
use Rattle.expression.specs.Choices.{choices_of, limits_of}
use Rattle.expression.specs.Limits.{cabinet}
use Rattle.expression.specs.Node.{decode, node}
use Rattle.expression.specs.Window.{row_of, window}
use Rattle.expression.specs.Values.{node_value, values, row_values}
use Rattle.expression.specs.Degree.{node_degree, degrees}
use Rattle.expression.specs.Tests.{traces_within, nodes_within, traces_fit, nodes_fit, traces_below, constants_below, nodes_known, degrees_low}
use Rattle.expression.specs.declared.refusal.Refusal.TheVariants.{NetNotZero}
use Rattle.lookup.specs.Lookups.{name_start, tuple_start, multiplicity_start, flag_start, element_start, tuple_width, tuple_nodes, lookup_at, lookups_of}
use Rattle.lookup.specs.Sizes.{size_start, table_part}
use Rattle.lookup.specs.Tests.{weight_limit, lookup_within, lookups_within, lookups_fit, sizes, words_below, known, lengths_agree, nodes_present, lists_agree, has_lookups, preprocessed_enough}
use Rattle.lookup_buses.specs.Order.{keep}
use Rattle.balance_slots.specs.Decimal.{digits, in_order}
use Rattle.balance_slots.specs.Slots.{add_nonzero, add, slots}
use Rattle.balance_slots.specs.Workspace.{full, workspace_of}
use Rattle.balance_slots.specs.GroupRefusal.{unbalanced, names_first, group_refusal}
use Rattle.balance.specs.Tables.{TableLists, shape_at, lookups_at, table_at, tables_of, lists_fit}
use Rattle.balance.specs.Groups.{members, same_bus, appears, local_group, bus_group, bus_groups, groups}
use Rattle.balance.specs.Entries.{count_of, entry_of, row_entries, member_entries, entries}
use Rattle.balance.specs.Refusals.{all, listed, covered, tables_refusal}
use Rattle.balance.specs.Balance.{visit, balance, check, check_at}
use Rattle.balance.proofs.laws.Cases.{two_tables}
use Rattle.balance.specs.Passes.{Fits, AllGroups, groups_of}
use Rattle.theorems_balance.specs.Sums.{IdenticallyZero}
use Rattle.theorems_balance.specs.Balance.{OneWidth}
use Rattle.theorems_balance.proofs.laws.Identity.{known_identity}
use Rattle.theorems_balance.proofs.laws.Example.{only-tuple}

-- the tables' rows: (3, 1) and (3, 0)
abbrev tables : TableLists
tables = two_tables (3 ∷ 1 ∷ 3 ∷ 0 ∷ [])

-- one slot
abbrev workspace : List ℕ
workspace = replicate 10 7

-- what is computed of them in a field
record Computed (field : ℕ) : Type 0 where
  is_known : T (Choices.known (choices_of field 1))
  tests : tables_refusal (limits_of 1) (prime_of field) tables ≡ none
  fits : AllGroups (Fits (prime_of field) (length workspace)) (groups_of tables)
  refused : (check_at (choices_of field 1) tables workspace).refusal ≡ some (NetNotZero 1 0 1)

computed : Computed 1 × Computed 2
unfolding known_field prime_of add_m mul_m total every joined fold tab flat_map all_below all_within Choices.known limits_of cabinet decode node row_of
    window node_value values row_values node_degree degrees traces_within nodes_within traces_fit nodes_fit traces_below constants_below nodes_known
    degrees_low name_start tuple_start multiplicity_start flag_start element_start tuple_width tuple_nodes lookup_at lookups_of weight_limit lookup_within lookups_within
    lookups_fit sizes words_below known lengths_agree nodes_present lists_agree has_lookups preprocessed_enough same_list digits in_order add_nonzero
    add slots full workspace_of unbalanced names_first group_refusal keep size_start table_part shape_at lookups_at table_at tables_of lists_fit
    members same_bus appears local_group bus_group bus_groups groups count_of entry_of row_entries member_entries entries all listed covered
    tables_refusal visit balance check check_at
computed = (
  record { is_known = tt; tests = refl; fits = (leb→le 0 1 tt, (leb→le 1 1 tt, tt)); refused = refl },
  record { is_known = tt; tests = refl; fits = (leb→le 0 1 tt, (leb→le 1 1 tt, tt)); refused = refl },
)

-- the empty tuple, and (column 0) in each table
one_width : AllGroups OneWidth (groups_of tables)
unfolding total tab flat_map name_start tuple_start element_start tuple_width tuple_nodes lookup_at lookups_of same_list keep size_start table_part
    lookups_at table_at tables_of members same_bus appears local_group bus_group bus_groups groups
one_width = (
  (0, λ m k nodes i. only-tuple [] (Memᴰ.eq_of_singleton k) refl i),
  (
    (
      1,
      λ m k nodes i.
          ⊎_elim (λ e. only-tuple (0 ∷ []) e refl i) (λ j. only-tuple (0 ∷ []) (Memᴰ.eq_of_singleton j) refl i) (Memᴰ.cases_cons k),
    ),
    tt,
  ),
)

-- the sums of both groups are zero at every pair that is no pole
abbrev Zero : ℕ → Type 0
Zero field = AllGroups (IdenticallyZero (prime_of field) (w_of field) (certificate_of field)) (groups_of tables)

not_zero : (field : ℕ) → Computed field → ¬ Zero field
not_zero field c x =
    some-ne-none _
    (sym c.refused ∙ (known_identity (choices_of field 1) c.is_known (certificate_of field) tables workspace c.tests c.fits one_width).1 x)

pub not_both_zero : ¬ Zero 1 × ¬ Zero 2
not_both_zero = (not_zero 1 computed.0, not_zero 2 computed.1)
