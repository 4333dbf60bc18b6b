-- Balance, on words and on bytes: the numbers of the answers to the calls with 8 lookups of 4 words, and with one more of each.
use Rattle.std.specs.Prelude.{ℕ, ◌≡◌, refl}
use mathlib.Core.List.{List, [], ◌∷◌, flat_map}
use Rattle.expression.specs.Choices.{choices_of, limits_of, known as known_choices}
use Rattle.expression.specs.declared.choices.Choices.{Choices}
use Rattle.balance.specs.Balance.{in_numbers as balance_numbers}
use Rattle.balance.specs.Balance.{balance, check, check_at, visit}
use Rattle.balance.specs.Entries.{count_of, entries, entry_of, member_entries, row_entries}
use Rattle.balance.specs.Groups.{appears, bus_group, bus_groups, groups, local_group, members, same_bus}
use Rattle.balance.specs.Refusals.{all, covered, listed, tables_refusal}
use Rattle.balance.specs.Tables.{lists_fit, lookups_at, shape_at, table_at, tables_of}
use Rattle.balance_slots.specs.Decimal.{digits, in_order}
use Rattle.balance_slots.specs.GroupRefusal.{group_refusal, names_first, unbalanced}
use Rattle.balance_slots.specs.Slots.{add, add_nonzero, slots}
use Rattle.balance_slots.specs.Workspace.{full, workspace_of}
use Rattle.delmatik_bytes.specs.Balance.{balance_on_bytes}
use Rattle.expression.specs.Degree.{degrees, node_degree}
use Rattle.expression.specs.Limits.{cabinet, gateway}
use Rattle.expression.specs.Node.{decode, node}
use Rattle.expression.specs.Tests.{constants_below, degrees_low, nodes_fit, nodes_known, nodes_within, traces_below, traces_fit, traces_within}
use Rattle.expression.specs.Values.{node_value, row_values, values}
use Rattle.expression.specs.Window.{row_of, window}
use Rattle.expression.specs.Words.{all_below, all_within}
use Rattle.field.specs.Known.{known_field, prime_of}
use Rattle.field.specs.Word.{add_m, mul_m, neg_m, sub_m}
use Rattle.lists.specs.Count.{every, joined, total}
use Rattle.lists.specs.Fold.{fold}
use Rattle.lists.specs.Same.{same_list}
use Rattle.lists.specs.Tab.{tab}
use Rattle.lookup.specs.Lookups.{element_start, flag_start, lookup_at, lookups_of, multiplicity_start, name_start, tuple_nodes, tuple_start, tuple_width}
use Rattle.lookup.specs.Sizes.{size_start, table_part}
use Rattle.lookup.specs.Tests.{has_lookups, lengths_agree, lists_agree, lookups_fit, weight_limit, lookup_within, lookups_within, nodes_present, preprocessed_enough, sizes, words_below, known}
use Rattle.lookup_buses.specs.Order.{keep}
use Rattle.wire.specs.Room.{fit, flat, sizes_fit}
use Rattle.wire.specs.Wire.{bytes_of, word_at, word_bytes, word_of, words_of}
use Rattle.theorems_profiles.proofs.laws.Calls.{balanced, balanced_bytes}

abbrev pub numbers : ℕ → ℕ → Choices → List ℕ
numbers n w c =
    (balance_numbers (balanced n w c)).answer.number ∷ (balanced_bytes n w c).number ∷ []

-- within both limits, and where the gateway's is passed
abbrev pub answers : List ℕ
answers = 18 ∷ 18 ∷ []

abbrev pub answers_past : List ℕ
answers_past = 1 ∷ 1 ∷ []

pub record Computed (field : ℕ) : Type 0 where
  pub within : numbers 8 4 (choices_of field 2) ≡ answers
  pub nine_lookups : (numbers 9 4 (choices_of field 2) ≡ answers_past) × (numbers 9 4 (choices_of field 1) ≡ answers)
  pub five_words : (numbers 8 5 (choices_of field 2) ≡ answers_past) × (numbers 8 5 (choices_of field 1) ≡ answers)

pub computed : Computed 1 × Computed 2
unfolding balance check check_at visit count_of entries entry_of member_entries row_entries appears bus_group bus_groups groups local_group members
    same_bus all covered listed tables_refusal lists_fit lookups_at shape_at table_at tables_of digits in_order group_refusal names_first unbalanced
    add add_nonzero slots full workspace_of balance_on_bytes limits_of known_choices degrees node_degree cabinet gateway decode node
    constants_below degrees_low nodes_fit nodes_known nodes_within traces_below traces_fit traces_within node_value row_values values row_of window
    all_below all_within known_field prime_of add_m mul_m neg_m sub_m every joined total fold same_list tab element_start flag_start lookup_at lookups_of
    multiplicity_start name_start tuple_nodes tuple_start tuple_width size_start table_part has_lookups lengths_agree lists_agree lookups_fit
    weight_limit lookup_within lookups_within nodes_present preprocessed_enough sizes words_below known keep fit flat sizes_fit bytes_of word_at word_bytes
    word_of words_of flat_map balance_numbers
computed = (
  record { within = refl; nine_lookups = (refl, refl); five_words = (refl, refl) },
  record { within = refl; nine_lookups = (refl, refl); five_words = (refl, refl) },
)
