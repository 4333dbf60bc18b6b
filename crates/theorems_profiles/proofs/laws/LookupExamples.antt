-- Degree, packing, building, widths, and packing on bytes: the numbers of the answers to the calls with 8 lookups of 4 words, and with one more of each.
use Rattle.std.specs.Prelude.{ℕ, ◌≡◌, refl}
use mathlib.Core.List.{List, [], ◌∷◌, flat_map, zip_with}
use Rattle.expression.specs.Choices.{choices_of, known, limits_of}
use Rattle.expression.specs.declared.choices.Choices.{Choices}
use Rattle.lookup_degree.specs.ConstraintDegree.{in_numbers as degree_numbers}
use Rattle.lookup_buses.specs.CheckBusWidths.{in_numbers as widths_numbers}
use Rattle.lookup_builder.specs.FromInteractions.{in_numbers as building_numbers}
use Rattle.packing.specs.PackSameBus.{in_numbers as packing_numbers}
use Rattle.delmatik_bytes.specs.Pack.{packing_on_bytes}
use Rattle.expression.specs.Degree.{degrees, node_degree}
use Rattle.expression.specs.Limits.{cabinet, gateway}
use Rattle.expression.specs.Node.{decode, node}
use Rattle.expression.specs.Tests.{constants_below, degrees_low, nodes_fit, nodes_known, nodes_within}
use Rattle.expression.specs.Words.{all_below, all_within}
use Rattle.field.specs.Known.{known_field, prime_of}
use Rattle.lists.specs.Count.{every, first, joined, total}
use Rattle.lists.specs.Same.{same_list}
use Rattle.lists.specs.Tab.{tab}
use Rattle.lookup.specs.Buses.{alone_at, name_at, same_bus}
use Rattle.lookup.specs.Lookups.{element_start, flag_node, flag_start, lookup_at, lookups_of, multiplicity_node, multiplicity_start, name_start, tuple_nodes, tuple_start, tuple_width}
use Rattle.lookup.specs.Refusals.{columns_within, form_refusal, form_sizes, lists_refusal, nodes_refusal, shape_of}
use Rattle.lookup.specs.Sizes.{size_start, table_part}
use Rattle.lookup.specs.Tests.{lengths_agree, lists_agree, lookups_fit, weight_limit, lookup_within, lookups_within, nodes_present}
use Rattle.lookup_builder.specs.Building.{built_weight, built_words, first_tuple, local_refusal, locals_refusal, weight_sum, weight_top, built as built_words_of}
use Rattle.lookup_builder.specs.FromInteractions.{building, building_at, building_fits, building_refusal, built_refusal}
use Rattle.lookup_buses.specs.CheckBusWidths.{all_fit, lists_fit, table_at, table_fits, tables_of, widths_answer, widths_at}
use Rattle.lookup_buses.specs.Order.{arranged, by_place, keep, place, position, numbers as bus_numbers}
use Rattle.lookup_buses.specs.Widths.{by_bus, expected, lookup_refusal, table_refusal, widest_in_lookup, widest_in_table, width_in_lookup, width_in_table, widths_refusal, widest as widest_tuple}
use Rattle.lookup_degree.specs.ConstraintDegree.{degree_answer, degree_at, degree_refusal}
use Rattle.lookup_degree.specs.Degree.{additive_degree, denominator_degree, exclusive_degree, lookup_degree, numerator_degree, tuple_degree}
use Rattle.lookup_degree.specs.Sums.{greatest, largest_of, sum_of}
use Rattle.packing.specs.PackSameBus.{columns, holds, packing, packing_at, packing_refusal}
use Rattle.packing.specs.Packing.{fill, filled, in_order, overweight, renumbered, packed as packed_columns}
use Rattle.packing.specs.Written.{lookup_words, words_of as words_of_columns}
use Rattle.wire.specs.Room.{fit, flat, sizes_fit}
use Rattle.wire.specs.Wire.{bytes_of, word_at, word_bytes, word_of, words_of}
use Rattle.theorems_profiles.proofs.laws.Calls.{degree_of_first, packed, built, widest, packed_bytes}

abbrev pub numbers : ℕ → ℕ → Choices → List ℕ
numbers n w c =
    (degree_numbers (degree_of_first n w c)).answer.number
    ∷ (packing_numbers (packed n w c)).answer.number
    ∷ (building_numbers (built n w c)).answer.number
    ∷ (widths_numbers (widest n w c)).answer.number
    ∷ (packed_bytes n w c).number
    ∷ []

-- within both limits, and where the gateway's is passed
abbrev pub answers : List ℕ
answers = 0 ∷ 0 ∷ 0 ∷ 0 ∷ 0 ∷ []

abbrev pub answers_past : List ℕ
answers_past = 1 ∷ 1 ∷ 1 ∷ 1 ∷ 1 ∷ []

pub record Computed (field : ℕ) : Type 0 where
  pub within : numbers 8 4 (choices_of field 2) ≡ answers
  pub nine_lookups : (numbers 9 4 (choices_of field 2) ≡ answers_past) × (numbers 9 4 (choices_of field 1) ≡ answers)
  pub five_words : (numbers 8 5 (choices_of field 2) ≡ answers_past) × (numbers 8 5 (choices_of field 1) ≡ answers)

pub computed : Computed 1 × Computed 2
unfolding packing_on_bytes known limits_of degrees node_degree cabinet gateway decode node constants_below degrees_low nodes_fit nodes_known
    nodes_within all_below all_within known_field prime_of every first joined total same_list tab alone_at name_at same_bus element_start flag_node
    flag_start lookup_at lookups_of multiplicity_node multiplicity_start name_start tuple_nodes tuple_start tuple_width columns_within form_refusal
    form_sizes lists_refusal nodes_refusal shape_of size_start table_part lengths_agree lists_agree lookups_fit weight_limit lookup_within lookups_within nodes_present
    built_weight built_words first_tuple local_refusal locals_refusal weight_sum weight_top built_words_of building building_at
    building_fits building_refusal built_refusal all_fit lists_fit table_at table_fits tables_of widths_answer widths_at arranged by_place keep place
    position bus_numbers by_bus expected lookup_refusal table_refusal widest_in_lookup widest_in_table width_in_lookup
    width_in_table widths_refusal widest_tuple degree_answer degree_at degree_refusal additive_degree denominator_degree
    exclusive_degree lookup_degree numerator_degree tuple_degree greatest largest_of sum_of columns holds packing packing_at packing_refusal fill
    filled in_order overweight renumbered packed_columns lookup_words words_of_columns fit flat sizes_fit bytes_of word_at
    word_bytes word_of words_of flat_map zip_with degree_numbers widths_numbers building_numbers packing_numbers
computed = (
  record { within = refl; nine_lookups = (refl, refl); five_words = (refl, refl) },
  record { within = refl; nine_lookups = (refl, refl); five_words = (refl, refl) },
)
