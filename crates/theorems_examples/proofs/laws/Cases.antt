-- The twelve worked cases of SPECIFICATION, section 12.1, hold of the definitions, and so do those of field 2.
use mathlib.Core.List.{flat_map, zip_with}
use Rattle.std.specs.Prelude.{T}
use Rattle.algebra.specs.Power.{pow_m}
use Rattle.lookup_degree.specs.Degree.{tuple_degree, denominator_degree, numerator_degree, additive_degree, exclusive_degree, lookup_degree}
use Rattle.lookup_degree.specs.ConstraintDegree.{degree_refusal, degree_answer}
use Rattle.lookup_degree.specs.Sums.{sum_of, largest_of, greatest}
use Rattle.expression.specs.Degree.{node_degree, degrees}
use Rattle.expression.specs.Choices as Choices
use Rattle.expression.specs.Choices.{known_rule, limits_of}
use Rattle.expression.specs.Limits.{cabinet}
use Rattle.expression.specs.Node.{node, decode}
use Rattle.expression.specs.Tests.{traces_within, nodes_within, traces_fit, nodes_fit, traces_below, constants_below, nodes_known, degrees_low}
use Rattle.expression.specs.Values.{node_value, values, row_values}
use Rattle.expression.specs.Window.{row_of, window}
use Rattle.expression.specs.Words.{all_below, all_within}
use Rattle.field.specs.Element.{add4, sub4, mul4, scale4, power4, sum4, product4, conjugate, conjugate2, norm2, norm, inverse4, is_zero, element}
use Rattle.field.specs.Known.{known_field, prime_of, w_of}
use Rattle.field.specs.Word.{add_m, neg_m, sub_m, mul_m, inverse1}
use Rattle.lists.specs.Same.{same_list}
use Rattle.lists.specs.Count.{total, every, some_of, first, joined}
use Rattle.lists.specs.Fold.{fold}
use Rattle.lists.specs.Tab.{tab}
use Rattle.lists.specs.Cases.{hold}
use Rattle.logup.specs.Column.{branches, multiplicity, flag, chosen, denom, used_denom, additive_fraction, additive_fault, exclusive_fraction, exclusive_fault, fraction, fault}
use Rattle.logup.specs.Constraints.{others, additive_numerator, additive_denominator, exclusive_numerator, exclusive_denominator, numerator, common_denominator, cell, cell_sum, lookup_constraint, step, binding, row_verdict, rows_verdict, constraints_refusal, verdict}
use Rattle.logup.specs.Generation.{entry_refusal, rows_outcome, entry_outcome, generation, generation_at}
use Rattle.logup.specs.Ledger.{count, lookup_entries, row_entries, entries, post, ledger, listed, met, tuples_met}
use Rattle.logup.specs.Reader.{row_part}
use Rattle.logup.specs.Rows.{fault_refusal, place, fraction_at, row_sum, accumulator, row_words, fault_at, row_fault, trace, first_fault, used}
use Rattle.logup.specs.Rule.{elements_under}
use Rattle.logup.specs.Tuple.{tuple, combine, denominator, quotient4}
use Rattle.lookup.specs.Refusals.{columns_within, form_sizes, nodes_refusal, lists_refusal, form_refusal, shape_of}
use Rattle.lookup.specs.Lookups.{name_start, tuple_start, multiplicity_start, flag_start, element_start, tuple_width, multiplicity_node, flag_node, tuple_nodes, lookup_at, lookups_of}
use Rattle.lookup.specs.Tests.{weight_limit, lookup_within, lookups_within, lookups_fit, sizes, words_below, known, lengths_agree, nodes_present, lists_agree, in_position, has_lookups, preprocessed_enough, rows_enough}
use Rattle.lookup.specs.Buses.{name_at, alone_at, same_bus}
use Rattle.packing.specs.PackSameBus.{holds, columns, packing_refusal, packing}
use Rattle.packing.specs.Packing.{in_order, fill, filled, renumbered, packed, overweight}
use Rattle.packing.specs.Written.{lookup_words, words_of}
use Rattle.lookup_protocol.specs.Height.{table_lookups, weight_sum, table_weight, height_sum, lookups_small, tables_within, tables_fit, height_refusal, height_at}
use Rattle.lookup_challenges.specs.Prefixes.{prefix_by, prefixes_fit, prefixes_refusal, prefixes, prefixes_at}
use Rattle.lookup_protocol.specs.Terminals.{present, terminal, terminal_below, with_terminal, terminal_sum, terminals_refusal}
use Rattle.lookup.specs.Sizes.{size_start, table_part}
use Rattle.lookup_buses.specs.CheckBusWidths.{table_at, tables_of, lists_fit, table_fits, all_fit, widths_answer}
use Rattle.lookup_buses.specs.Order.{keep, position, by_place, numbers, place as packing_place, arranged}
use Rattle.lookup_buses.specs.Widths.{width_in_lookup, width_in_table, expected, by_bus, lookup_refusal, table_refusal, widths_refusal, widest_in_lookup, widest_in_table, widest}
use Rattle.theorems_examples.specs.Table.{cases, field_2_cases}

pub cases-hold : T (hold cases)
unfolding pow_m add_m neg_m sub_m mul_m inverse1 add4 sub4 mul4 scale4 power4 sum4 product4 conjugate conjugate2 norm2 norm inverse4 is_zero element fold tab total every
    some_of first joined cabinet all_below all_within node decode row_of window node_value values row_values node_degree degrees traces_within
    nodes_within traces_fit nodes_fit traces_below constants_below nodes_known degrees_low name_start tuple_start multiplicity_start flag_start
    element_start tuple_width multiplicity_node flag_node tuple_nodes weight_limit lookup_within lookups_within lookups_fit sizes words_below known lengths_agree nodes_present
    lists_agree in_position has_lookups preprocessed_enough rows_enough tuple combine denominator quotient4 branches multiplicity flag chosen denom
    used_denom additive_fraction additive_fault exclusive_fraction exclusive_fault fraction fault fault_refusal place fraction_at row_sum
    accumulator row_words fault_at row_fault trace first_fault used entry_refusal rows_outcome entry_outcome generation others additive_numerator
    additive_denominator exclusive_numerator exclusive_denominator numerator common_denominator cell cell_sum lookup_constraint step binding
    row_verdict rows_verdict constraints_refusal verdict count lookup_entries row_entries entries same_list post ledger listed met tuples_met
    row_part flat_map zip_with lookup_at lookups_of sum_of largest_of greatest tuple_degree denominator_degree numerator_degree additive_degree
    exclusive_degree lookup_degree columns_within form_sizes nodes_refusal lists_refusal form_refusal shape_of degree_refusal degree_answer keep
    position by_place numbers name_at alone_at same_bus packing_place arranged width_in_lookup width_in_table expected by_bus lookup_refusal
    table_refusal widths_refusal widest_in_lookup widest_in_table widest size_start table_part table_at tables_of lists_fit table_fits all_fit
    widths_answer in_order fill filled renumbered packed overweight lookup_words words_of holds columns packing_refusal packing prefix_by
    prefixes_fit prefixes_refusal present terminal terminal_below with_terminal terminal_sum terminals_refusal table_lookups weight_sum table_weight
    height_sum lookups_small tables_within tables_fit height_refusal
cases-hold = tt

pub field_2_cases-hold : T (hold field_2_cases)
unfolding pow_m known_field prime_of w_of add_m neg_m sub_m mul_m inverse1 add4 sub4 mul4 scale4 power4 sum4 conjugate conjugate2 norm2 norm inverse4
    is_zero element fold tab total every some_of first joined Choices.known known_rule limits_of cabinet all_below all_within node decode row_of
    window node_value values row_values node_degree degrees traces_within nodes_within traces_fit nodes_fit traces_below constants_below nodes_known
    degrees_low name_start tuple_start multiplicity_start flag_start element_start tuple_width multiplicity_node flag_node tuple_nodes
    weight_limit lookup_within lookups_within lookups_fit sizes words_below known lengths_agree nodes_present lists_agree in_position has_lookups preprocessed_enough
    rows_enough tuple combine denominator quotient4 branches multiplicity flag chosen denom used_denom additive_fraction additive_fault
    exclusive_fraction exclusive_fault fraction fault fault_refusal place fraction_at row_sum accumulator row_words fault_at row_fault trace
    first_fault used entry_refusal rows_outcome entry_outcome generation generation_at same_list size_start table_part prefix_by prefixes_fit
    prefixes_refusal prefixes prefixes_at table_lookups weight_sum table_weight height_sum lookups_small tables_within tables_fit height_refusal
    height_at elements_under
field_2_cases-hold = tt
