-- Worked cases c8 to c10 of SPECIFICATION, section 12.1, its examples of refusals 6 and 7, and the choices of a call: one table, one theorem, by
-- computation.
use Rattle.std.specs.Prelude.{◌≡◌, refl, false, ℕ, replicate, Err, Ok, Result}
use mathlib.Core.List.{List, [], ◌∷◌, ◌++◌, flat_map, zip_with}
use Rattle.lists.specs.Same.{same_list}
use Rattle.lists.specs.Count.{total, every, first}
use Rattle.lists.specs.Tab.{tab}
use Rattle.field.specs.Known.{known_field, prime_of}
use Rattle.expression.specs.Words.{all_below, all_within}
use Rattle.expression.specs.Limits.{cabinet}
use Rattle.expression.specs.Choices.{choices_of, known, limits_of}
use Rattle.expression.specs.Node.{decode, node}
use Rattle.expression.specs.Degree.{node_degree, degrees}
use Rattle.expression.specs.Tests.{nodes_within, nodes_fit, constants_below, nodes_known, degrees_low}
use Rattle.expression.specs.declared.choices.Choices.{Choices}
use Rattle.expression.specs.declared.refusal.Refusal.TheVariants.{SizeAtOdds, WordTooLarge, NodeInvalid, LookupInvalid, WidthsDiffer, WeightTooLarge}
use Rattle.lookup.specs.Lookups.{Lookups, name_start, tuple_start, multiplicity_start, flag_start, element_start, tuple_width, multiplicity_node, flag_node, tuple_nodes, lookup_at, lookups_of}
use Rattle.lookup.specs.Refusals.{columns_within, form_sizes, nodes_refusal, lists_refusal, form_refusal, shape_of}
use Rattle.lookup.specs.declared.refusals.Columns.{Columns}
use Rattle.lookup.specs.Tests.{weight_limit, lookup_within, lookups_within, lookups_fit, lengths_agree, nodes_present, lists_agree}
use Rattle.lookup.specs.Buses.{name_at, alone_at, same_bus}
use Rattle.lookup_degree.specs.Sums.{sum_of, largest_of, greatest}
use Rattle.lookup_degree.specs.Degree.{tuple_degree, denominator_degree, numerator_degree, additive_degree, exclusive_degree, lookup_degree}
use Rattle.lookup_degree.specs.ConstraintDegree.{degree_refusal, degree_answer, degree_at}
use Rattle.lookup_buses.specs.Order.{keep, position, by_place, numbers, place, arranged}
use Rattle.lookup_buses.specs.Widths.{width_in_lookup, width_in_table, expected, by_bus, lookup_refusal, table_refusal, widths_refusal, widest_in_lookup, widest_in_table, widest}
use Rattle.lookup.specs.Sizes.{size_start, table_part}
use Rattle.lookup_buses.specs.CheckBusWidths.{BusTables, table_at, tables_of, lists_fit, table_fits, all_fit, widths_answer, widths_at}
use Rattle.packing.specs.Packing.{in_order, fill, filled, renumbered, packed, overweight}
use Rattle.packing.specs.Written.{lookup_words, words_of}
use Rattle.expression.specs.declared.refusal.Refusal.{Refusal}
use Rattle.packing.specs.PackSameBus.{Outcome, holds, columns, packing_refusal, packing, packing_at}

-- the cabinet's limits, in this field
abbrev in_field : ℕ → Choices
in_field field = choices_of field 1

-- a table with one column, and one node: column 0 of the current row, of degree 1
abbrev one_column : Columns
one_column = record { main = 1; preprocessed = 0; public_values = 0 }

abbrev one_node : List ℕ
one_node = 1 ∷ 0 ∷ 0 ∷ []

-- or one node that is a constant
abbrev constant : ℕ → List ℕ
constant a = 0 ∷ a ∷ 0 ∷ []

abbrev degree_of : Lookups → Result ℕ Refusal
degree_of l = degree_at (in_field 1) one_column one_node l 0 0

abbrev packed_with : ℕ → Lookups → Lookups → Outcome
packed_with limit l lent = packing_at (in_field 1) limit one_column one_node l lent

-- one lookup of n tuples (node 0), counted by node 0; on the bus "b"
abbrev additive : List ℕ → ℕ → Lookups
additive record_words n =
    record { lookups = record_words; names = 98 ∷ []; tuples = replicate n 1; multiplicities = replicate n 0; flags = []; elements = replicate n 0 }

-- n lookups of one such tuple each
abbrev singles : List ℕ → ℕ → Lookups
singles record_words n =
    record { lookups = record_words; names = replicate n 98; tuples = replicate n 1; multiplicities = replicate n 0; flags = []; elements = replicate n 0 }

-- c8: one lookup of two tuples; c9: one of four exclusive branches
abbrev two : Lookups
two = additive (1 ∷ 1 ∷ 1 ∷ 0 ∷ 0 ∷ 2 ∷ 2 ∷ 0 ∷ 0 ∷ []) 2

abbrev four : Lookups
four =
    record {
      lookups = 1 ∷ 1 ∷ 1 ∷ 0 ∷ 1 ∷ 4 ∷ 4 ∷ 4 ∷ 0 ∷ [];
      names = 98 ∷ [];
      tuples = replicate 4 1;
      multiplicities = replicate 4 0;
      flags = replicate 4 0;
      elements = replicate 4 0;
    }

-- c10: five lookups of weight 1
abbrev five : Lookups
five =
    singles
    (1 ∷ 1 ∷ 1 ∷ 0 ∷ 0 ∷ 1 ∷ 1 ∷ 0 ∷ 0 ∷ 1 ∷ 1 ∷ 1 ∷ 1 ∷ 0 ∷ 1 ∷ 1 ∷ 0 ∷ 0 ∷ 1 ∷ 1 ∷ 1 ∷ 2 ∷ 0 ∷ 1 ∷ 1 ∷ 0 ∷ 0 ∷ 1 ∷ 1 ∷ 1 ∷ 3 ∷ 0 ∷ 1 ∷ 1 ∷ 0 ∷ 0 ∷ 1 ∷ 1 ∷ 1 ∷ 4 ∷ 0 ∷ 1 ∷ 1 ∷ 0 ∷ 0 ∷ [])
    5

-- its columns at limit 3: two of weight 2 with two tuples, one of weight 1 with one
abbrev two_two_one : List ℕ
two_two_one = 1 ∷ 1 ∷ 2 ∷ 0 ∷ 0 ∷ 2 ∷ 2 ∷ 0 ∷ 0 ∷ 1 ∷ 1 ∷ 2 ∷ 1 ∷ 0 ∷ 2 ∷ 2 ∷ 0 ∷ 0 ∷ 1 ∷ 1 ∷ 1 ∷ 2 ∷ 0 ∷ 1 ∷ 1 ∷ 0 ∷ 0 ∷ []

-- three lookups, on the buses "b", "a" and "b"
abbrev b_a_b : Lookups
b_a_b =
    record {
      lookups = 1 ∷ 1 ∷ 1 ∷ 0 ∷ 0 ∷ 1 ∷ 1 ∷ 0 ∷ 0 ∷ 1 ∷ 1 ∷ 1 ∷ 1 ∷ 0 ∷ 1 ∷ 1 ∷ 0 ∷ 0 ∷ 1 ∷ 1 ∷ 1 ∷ 2 ∷ 0 ∷ 1 ∷ 1 ∷ 0 ∷ 0 ∷ [];
      names = 98 ∷ 97 ∷ 98 ∷ [];
      tuples = replicate 3 1;
      multiplicities = replicate 3 0;
      flags = [];
      elements = replicate 3 0;
    }

-- refusal 6: the bus "mem", widths 2 and 3
abbrev mem : Lookups
mem =
    record {
      lookups = 1 ∷ 3 ∷ 1 ∷ 0 ∷ 0 ∷ 1 ∷ 1 ∷ 0 ∷ 0 ∷ 1 ∷ 3 ∷ 1 ∷ 1 ∷ 0 ∷ 1 ∷ 1 ∷ 0 ∷ 0 ∷ [];
      names = 109 ∷ 101 ∷ 109 ∷ 109 ∷ 101 ∷ 109 ∷ [];
      tuples = 2 ∷ 3 ∷ [];
      multiplicities = 0 ∷ 0 ∷ [];
      flags = [];
      elements = replicate 5 0;
    }

-- the same two lookups in two tables; how many multiplicities the second has, and the widths
abbrev mem_tables : ℕ → List ℕ → BusTables
mem_tables multiplicities tuples =
    record {
      lookups = 1 ∷ 3 ∷ 1 ∷ 0 ∷ 0 ∷ 1 ∷ 1 ∷ 0 ∷ 0 ∷ 1 ∷ 3 ∷ 1 ∷ 0 ∷ 0 ∷ 1 ∷ multiplicities ∷ 0 ∷ 0 ∷ [];
      names = 109 ∷ 101 ∷ 109 ∷ 109 ∷ 101 ∷ 109 ∷ [];
      tuples = tuples;
      sizes = 1 ∷ 3 ∷ 1 ∷ 1 ∷ 3 ∷ 1 ∷ [];
    }

-- refusal 7: weights 4294967295 and 1
abbrev heavy : Lookups
heavy = singles (1 ∷ 1 ∷ 4294967295 ∷ 0 ∷ 0 ∷ 1 ∷ 1 ∷ 0 ∷ 0 ∷ 1 ∷ 1 ∷ 1 ∷ 1 ∷ 0 ∷ 1 ∷ 1 ∷ 0 ∷ 0 ∷ []) 2

-- a local of n tuples; its weight is low + 2³² × high
abbrev local_of : ℕ → ℕ → ℕ → Lookups
local_of n low high =
    record {
      lookups = 0 ∷ 0 ∷ low ∷ 0 ∷ 0 ∷ n ∷ n ∷ 0 ∷ high ∷ [];
      names = [];
      tuples = replicate n 1;
      multiplicities = replicate n 0;
      flags = [];
      elements = replicate n 0;
    }

-- two exclusive lookups on one bus, of one branch each
abbrev branches : Lookups
branches =
    record {
      lookups = 1 ∷ 1 ∷ 1 ∷ 0 ∷ 1 ∷ 1 ∷ 1 ∷ 1 ∷ 0 ∷ 1 ∷ 1 ∷ 1 ∷ 1 ∷ 1 ∷ 1 ∷ 1 ∷ 1 ∷ 0 ∷ [];
      names = 98 ∷ 98 ∷ [];
      tuples = 1 ∷ 1 ∷ [];
      multiplicities = 0 ∷ 0 ∷ [];
      flags = 0 ∷ 0 ∷ [];
      elements = 0 ∷ 0 ∷ [];
    }

-- lent lists with room for five lookups, all 9
abbrev room : Lookups
room =
    record { lookups = replicate 45 9; names = replicate 5 9; tuples = replicate 5 9; multiplicities = replicate 5 9; flags = []; elements = replicate 5 9 }

-- lent lists with room for its columns at limit 3, and no more
abbrev snug : Lookups
snug =
    record { lookups = replicate 27 9; names = replicate 3 9; tuples = replicate 5 9; multiplicities = replicate 5 9; flags = []; elements = replicate 5 9 }

pub cases :
    -- c8: two additive tuples, all of degree 1: degree 3
    (degree_of two ≡ Ok 3)
    -- c9: four exclusive branches likewise: 3
    × (degree_of four ≡ Ok 3)
    -- c10: five one-tuple additive lookups of degree 1 on one bus, limit 3: columns of 2, 2, 1; what lies past them is untouched
    × ((packed_with 3 five room).lists
    ≡ record {
      lookups = two_two_one ++ replicate 18 9;
      names = 98 ∷ 98 ∷ 98 ∷ 9 ∷ 9 ∷ [];
      tuples = replicate 5 1;
      multiplicities = replicate 5 0;
      flags = [];
      elements = replicate 5 0;
    })
    -- limit 0: five
    × ((packed_with 0 five room).lists ≡ five)
    × ((packed_with 0 five room).answer
    ≡ Ok (record { lookups = 45; names = 5; tuples = 5; multiplicities = 5; flags = 0; elements = 5 }))
    -- "a bus by its first additive lookup": "b" before "a", whatever their names
    × ((packed_with 3 b_a_b b_a_b).lists
    ≡ record {
      lookups = 1 ∷ 1 ∷ 2 ∷ 0 ∷ 0 ∷ 2 ∷ 2 ∷ 0 ∷ 0 ∷ 1 ∷ 1 ∷ 1 ∷ 1 ∷ 0 ∷ 1 ∷ 1 ∷ 0 ∷ 0 ∷ 1 ∷ 1 ∷ 1 ∷ 2 ∷ 0 ∷ 1 ∷ 1 ∷ 0 ∷ 0 ∷ [];
      names = 98 ∷ 97 ∷ 98 ∷ [];
      tuples = replicate 3 1;
      multiplicities = replicate 3 0;
      flags = [];
      elements = replicate 3 0;
    })
    -- exclusives share no column, whatever the limit
    × ((packed_with 9 branches branches).lists ≡ branches)
    -- a lent list that is shorter than the table's own is 1, also where the columns would fit, and before 3
    × (packed_with 3 five snug ≡ record { answer = Err SizeAtOdds; lists = snug })
    × ((packing_at (in_field 1) 3 one_column (99 ∷ 0 ∷ 0 ∷ []) five snug).answer ≡ Err SizeAtOdds)
    × ((packing_at (in_field 1) 3 one_column (99 ∷ 0 ∷ 0 ∷ []) five room).answer ≡ Err NodeInvalid)
    -- 6: bus "mem": 2 and 3
    × (packed_with 3 mem mem ≡ record { answer = Err (WidthsDiffer 1 2 3); lists = mem })
    × (widths_at (in_field 1) (mem_tables 1 (2 ∷ 3 ∷ [])) ≡ Err (WidthsDiffer 0 2 3))
    × (widths_at (in_field 1) (mem_tables 1 (2 ∷ 2 ∷ [])) ≡ Ok 2)
    -- 5 before 6: a tuple without a multiplicity, in the second table
    × (widths_at (in_field 1) (mem_tables 0 (2 ∷ 3 ∷ [])) ≡ Err LookupInvalid)
    -- 7: weights 4294967295 and 1; a merge that is not kept is none
    × (packed_with 3 heavy room ≡ record { answer = Err WeightTooLarge; lists = room })
    -- the column that it would have is over the limit of a bus weight: no other entry point would take it
    × (lookups_within cabinet (words_of (columns 3 one_node heavy)).lookups (words_of (columns 3 one_node heavy)).tuples ≡ false)
    × ((packed_with 2 heavy room).answer
    ≡ Ok (record { lookups = 18; names = 2; tuples = 2; multiplicities = 2; flags = 0; elements = 2 }))
    -- a local's weight may be 2³² - 1 for each tuple, and without tuples 2³² - 1: it stays whole, and is no 7; one more is 1
    × ((packed_with 3 (local_of 2 4294967294 1) (local_of 2 9 9)).lists ≡ local_of 2 4294967294 1)
    × (packed_with 3 (local_of 2 4294967295 1) room ≡ record { answer = Err SizeAtOdds; lists = room })
    × ((packed_with 3 (local_of 0 4294967295 0) room).answer
    ≡ Ok (record { lookups = 9; names = 0; tuples = 0; multiplicities = 0; flags = 0; elements = 0 }))
    × (packed_with 3 (local_of 0 0 1) room ≡ record { answer = Err SizeAtOdds; lists = room })
    × (degree_of (local_of 2 4294967294 1) ≡ Ok 3)
    × (degree_of (local_of 2 4294967295 1) ≡ Err SizeAtOdds)
    -- on a bus 2³² is 1, whatever the number of tuples
    × (degree_of (additive (1 ∷ 1 ∷ 0 ∷ 0 ∷ 0 ∷ 2 ∷ 2 ∷ 0 ∷ 1 ∷ []) 2) ≡ Err SizeAtOdds)
    × (widths_at (in_field 1) (record { lookups = 0 ∷ 0 ∷ 0 ∷ 0 ∷ 0 ∷ 0 ∷ 0 ∷ 0 ∷ 1 ∷ []; names = []; tuples = []; sizes = 1 ∷ 0 ∷ 0 ∷ [] })
    ≡ Err SizeAtOdds)
    -- 2 reads the prime of the field: the first is a word of field 2, of degree 0
    × (degree_at (in_field 1) one_column (constant 2013265921) two 0 0 ≡ Err WordTooLarge)
    × (degree_at (in_field 2) one_column (constant 2013265921) two 0 0 ≡ Ok 1)
    × (degree_at (in_field 2) one_column (constant 2130706433) two 0 0 ≡ Err WordTooLarge)
    × (packing_at (in_field 1) 1 one_column (constant 2013265921) five room ≡ record { answer = Err WordTooLarge; lists = room })
    × ((packing_at (in_field 2) 1 one_column (constant 2013265921) five room).answer
    ≡ Ok (record { lookups = 9; names = 1; tuples = 5; multiplicities = 5; flags = 0; elements = 5 }))
    × (packing_at (in_field 2) 1 one_column (constant 2130706433) five room ≡ record { answer = Err WordTooLarge; lists = room })
    -- no prime in the widths
    × (widths_at (in_field 2) (mem_tables 1 (2 ∷ 3 ∷ [])) ≡ Err (WidthsDiffer 0 2 3))
    -- an unknown field or profile is 1, before 5, and the lent lists stay
    × (degree_at (in_field 3) one_column one_node two 0 0 ≡ Err SizeAtOdds)
    × (degree_at (choices_of 1 3) one_column one_node two 0 0 ≡ Err SizeAtOdds)
    × (packing_at (in_field 0) 3 one_column one_node five room ≡ record { answer = Err SizeAtOdds; lists = room })
    × (packing_at (choices_of 2 0) 3 one_column one_node five room ≡ record { answer = Err SizeAtOdds; lists = room })
    × (widths_at (in_field 3) (mem_tables 0 (2 ∷ 3 ∷ [])) ≡ Err SizeAtOdds)
    × (widths_at (choices_of 1 3) (mem_tables 1 (2 ∷ 2 ∷ [])) ≡ Err SizeAtOdds)
unfolding known_field prime_of known limits_of total every first tab flat_map zip_with all_below all_within cabinet decode node node_degree degrees
    nodes_within nodes_fit constants_below nodes_known degrees_low name_start tuple_start multiplicity_start flag_start element_start tuple_width
    multiplicity_node flag_node tuple_nodes lookup_at lookups_of weight_limit lookup_within lookups_within lookups_fit lengths_agree nodes_present lists_agree sum_of largest_of
    greatest tuple_degree denominator_degree numerator_degree additive_degree exclusive_degree lookup_degree columns_within form_sizes nodes_refusal
    lists_refusal form_refusal shape_of degree_refusal degree_answer degree_at keep position by_place numbers same_list name_at alone_at same_bus
    place arranged width_in_lookup width_in_table expected by_bus lookup_refusal table_refusal widths_refusal widest_in_lookup widest_in_table widest
    size_start table_part table_at tables_of lists_fit table_fits all_fit widths_answer widths_at in_order fill filled renumbered packed overweight
    lookup_words words_of holds columns packing_refusal packing packing_at
cases = (refl, refl, refl, refl, refl, refl, refl, refl, refl, refl, refl, refl, refl, refl, refl, refl, refl, refl, refl, refl, refl, refl, refl, refl, refl, refl, refl, refl, refl, refl, refl, refl, refl, refl, refl, refl, refl, refl)
