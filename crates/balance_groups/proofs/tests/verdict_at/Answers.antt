use native.Mathlib.Omega.{arith}
use Rattle.balance_groups.specs.laws.Ranges.{lies}
use Rattle.balance_groups.proofs.TestsLoops.{verdict_is}
use Rattle.balance_groups.proofs.tests.verdict_at.Goals as goal

pub slice_bounds-table_verdict-count : goal.slice_bounds-table_verdict-count
slice_bounds-table_verdict-count c =
    (lies c.requires.1 c.requires.2 c.table_ranges-ranges.ensures).main

pub slice_bounds-table_verdict-start : goal.slice_bounds-table_verdict-start
slice_bounds-table_verdict-start c =
    (lies c.requires.1 c.requires.2 c.table_ranges-ranges.ensures).main

pub slice_bounds-table_verdict-end : goal.slice_bounds-table_verdict-end
slice_bounds-table_verdict-end c =
    (lies c.requires.1 c.requires.2 c.table_ranges-ranges.ensures).main_end

pub slice_bounds-table_verdict-count-2 : goal.slice_bounds-table_verdict-count-2
slice_bounds-table_verdict-count-2 c =
    (lies c.requires.1 c.requires.2 c.table_ranges-ranges.ensures).preprocessed

pub slice_bounds-table_verdict-start-2 : goal.slice_bounds-table_verdict-start-2
slice_bounds-table_verdict-start-2 c =
    (lies c.requires.1 c.requires.2 c.table_ranges-ranges.ensures).preprocessed

pub slice_bounds-table_verdict-end-2 : goal.slice_bounds-table_verdict-end-2
slice_bounds-table_verdict-end-2 c =
    (lies c.requires.1 c.requires.2 c.table_ranges-ranges.ensures).preprocessed_end

pub slice_bounds-table_verdict-count-3 : goal.slice_bounds-table_verdict-count-3
slice_bounds-table_verdict-count-3 c =
    (lies c.requires.1 c.requires.2 c.table_ranges-ranges.ensures).public_values

pub slice_bounds-table_verdict-start-3 : goal.slice_bounds-table_verdict-start-3
slice_bounds-table_verdict-start-3 c =
    (lies c.requires.1 c.requires.2 c.table_ranges-ranges.ensures).public_values

pub slice_bounds-table_verdict-end-3 : goal.slice_bounds-table_verdict-end-3
slice_bounds-table_verdict-end-3 c =
    (lies c.requires.1 c.requires.2 c.table_ranges-ranges.ensures).public_values_end

pub slice_bounds-table_verdict-count-4 : goal.slice_bounds-table_verdict-count-4
slice_bounds-table_verdict-count-4 c =
    (lies c.requires.1 c.requires.2 c.table_ranges-ranges.ensures).nodes

pub slice_bounds-table_verdict-start-4 : goal.slice_bounds-table_verdict-start-4
slice_bounds-table_verdict-start-4 c =
    (lies c.requires.1 c.requires.2 c.table_ranges-ranges.ensures).nodes

pub slice_bounds-table_verdict-end-4 : goal.slice_bounds-table_verdict-end-4
slice_bounds-table_verdict-end-4 c =
    (lies c.requires.1 c.requires.2 c.table_ranges-ranges.ensures).nodes_end

pub slice_bounds-table_verdict-count-5 : goal.slice_bounds-table_verdict-count-5
slice_bounds-table_verdict-count-5 c =
    (lies c.requires.1 c.requires.2 c.table_ranges-ranges.ensures).lookups

pub slice_bounds-table_verdict-start-5 : goal.slice_bounds-table_verdict-start-5
slice_bounds-table_verdict-start-5 c =
    (lies c.requires.1 c.requires.2 c.table_ranges-ranges.ensures).lookups

pub slice_bounds-table_verdict-end-5 : goal.slice_bounds-table_verdict-end-5
slice_bounds-table_verdict-end-5 c =
    (lies c.requires.1 c.requires.2 c.table_ranges-ranges.ensures).lookups_end

pub slice_bounds-table_verdict-count-6 : goal.slice_bounds-table_verdict-count-6
slice_bounds-table_verdict-count-6 c =
    (lies c.requires.1 c.requires.2 c.table_ranges-ranges.ensures).names

pub slice_bounds-table_verdict-start-6 : goal.slice_bounds-table_verdict-start-6
slice_bounds-table_verdict-start-6 c =
    (lies c.requires.1 c.requires.2 c.table_ranges-ranges.ensures).names

pub slice_bounds-table_verdict-end-6 : goal.slice_bounds-table_verdict-end-6
slice_bounds-table_verdict-end-6 c =
    (lies c.requires.1 c.requires.2 c.table_ranges-ranges.ensures).names_end

pub slice_bounds-table_verdict-count-7 : goal.slice_bounds-table_verdict-count-7
slice_bounds-table_verdict-count-7 c =
    (lies c.requires.1 c.requires.2 c.table_ranges-ranges.ensures).tuples

pub slice_bounds-table_verdict-start-7 : goal.slice_bounds-table_verdict-start-7
slice_bounds-table_verdict-start-7 c =
    (lies c.requires.1 c.requires.2 c.table_ranges-ranges.ensures).tuples

pub slice_bounds-table_verdict-end-7 : goal.slice_bounds-table_verdict-end-7
slice_bounds-table_verdict-end-7 c =
    (lies c.requires.1 c.requires.2 c.table_ranges-ranges.ensures).tuples_end

pub slice_bounds-table_verdict-count-8 : goal.slice_bounds-table_verdict-count-8
slice_bounds-table_verdict-count-8 c =
    (lies c.requires.1 c.requires.2 c.table_ranges-ranges.ensures).multiplicities

pub slice_bounds-table_verdict-start-8 : goal.slice_bounds-table_verdict-start-8
slice_bounds-table_verdict-start-8 c =
    (lies c.requires.1 c.requires.2 c.table_ranges-ranges.ensures).multiplicities

pub slice_bounds-table_verdict-end-8 : goal.slice_bounds-table_verdict-end-8
slice_bounds-table_verdict-end-8 c =
    (lies c.requires.1 c.requires.2 c.table_ranges-ranges.ensures).multiplicities_end

pub slice_bounds-table_verdict-count-9 : goal.slice_bounds-table_verdict-count-9
slice_bounds-table_verdict-count-9 c =
    (lies c.requires.1 c.requires.2 c.table_ranges-ranges.ensures).flags

pub slice_bounds-table_verdict-start-9 : goal.slice_bounds-table_verdict-start-9
slice_bounds-table_verdict-start-9 c =
    (lies c.requires.1 c.requires.2 c.table_ranges-ranges.ensures).flags

pub slice_bounds-table_verdict-end-9 : goal.slice_bounds-table_verdict-end-9
slice_bounds-table_verdict-end-9 c =
    (lies c.requires.1 c.requires.2 c.table_ranges-ranges.ensures).flags_end

pub slice_bounds-table_verdict-count-10 : goal.slice_bounds-table_verdict-count-10
slice_bounds-table_verdict-count-10 c =
    (lies c.requires.1 c.requires.2 c.table_ranges-ranges.ensures).elements

pub slice_bounds-table_verdict-start-10 : goal.slice_bounds-table_verdict-start-10
slice_bounds-table_verdict-start-10 c =
    (lies c.requires.1 c.requires.2 c.table_ranges-ranges.ensures).elements

pub slice_bounds-table_verdict-end-10 : goal.slice_bounds-table_verdict-end-10
slice_bounds-table_verdict-end-10 c =
    (lies c.requires.1 c.requires.2 c.table_ranges-ranges.ensures).elements_end

pub offset_bounds-tables-ranges : goal.offset_bounds-tables-ranges
offset_bounds-tables-ranges c =
    let r = lies c.requires.1 c.requires.2 c.table_ranges-ranges.ensures in omega (arith, r.main, r.main_end, c.well_formed)

pub offset_bounds-tables-ranges-2 : goal.offset_bounds-tables-ranges-2
offset_bounds-tables-ranges-2 c =
    let r = lies c.requires.1 c.requires.2 c.table_ranges-ranges.ensures in omega (arith, r.preprocessed, r.preprocessed_end, c.well_formed)

pub offset_bounds-tables-ranges-3 : goal.offset_bounds-tables-ranges-3
offset_bounds-tables-ranges-3 c =
    let r = lies c.requires.1 c.requires.2 c.table_ranges-ranges.ensures in omega (arith, r.public_values, r.public_values_end, c.well_formed)

pub offset_bounds-tables-ranges-4 : goal.offset_bounds-tables-ranges-4
offset_bounds-tables-ranges-4 c =
    let r = lies c.requires.1 c.requires.2 c.table_ranges-ranges.ensures in omega (arith, r.nodes, r.nodes_end, c.well_formed)

pub offset_bounds-tables-ranges-5 : goal.offset_bounds-tables-ranges-5
offset_bounds-tables-ranges-5 c =
    let r = lies c.requires.1 c.requires.2 c.table_ranges-ranges.ensures in omega (arith, r.lookups, r.lookups_end, c.well_formed)

pub offset_bounds-tables-ranges-6 : goal.offset_bounds-tables-ranges-6
offset_bounds-tables-ranges-6 c =
    let r = lies c.requires.1 c.requires.2 c.table_ranges-ranges.ensures in omega (arith, r.tuples, r.tuples_end, c.well_formed)

pub offset_bounds-tables-ranges-7 : goal.offset_bounds-tables-ranges-7
offset_bounds-tables-ranges-7 c =
    let r = lies c.requires.1 c.requires.2 c.table_ranges-ranges.ensures in omega (arith, r.multiplicities, r.multiplicities_end, c.well_formed)

pub offset_bounds-tables-ranges-8 : goal.offset_bounds-tables-ranges-8
offset_bounds-tables-ranges-8 c =
    let r = lies c.requires.1 c.requires.2 c.table_ranges-ranges.ensures in omega (arith, r.flags, r.flags_end, c.well_formed)

pub offset_bounds-tables-ranges-9 : goal.offset_bounds-tables-ranges-9
offset_bounds-tables-ranges-9 c =
    let r = lies c.requires.1 c.requires.2 c.table_ranges-ranges.ensures in omega (arith, r.elements, r.elements_end, c.well_formed)

pub returns : goal.returns
returns c =
    verdict_is _ _ (lies c.requires.1 c.requires.2 c.table_ranges-ranges.ensures) c.shape_of.ensures c.table_verdict.ensures
