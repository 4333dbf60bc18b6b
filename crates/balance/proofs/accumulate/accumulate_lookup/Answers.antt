use Rattle.lookup.specs.laws.Sizes.{part-within}
use Rattle.balance.proofs.laws.Accumulate.{starts-within, traces-cut, nodes-cut, member_able, member-entered, table_there, few-rows, start_in}
use Rattle.balance.specs.Tables.{table_sizes, main_count_size, preprocessed_count_size, public_value_count_size, node_count_size}
use Rattle.expression.specs.Node.{node_words}
use Rattle.balance.proofs.accumulate.accumulate_lookup.Goals as goal

pub lookup_starts-starts-requires : goal.lookup_starts-starts-requires
lookup_starts-starts-requires c =
    start_in _ _ c.requires.0 _ c.requires.1

pub slice_bounds-accumulate_rows-end : goal.slice_bounds-accumulate_rows-end
slice_bounds-accumulate_rows-end c =
    part-within table_sizes c.args.tables.now.sizes.now c.args.tables.now.main.now main_count_size 1 _ _ (table_there _ _ c.requires.0 _ c.requires.1 c.table_of-t.ensures) c.requires.0.main c.part_end-main_end.ensures.0

pub slice_bounds-accumulate_rows-end-2 : goal.slice_bounds-accumulate_rows-end-2
slice_bounds-accumulate_rows-end-2 c =
    part-within table_sizes c.args.tables.now.sizes.now c.args.tables.now.preprocessed.now preprocessed_count_size 1 _ _ (table_there _ _ c.requires.0 _ c.requires.1 c.table_of-t.ensures) c.requires.0.preprocessed c.part_end-preprocessed_end.ensures.0

pub slice_bounds-accumulate_rows-end-3 : goal.slice_bounds-accumulate_rows-end-3
slice_bounds-accumulate_rows-end-3 c =
    part-within table_sizes c.args.tables.now.sizes.now c.args.tables.now.public_values.now public_value_count_size 1 _ _ (table_there _ _ c.requires.0 _ c.requires.1 c.table_of-t.ensures) c.requires.0.public_values c.part_end-public_values_end.ensures.0

pub slice_bounds-accumulate_rows-end-4 : goal.slice_bounds-accumulate_rows-end-4
slice_bounds-accumulate_rows-end-4 c =
    part-within table_sizes c.args.tables.now.sizes.now c.args.tables.now.nodes.now node_count_size node_words _ _ (table_there _ _ c.requires.0 _ c.requires.1 c.table_of-t.ensures) c.requires.0.nodes c.part_end-nodes_end.ensures.0

pub accumulate_rows-requires : goal.accumulate_rows-requires
accumulate_rows-requires c = (
  member_able _ _ c.requires.0 _ c.requires.1 (traces-cut _ _ c.requires.0 _ c.requires.1 c.table_of-t.ensures c.shape_of.ensures c.part_start-main_start.ensures.0 c.part_end-main_end.ensures.0 c.part_start-preprocessed_start.ensures.0 c.part_end-preprocessed_end.ensures.0 c.part_start-public_values_start.ensures.0 c.part_end-public_values_end.ensures.0) (nodes-cut _ _ c.requires.0 _ c.requires.1 c.table_of-t.ensures c.part_start-nodes_start.ensures.0 c.part_end-nodes_end.ensures.0),
  few-rows _ _ c.requires.0 _ c.requires.1 c.table_of-t.ensures c.shape_of.ensures,
  c.requires.2,
  rw c.lookup_starts-starts.ensures (starts-within _ _ c.requires.0 _ c.requires.1),
)

pub returns : goal.returns
returns c =
    member-entered _ _ c.requires.0 _ c.requires.1 _ (traces-cut _ _ c.requires.0 _ c.requires.1 c.table_of-t.ensures c.shape_of.ensures c.part_start-main_start.ensures.0 c.part_end-main_end.ensures.0 c.part_start-preprocessed_start.ensures.0 c.part_end-preprocessed_end.ensures.0 c.part_start-public_values_start.ensures.0 c.part_end-public_values_end.ensures.0) (nodes-cut _ _ c.requires.0 _ c.requires.1 c.table_of-t.ensures
    c.part_start-nodes_start.ensures.0 c.part_end-nodes_end.ensures.0) c.lookup_starts-starts.ensures c.accumulate_rows.ensures
