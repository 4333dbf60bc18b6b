use Rattle.packing_columns.proofs.ColumnsLoops.{column_put}
use Rattle.packing_columns.proofs.columns.put_column.Goals as goal

pub returns : goal.returns
returns c =
    column_put c.args.out.now c.args.lookups.now c.args.k c.args.column c.requires.0 c.on_bus.ensures c.from.ensures c.name_length.ensures c.low_half.ensures c.exclusive.ensures c.from-2.ensures c.saturate_u32.ensures c.saturate_u32-2.ensures c.saturate_u32-3.ensures c.high_half.ensures
