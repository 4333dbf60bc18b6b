use Rattle.balance.proofs.RowsLoops.{front_below}
use Rattle.balance.proofs.rows.accumulate_row.Goals as goal

pub add_tuples-requires : goal.add_tuples-requires
add_tuples-requires c =
    (c.requires.0.modulus, front_below _ _ _ _ c.requires.0 c.row_values.ensures.1, c.requires.2, c.requires.3)
