use Rattle.balance.proofs.RowsLoops.{rows_loop_begins, rows_loop_turn, rows_loop_stops}
use borrow.Author.Rules.{rules}
use Rattle.balance.proofs.rows.accumulate_linked.Goals as goal

pub loop-r-init : goal.loop-r-init
loop-r-init c = rows_loop_begins c.requires.2

pub loop-r-preserved : goal.loop-r-preserved
loop-r-preserved c =
    rows_loop_turn c.loop-r.invariant c.loop-r-test.true c.accumulate_row.ensures c.in_ok-v.was (search rules) (search rules)

pub returns-in_err-v : goal.returns-in_err-v
returns-in_err-v c =
    rw c.from_residual.ensures (rows_loop_stops c.loop-r.invariant c.loop-r-test.true c.accumulate_row.ensures c.in_err-v.was)
