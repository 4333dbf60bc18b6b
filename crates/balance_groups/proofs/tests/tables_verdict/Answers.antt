use Rattle.balance_groups.proofs.TestsLoops.{lowest_loop_begins, lowest_loop_turn, lowest_loop_ends}
use Rattle.balance_groups.proofs.tests.tables_verdict.Goals as goal

pub loop-t-init : goal.loop-t-init
loop-t-init c = lowest_loop_begins

pub loop-t-preserved : goal.loop-t-preserved
loop-t-preserved c = lowest_loop_turn c.loop-t.invariant c.loop-t-test.true c.verdict_at-of_table.ensures c.lower-v.ensures

pub returns : goal.returns
returns c = lowest_loop_ends c.loop-t.invariant c.loop-t-test.false
