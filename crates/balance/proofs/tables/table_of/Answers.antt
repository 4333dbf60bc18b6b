use Rattle.balance.proofs.TablesLoops.{table_of_loop_begins, table_of_loop_hits, table_of_loop_turn, table_of_loop_ends}
use Rattle.balance.specs.Members.{table_of}
use borrow.Author.Rules.{rules}
use Rattle.balance.proofs.tables.table_of.Goals as goal

pub loop-t-init : goal.loop-t-init
loop-t-init c = table_of_loop_begins

pub returns-then-m-end : goal.returns-then-m-end
unfolding table_of
returns-then-m-end c = table_of_loop_hits c.loop-t.invariant (search rules) c.size-end.ensures.0 c.if-m-end.true

pub loop-t-preserved : goal.loop-t-preserved
loop-t-preserved c = table_of_loop_turn c.loop-t.invariant (search rules) c.size-end.ensures.0 c.size-end.ensures.1 c.if-m-end.false

pub returns : goal.returns
unfolding table_of
returns c = table_of_loop_ends c.loop-t.invariant (search rules)
