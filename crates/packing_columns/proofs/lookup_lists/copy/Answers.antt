use Rattle.packing_columns.proofs.LookupListLoops.{copy_begins, copy_turn, copy_ends}
use Rattle.packing_columns.proofs.lookup_lists.copy.Goals as goal

pub loop-i-init : goal.loop-i-init
loop-i-init g c = copy_begins c.requires

pub loop-i-preserved : goal.loop-i-preserved
loop-i-preserved g c = copy_turn c.loop-i.invariant c.loop-i-test.true c.index-src-i.is

pub returns : goal.returns
returns g c = copy_ends c.loop-i.invariant c.loop-i-test.false c.loop-i.auto.i-end
