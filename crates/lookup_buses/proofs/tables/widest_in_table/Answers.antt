use Rattle.lookup_degree.specs.laws.Rising.{rise_begins, rise_turn, rise_ends}
use Rattle.lookup_buses.specs.Widths.{widest_in_table}
use borrow.Author.Rules.{rules}
use Rattle.lookup_buses.proofs.tables.widest_in_table.Goals as goal

pub loop-i-init : goal.loop-i-init
loop-i-init c = rise_begins

pub loop-i-preserved : goal.loop-i-preserved
loop-i-preserved c = rise_turn c.widest_in_lookup.result c.loop-i.invariant (search rules) c.max-top.ensures c.widest_in_lookup.ensures

pub returns : goal.returns
unfolding widest_in_table
returns c = rise_ends c.loop-i.invariant (search rules)
