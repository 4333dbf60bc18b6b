use Rattle.lookup_degree.specs.laws.Rising.{rise_begins, rise_turn, rise_ends}
use Rattle.lookup_buses.specs.CheckBusWidths.{tables_of}
use Rattle.lookup_buses.specs.laws.Tables.{owned}
use Rattle.lookup_buses.specs.Widths.{widest, widest_in_table}
use mathlib.Core.Path.{◌∙◌, ap}
use borrow.Author.Rules.{rules}
use Rattle.lookup_buses.proofs.tables.widest.Goals as goal

pub loop-t-init : goal.loop-t-init
loop-t-init c = rise_begins

pub widest_in_table-requires : goal.widest_in_table-requires
widest_in_table-requires c = owned c.requires c.loop-t-test.true c.table_at-own.ensures

pub loop-t-preserved : goal.loop-t-preserved
loop-t-preserved c =
    rise_turn c.widest_in_table.result c.loop-t.invariant (search rules) c.max-top.ensures (c.widest_in_table.ensures ∙ ap widest_in_table c.table_at-own.ensures)

pub returns : goal.returns
unfolding widest tables_of
returns c = rise_ends c.loop-t.invariant (search rules)
