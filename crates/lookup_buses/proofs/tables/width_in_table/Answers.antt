use Rattle.lookup_buses.proofs.Finds.{width_stops, width_turn}
use Rattle.lookup_buses.specs.laws.NoneYet.{none_begins, none_ends}
use Rattle.lookup_buses.specs.Widths.{width_in_table}
use mathlib.Core.Path.{◌∙◌, sym}
use borrow.Author.Rules.{rules}
use Rattle.lookup_buses.proofs.tables.width_in_table.Goals as goal

pub loop-i-init : goal.loop-i-init
loop-i-init c = none_begins

pub returns-then-is_some : goal.returns-then-is_some
unfolding width_in_table
returns-then-is_some c =
    width_stops c.width_in_lookup-width.result c.loop-i.invariant (search rules) c.width_in_lookup-width.ensures (sym c.is_some.ensures ∙ c.if-is_some.true)

pub loop-i-preserved : goal.loop-i-preserved
loop-i-preserved c =
    width_turn c.width_in_lookup-width.result c.loop-i.invariant c.width_in_lookup-width.ensures (sym c.is_some.ensures ∙ c.if-is_some.false)

pub returns : goal.returns
unfolding width_in_table
returns c = none_ends c.loop-i.invariant (search rules) (search rules)
