use Rattle.lookup_buses.proofs.Fits.{lists_yes, lists-uneven, lists_many}
use Rattle.lookup_buses.specs.CheckBusWidths.{lent_bus_tables}
use Rattle.lookup_buses.proofs.check_bus_widths.lists_fit.Goals.{then-sizes-ne0-via-then-sizes-ne0, then-sizes-ne0-via-else-sizes-ne0+then-limits-n}
use Rattle.lookup_buses.proofs.check_bus_widths.lists_fit.Goals as goal

pub returns-then-sizes-ne0 : goal.returns-then-sizes-ne0
returns-then-sizes-ne0 c =
    let l = lent_bus_tables c.args.lookups.now c.args.names.now c.args.tuples.now c.args.sizes.now in
    elim c.then-sizes-ne0.branch [
      | then-sizes-ne0-via-then-sizes-ne0 w ↦ lists-uneven c.args.limits l w.if-sizes-ne0.true
      | then-sizes-ne0-via-else-sizes-ne0+then-limits-n w ↦ lists_many c.args.limits l w.if-sizes-ne0.false w.if-limits-n.true
    ]

pub returns : goal.returns
returns c =
    lists_yes c.args.limits (lent_bus_tables c.args.lookups.now c.args.names.now c.args.tuples.now c.args.sizes.now)
    c.if-sizes-ne0.false c.if-limits-n.false c.part_start.ensures.0 c.part_start-2.ensures.0 c.part_start-3.ensures.0
