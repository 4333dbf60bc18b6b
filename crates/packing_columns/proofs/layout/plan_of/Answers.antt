use Rattle.packing_columns.proofs.LayoutLoops.{degrees_are, ready, layout_is}
use Rattle.lookup.specs.Lookups.{as_lookups}
use Rattle.packing_columns.proofs.layout.plan_of.Goals as goal

pub make_plan-requires : goal.make_plan-requires
make_plan-requires c =
    let args = c.args in
    let own = as_lookups args.lookups.now in
    ready args.limits args.nodes.now own c.requires (degrees_are args.limits args.nodes.now own c.requires c.fill_degrees-low.ensures)

pub returns : goal.returns
returns c =
    let args = c.args in
    let own = as_lookups args.lookups.now in
    layout_is args.limits args.nodes.now own c.requires args.limit (degrees_are args.limits args.nodes.now own c.requires c.fill_degrees-low.ensures) c.tuple_degrees-of_tuples.ensures c.make_plan.ensures
