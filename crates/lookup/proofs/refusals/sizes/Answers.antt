use mathlib.Core.Path.{sym}
use Rattle.lookup.specs.Tests.{sizes}
use Rattle.lookup.proofs.TestedSizes.{small, few}
use Rattle.lookup.proofs.refusals.sizes.Goals as goal

pub traces_fit-requires : goal.traces_fit-requires
traces_fit-requires c =
    small c.args.table.now.traces.shape c.args.table.now.traces.public_values.now c.nodes_within.result c.lookups_within.result c.requires c.traces_within.ensures c.if-traces_within-nodes_within.true

pub lookups_fit-requires : goal.lookups_fit-requires
lookups_fit-requires c =
    few c.args.table.now.lookups.records.now c.args.table.now.lookups.tuples.now c.traces_within.result c.nodes_within.result c.requires c.lookups_within.ensures c.if-traces_within-nodes_within.true

pub returns-then-traces_within-nodes_within : goal.returns-then-traces_within-nodes_within
unfolding sizes
returns-then-traces_within-nodes_within c =
    rw (
      sym c.traces_within.ensures,
      sym c.nodes_within.ensures,
      sym c.lookups_within.ensures,
      c.if-traces_within-nodes_within.true,
      c.traces_fit.ensures,
      c.nodes_fit.ensures,
      c.lookups_fit.ensures,
    )

pub returns-else-traces_within-nodes_within : goal.returns-else-traces_within-nodes_within
unfolding sizes
returns-else-traces_within-nodes_within c =
    rw (
      sym c.traces_within.ensures,
      sym c.nodes_within.ensures,
      sym c.lookups_within.ensures,
      c.if-traces_within-nodes_within.false,
    )
