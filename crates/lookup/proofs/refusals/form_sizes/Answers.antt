use mathlib.Core.Path.{sym}
use Rattle.lookup.specs.Refusals.{form_sizes}
use Rattle.lookup.proofs.TestedSizes.{few}
use Rattle.lookup.proofs.refusals.form_sizes.Goals as goal

pub lookups_fit-requires : goal.lookups_fit-requires
lookups_fit-requires c =
    few c.args.lookups.now.records.now c.args.lookups.now.tuples.now c.columns_within.result c.nodes_within.result c.requires c.lookups_within.ensures c.if-columns_within-nodes_within.true

pub returns-then-columns_within-nodes_within : goal.returns-then-columns_within-nodes_within
unfolding form_sizes
returns-then-columns_within-nodes_within c =
    rw (
      sym c.columns_within.ensures,
      sym c.nodes_within.ensures,
      sym c.lookups_within.ensures,
      c.if-columns_within-nodes_within.true,
      c.nodes_fit.ensures,
      c.lookups_fit.ensures,
    )

pub returns-else-columns_within-nodes_within : goal.returns-else-columns_within-nodes_within
unfolding form_sizes
returns-else-columns_within-nodes_within c =
    rw (
      sym c.columns_within.ensures,
      sym c.nodes_within.ensures,
      sym c.lookups_within.ensures,
      c.if-columns_within-nodes_within.false,
    )
