use Rattle.packing_columns.proofs.ColumnsLoops.{weight-le}
use Rattle.packing_columns.specs.inner.Columns.{opened}
use mathlib.Core.Path.{◌∙◌}
use borrow.Author.Rules.{rules}
use Rattle.packing_columns.proofs.columns.opened.Goals as goal

pub returns : goal.returns
unfolding opened
returns c = (
  λ j. record {
    head = c.args.i;
    sum = c.denominator_of-sum.ensures.0 j;
    top = c.top_of-top.ensures.0 j;
    weight = c.weight.ensures j;
    tuples = (c.to_u64.ensures.0 ∙ c.tuple_count.ensures) j;
    multiplicities = (c.to_u64-2.ensures.0 ∙ c.multiplicity_count.ensures) j;
    flags = (c.to_u64-3.ensures.0 ∙ c.flag_count.ensures) j;
  },
  record {
    sum = search rules;
    top = search rules;
    weight = rw c.weight.ensures (weight-le _ _ c.requires.0 c.requires.1);
    tuples = search rules;
    multiplicities = search rules;
    flags = search rules;
  },
)
