use mathlib.Core.Path.{refl}
use Rattle.lookup_protocol.proofs.laws.Height.{weight_none, weight-next, weight-all, part_in, part-weights}
use borrow.Author.Rules.{rules}
use Rattle.lookup_protocol.proofs.protocol.height_sum.Goals as goal

pub loop-t-init : goal.loop-t-init
loop-t-init c = weight_none

pub slice_bounds-table_weight-end : goal.slice_bounds-table_weight-end
slice_bounds-table_weight-end c =
    part_in c.requires.lookups_counted.0 c.loop-t.invariant.start (search rules) c.size.ensures.0

pub table_weight-sum-requires : goal.table_weight-sum-requires
table_weight-sum-requires c =
    (part-weights _ _ c.requires.lookups_counted.1 c.loop-t.invariant.start (search rules) c.size.ensures.0 refl, c.requires.heights_len.1 _)

pub loop-t-preserved : goal.loop-t-preserved
loop-t-preserved c =
    weight-next c.requires.lookups_counted.0.few c.loop-t.invariant (search rules) c.size.ensures.0 c.table_weight-sum.ensures

pub returns : goal.returns
returns c = weight-all c.loop-t.invariant (search rules)
