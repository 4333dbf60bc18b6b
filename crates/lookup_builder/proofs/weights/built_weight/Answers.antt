use Rattle.lookup_builder.proofs.Built.{weights_in, weight-local, weight_other}
use Rattle.lookup_builder.proofs.weights.built_weight.Goals as goal

pub slice_bounds-sum_of-end : goal.slice_bounds-sum_of-end
slice_bounds-sum_of-end c = weights_in c.args.kinds c.args.interactions.now c.args.weights.now c.args.i c.requires.0 c.requires.1 c.first_tuple-start.ensures.0 c.tuple_number.ensures

pub slice_bounds-largest_of-end : goal.slice_bounds-largest_of-end
slice_bounds-largest_of-end c = weights_in c.args.kinds c.args.interactions.now c.args.weights.now c.args.i c.requires.0 c.requires.1 c.first_tuple-start.ensures.0 c.tuple_number.ensures

pub returns-then-i-kinds : goal.returns-then-i-kinds
returns-then-i-kinds c =
    weight-local c.args.kinds c.args.interactions.now c.args.weights.now c.args.i c.requires.0 c.requires.1 c.if-i-kinds.true c.first_tuple-start.ensures.0 c.tuple_number.ensures c.sum_of.ensures

pub returns-else-i-kinds : goal.returns-else-i-kinds
returns-else-i-kinds c =
    weight_other c.args.kinds c.args.interactions.now c.args.weights.now c.args.i c.requires.0 c.requires.1 c.if-i-kinds.false c.first_tuple-start.ensures.0 c.tuple_number.ensures c.largest_of.ensures c.from.ensures
