use Rattle.lookup_degree.proofs.Calls.{numerator_asks, numerator_is}
use Rattle.lookup_degree.proofs.lookups.numerator_of.Goals as goal

pub numerator-requires : goal.numerator-requires
numerator-requires c =
    numerator_asks c.args.tuples.now c.args.lookups.now c.args.i c.requires c.tuple_start-first.ensures.0 c.multiplicity_start-start.ensures.0 c.tuple_count-n.ensures c.denominator_of-sum.ensures

pub returns : goal.returns
returns c =
    numerator_is c.args.nodes.now c.args.tuples.now c.args.lookups.now c.args.multiplicities.now c.args.i
    c.tuple_start-first.ensures.0 c.multiplicity_start-start.ensures.0 c.tuple_count-n.ensures c.denominator_of-sum.ensures.0 c.numerator.ensures
