use Rattle.lookup_degree.proofs.Calls.{exclusive_is}
use Rattle.lookup_degree.proofs.lookups.exclusive_degree.Goals as goal

pub returns : goal.returns
returns c =
    exclusive_is c.args.nodes.now c.args.tuples.now c.args.lookups.now c.args.multiplicities.now c.args.flags.now c.args.i c.tuple_start-first.ensures.0 c.multiplicity_start-start.ensures.0 c.flag_start-flag.ensures.0 c.tuple_count-n.ensures c.flagged_tuples-below.ensures.0 c.flagged_counts-above.ensures c.max.ensures
