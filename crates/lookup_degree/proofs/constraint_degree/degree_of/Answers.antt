use Rattle.lookup_degree.proofs.Calls.{degrees_are, degree_of_is}
use Rattle.lookup_degree.specs.laws.Formed.{few}
use Rattle.lookup.specs.Lookups.{as_lookups}
use Rattle.lookup_degree.proofs.constraint_degree.degree_of.Goals as goal

pub lookup_degree-requires : goal.lookup_degree-requires
lookup_degree-requires c =
    few c.args.limits c.args.nodes.now (as_lookups c.args.lookups.now) c.requires.0 c.args.i c.requires.1

pub returns : goal.returns
returns c =
    let args = c.args in
    degree_of_is args.limits args.nodes.now (as_lookups args.lookups.now) args.t args.i c.requires.0 c.requires.1 (degrees_are args.limits args.nodes.now (as_lookups args.lookups.now) args.t c.requires.0 c.requires.2 c.fill_degrees-low.ensures) c.tuple_degrees-of_tuples.ensures c.lookup_degree.ensures
