use Rattle.lookup_degree.specs.laws.Rising.{Rising}
use Rattle.lookup.specs.Lookups.{tuple_count, tuple_width}
use Rattle.lookup_buses.proofs.lookup_widths.widest_tuple.Given as goal

abbrev pub invariant-loop-width : goal.invariant-loop-width
invariant-loop-width l = Rising (tuple_width l.lookups l.tuples l.i) (tuple_count l.lookups l.i) l.width-index l.top
