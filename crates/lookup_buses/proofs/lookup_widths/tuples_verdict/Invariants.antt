use Rattle.lookup_buses.specs.laws.NoneYet.{NoneYet}
use Rattle.lookup.specs.Lookups.{tuple_width}
use Rattle.lookup_buses.specs.Widths.{tuple_refusal}
use Rattle.lookup_buses.specs.inner.Requires.{width_option}
use Rattle.lookup_buses.proofs.lookup_widths.tuples_verdict.Given as goal

abbrev pub invariant-loop-width : goal.invariant-loop-width
invariant-loop-width l = NoneYet (λ k. tuple_refusal l.i (width_option l.expected) (tuple_width l.lookups l.tuples l.i k)) l.width-index
