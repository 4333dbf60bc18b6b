use Rattle.lookup_buses.specs.laws.NoneYet.{NoneYet}
use Rattle.lookup_builder.specs.Building.{local_refusal}
use Rattle.lookup_builder.proofs.locals.locals_verdict.Given as goal

abbrev pub invariant-loop-i : goal.invariant-loop-i
invariant-loop-i l = NoneYet (local_refusal l.lookups l.tuples) l.i
