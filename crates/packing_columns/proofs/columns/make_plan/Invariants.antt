use Rattle.packing_columns.proofs.PlanLoops.{Planning}
use Rattle.packing_columns.specs.inner.Columns.{plan_source}
use Rattle.lookup.specs.Lookups.{lookup_count}
use Prim.Native.Nat.{◌-◌}
use Rattle.packing_columns.proofs.columns.make_plan.Given as goal

abbrev pub invariant-loop-k : goal.invariant-loop-k
invariant-loop-k l = Planning (plan_source l.nodes l.degrees l.lookups l.names l.multiplicities l.limit) l.initial.heads l.initial.words l.heads l.words l.over l.columns l.k

abbrev pub decreases-loop-k : goal.decreases-loop-k
decreases-loop-k l = lookup_count l.lookups - l.k
