use Rattle.packing_columns.proofs.LookupListLoops.{Copying}
use Rattle.packing_columns.proofs.lookup_lists.copy.Given as goal

abbrev pub invariant-loop-i : goal.invariant-loop-i
invariant-loop-i g l = Copying l.src l.initial.out l.out l.i
