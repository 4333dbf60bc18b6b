use Rattle.lists.specs.laws.Turns.{Summing}
use Rattle.lookup.specs.Lookups.{name_length}
use Rattle.lookup.proofs.starts.name_start.Given as goal

abbrev pub invariant-loop-j : goal.invariant-loop-j
invariant-loop-j l = Summing (name_length l.lookups) 4294967295 l.i l.j l.sum
