use lib.ListN.{length}
use Rattle.balance.specs.Tables.{as_tables}
use Rattle.balance_groups.specs.inner.Visits.{at_group}
use Rattle.balance_groups.proofs.CheckLoops.{KindLoop}
use Rattle.balance_groups.proofs.check.check_kind.Given as goal

abbrev pub invariant-loop-m : goal.invariant-loop-m
invariant-loop-m l = KindLoop l.p (as_tables l.tables) l.buses (at_group l.initial.workspace l.g) (length l.initial.workspace) l.g l.m l.workspace l.next
