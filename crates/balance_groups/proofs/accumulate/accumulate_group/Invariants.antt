use Rattle.std.specs.Prelude.{Some}
use Rattle.balance.specs.Tables.{as_tables}
use Rattle.balance_slots.specs.inner.Work.{work}
use Rattle.balance_groups.proofs.AccumulateLoops.{GroupLoop}
use Rattle.balance_groups.proofs.accumulate.accumulate_group.Given as goal

abbrev pub invariant-loop-k : goal.invariant-loop-k
invariant-loop-k l = GroupLoop l.p (as_tables l.tables) l.m (work l.initial.workspace (Some l.initial.v)) l.k l.at l.workspace l.v
