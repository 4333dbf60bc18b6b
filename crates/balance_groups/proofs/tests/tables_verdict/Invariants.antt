use Rattle.balance.specs.Tables.{as_tables, table_count, table_at}
use Rattle.balance_groups.specs.inner.Lowest.{one_refusal}
use Rattle.balance_groups.proofs.TestsLoops.{LowestLoop}
use Rattle.balance_groups.proofs.tests.tables_verdict.Given as goal

abbrev pub invariant-loop-t : goal.invariant-loop-t
invariant-loop-t l = LowestLoop (λ t. one_refusal l.limits l.p (table_at (as_tables l.tables) t)) (table_count l.tables.sizes.now) l.t l.v
