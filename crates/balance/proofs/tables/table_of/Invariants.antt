use Rattle.balance.proofs.TablesLoops.{TableOfLoop}
use Rattle.balance.proofs.tables.table_of.Given as goal

abbrev pub invariant-loop-t : goal.invariant-loop-t
invariant-loop-t l = TableOfLoop l.sizes l.m l.n l.t l.end
