use Rattle.lists.specs.laws.Turns.{Summing}
use Rattle.packing_columns.specs.inner.LookupLists.{list_length}
use Rattle.expression.specs.Words.{word}
use lib.ListN.{length}
use Rattle.packing_columns.proofs.lookup_lists.list_total.Given as goal

abbrev pub invariant-loop-t : goal.invariant-loop-t
invariant-loop-t l = Summing (λ t. list_length l.list l.lookups l.tuples (word l.order t)) 274877906880 (length l.order) l.t l.sum
