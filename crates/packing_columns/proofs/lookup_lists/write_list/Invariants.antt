use Rattle.packing_columns.proofs.LookupListLoops.{Writing}
use Rattle.packing_columns.specs.inner.LookupLists.{list_part}
use Prim.Native.Nat.{◌*◌, ◌≤◌}
use Rattle.packing_columns.proofs.lookup_lists.write_list.Given as goal

-- no part has more elements than the starts of the lists allow
abbrev pub invariant-loop-t : goal.invariant-loop-t
invariant-loop-t g l = Writing (list_part l.list l.lookups l.tuples l.src) l.order l.initial.out l.out l.end l.t × (l.end ≤ l.t * 274877906880)
