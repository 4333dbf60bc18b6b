use Rattle.packing_columns.proofs.LookupListLoops.{span_is, start-next}
use Rattle.lists.specs.laws.Turns.{sum-begins, sum_turn}
use native.Mathlib.Omega.{arith}
use borrow.Author.Rules.{rules}
use Rattle.packing_columns.proofs.lookup_lists.list_total.Goals as goal

pub loop-t-init : goal.loop-t-init
loop-t-init c = sum-begins

pub overflow_sub-sum : goal.overflow_sub-sum
overflow_sub-sum c =
    start-next c.args.list c.args.lookups.now c.args.tuples.now c.to_usize-i.result c.list_start-start.ensures.0 c.list_start-next.ensures.0

pub loop-t-preserved : goal.loop-t-preserved
loop-t-preserved c =
    sum_turn _ c.loop-t.invariant (search rules) (omega (arith, c.list_start-next.ensures.1)) (span_is c.args.list c.args.lookups.now c.args.tuples.now c.args.order.now _ c.to_usize-i.ensures.0 c.list_start-start.ensures.0 c.list_start-next.ensures.0)
