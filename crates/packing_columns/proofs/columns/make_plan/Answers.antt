use Rattle.packing_columns.proofs.PlanLoops.{order_asks, plan_begins, plan_turn, plan_ends}
use mathlib.Core.Path.{refl}
use borrow.Author.Rules.{rules}
use Rattle.packing_columns.proofs.columns.make_plan.Goals as goal

pub loop-k-init : goal.loop-k-init
loop-k-init c = plan_begins c.requires.named.few refl refl

pub next_column-next-requires : goal.next_column-next-requires
next_column-next-requires c = (
  c.requires,
  (order_asks c.args.lookups.now c.args.names.now c.requires.named.few c.order-order.ensures).0,
  (order_asks
      c.args.lookups.now c.args.names.now c.requires.named.few c.order-order.ensures).1 _ c.loop-k-test.true,
)

pub loop-k-preserved : goal.loop-k-preserved
loop-k-preserved c =
    plan_turn c.loop-k.invariant c.order-order.ensures c.next_column-next.ensures refl c.put_column.ensures c.on_bus.ensures

pub returns : goal.returns
returns c = plan_ends c.loop-k.invariant (search rules) c.order-order.ensures
