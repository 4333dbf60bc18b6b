use Rattle.packing_columns.proofs.LayoutLoops.{counts_are}
use native.Mathlib.Omega.{arith}
use Rattle.packing_columns.proofs.layout.counts_of.Goals as goal

pub slice_bounds-list_total-end : goal.slice_bounds-list_total-end
slice_bounds-list_total-end c = omega (arith, c.requires.heads_room)

pub list_total-requires : goal.list_total-requires
list_total-requires c =
    (c.requires.parted, c.requires.heads)

pub slice_bounds-list_total-end-2 : goal.slice_bounds-list_total-end-2
slice_bounds-list_total-end-2 c = omega (arith, c.requires.order_room)

pub list_total-requires-2 : goal.list_total-requires-2
list_total-requires-2 c =
    (c.requires.parted, c.requires.order)

pub slice_bounds-list_total-end-3 : goal.slice_bounds-list_total-end-3
slice_bounds-list_total-end-3 c = omega (arith, c.requires.order_room)

pub list_total-requires-3 : goal.list_total-requires-3
list_total-requires-3 c =
    (c.requires.parted, c.requires.order)

pub slice_bounds-list_total-end-4 : goal.slice_bounds-list_total-end-4
slice_bounds-list_total-end-4 c =
    omega (arith, c.requires.order_room)

pub list_total-requires-4 : goal.list_total-requires-4
list_total-requires-4 c =
    (c.requires.parted, c.requires.order)

pub slice_bounds-list_total-end-5 : goal.slice_bounds-list_total-end-5
slice_bounds-list_total-end-5 c =
    omega (arith, c.requires.order_room)

pub list_total-requires-5 : goal.list_total-requires-5
list_total-requires-5 c =
    (c.requires.parted, c.requires.order)

pub returns : goal.returns
returns c =
    counts_are c.args.plan c.args.lookups.now c.args.tuples.now c.list_total.ensures c.list_total-2.ensures
    c.list_total-3.ensures c.list_total-4.ensures c.list_total-5.ensures
