use Rattle.packing_columns.proofs.LookupListLoops.{write_begins, write_room, write_turn, write_ends, next-part, copied}
use Rattle.packing_columns.specs.inner.LookupLists.{list_parts}
use native.Mathlib.Omega.{arith}
use borrow.Author.Rules.{rules}
use Rattle.packing_columns.proofs.lookup_lists.write_list.Goals as goal

pub loop-t-init : goal.loop-t-init
unfolding list_parts
loop-t-init g c = (write_begins c.requires.3, search rules)

pub overflow_sub-new_end : goal.overflow_sub-new_end
overflow_sub-new_end g c =
    (next-part c.args.list c.args.lookups.now c.args.tuples.now c.args.order.now c.args.src.now _ c.requires.1 c.requires.2 (search rules) c.to_usize-i.ensures.0 c.list_start-start.ensures.0 c.list_start-next.ensures.0).le

pub slice_bounds-copy-count : goal.slice_bounds-copy-count
slice_bounds-copy-count g c =
    (next-part c.args.list c.args.lookups.now c.args.tuples.now c.args.order.now c.args.src.now _ c.requires.1 c.requires.2 (search rules) c.to_usize-i.ensures.0 c.list_start-start.ensures.0 c.list_start-next.ensures.0).le

pub slice_bounds-copy-start : goal.slice_bounds-copy-start
slice_bounds-copy-start g c =
    (next-part c.args.list c.args.lookups.now c.args.tuples.now c.args.order.now c.args.src.now _ c.requires.1 c.requires.2 (search rules) c.to_usize-i.ensures.0 c.list_start-start.ensures.0 c.list_start-next.ensures.0).le

pub slice_bounds-copy-end : goal.slice_bounds-copy-end
slice_bounds-copy-end g c =
    (next-part c.args.list c.args.lookups.now c.args.tuples.now c.args.order.now c.args.src.now _ c.requires.1 c.requires.2 (search rules) c.to_usize-i.ensures.0 c.list_start-start.ensures.0 c.list_start-next.ensures.0).in_list

pub slice_bounds-copy-end-in-loop-t : goal.slice_bounds-copy-end-in-loop-t
slice_bounds-copy-end-in-loop-t g c =
    write_room _ c.loop-t.invariant.0 (search rules) (next-part c.args.list c.args.lookups.now c.args.tuples.now c.args.order.now c.args.src.now _ c.requires.1 c.requires.2 (search rules) c.to_usize-i.ensures.0 c.list_start-start.ensures.0 c.list_start-next.ensures.0).long

pub overflow_add-new_end : goal.overflow_add-new_end
overflow_add-new_end g c =
    omega (arith, c.loop-t.invariant.1, c.list_start-next.ensures.1, c.requires.1.short)

pub offset_bounds-src-start : goal.offset_bounds-src-start
offset_bounds-src-start g c =
    let next = next-part c.args.list c.args.lookups.now c.args.tuples.now c.args.order.now c.args.src.now _ c.requires.1 c.requires.2 (search rules) c.to_usize-i.ensures.0 c.list_start-start.ensures.0 c.list_start-next.ensures.0 in
    omega (arith, next.le, next.in_list)

pub loop-t-preserved : goal.loop-t-preserved
loop-t-preserved g c = (
  write_turn c.loop-t.invariant.0 (search rules) (next-part c.args.list c.args.lookups.now c.args.tuples.now c.args.order.now c.args.src.now _ c.requires.1 c.requires.2 (search rules) c.to_usize-i.ensures.0 c.list_start-start.ensures.0
      c.list_start-next.ensures.0).long (copied _ _ _ _ _ _ (next-part c.args.list c.args.lookups.now c.args.tuples.now
      c.args.order.now c.args.src.now _ c.requires.1 c.requires.2 (search rules) c.to_usize-i.ensures.0 c.list_start-start.ensures.0 c.list_start-next.ensures.0).is (next-part c.args.list c.args.lookups.now c.args.tuples.now c.args.order.now c.args.src.now _ c.requires.1 c.requires.2 (search rules) c.to_usize-i.ensures.0 c.list_start-start.ensures.0 c.list_start-next.ensures.0).long c.copy.ensures),
  omega (arith, c.loop-t.invariant.1, c.list_start-next.ensures.1),
)

pub returns : goal.returns
unfolding list_parts
returns g c = write_ends c.loop-t.invariant.0 (search rules)
