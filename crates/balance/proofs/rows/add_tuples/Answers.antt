use native.Mathlib.Omega.{arith}
use Rattle.balance.proofs.RowsLoops.{add_tuples_loop_begins, add_tuples_loop_turn, add_tuples_loop_stops, add_tuples_loop_ends, ends_in}
use mathlib.Core.Path.{refl}
use borrow.Author.Rules.{rules}
use Rattle.balance.proofs.rows.add_tuples.Goals as goal

pub loop-k-init : goal.loop-k-init
loop-k-init c =
    add_tuples_loop_begins c.requires.3 c.requires.2 (search rules)

pub overflow_add-end-in-loop-k : goal.overflow_add-end-in-loop-k
overflow_add-end-in-loop-k c =
    omega (
      arith,
      ends_in c.requires.3 c.loop-k-test.true c.loop-k.invariant.here refl,
    )

pub slice_bounds-add_tuple-end : goal.slice_bounds-add_tuple-end
slice_bounds-add_tuple-end c =
    ends_in c.requires.3 c.loop-k-test.true c.loop-k.invariant.here refl

pub offset_bounds-lookups-at : goal.offset_bounds-lookups-at
offset_bounds-lookups-at c =
    omega (
      arith,
      ends_in c.requires.3 c.loop-k-test.true c.loop-k.invariant.here refl,
      c.well_formed,
    )

pub loop-k-preserved : goal.loop-k-preserved
loop-k-preserved c =
    add_tuples_loop_turn c.loop-k.invariant c.loop-k-test.true refl c.entry_count-times.ensures c.add_tuple.ensures c.in_ok-v.was (search
    rules) (search rules)

pub returns-in_err-v : goal.returns-in_err-v
returns-in_err-v c =
    rw c.from_residual.ensures (add_tuples_loop_stops c.loop-k.invariant c.loop-k-test.true refl c.entry_count-times.ensures c.add_tuple.ensures c.in_err-v.was)

pub returns : goal.returns
returns c = add_tuples_loop_ends c.loop-k.invariant c.loop-k-test.false
