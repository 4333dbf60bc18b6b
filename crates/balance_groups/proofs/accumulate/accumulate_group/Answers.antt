use mathlib.Core.Path.{◌∙◌}
use Rattle.balance.proofs.RowsLoops.{rows-full, used_of}
use Rattle.balance_groups.proofs.AccumulateLoops.{group_loop_begins, group_loop_one, group_loop_none, group_loop_stops, group_loop_ends}
use Rattle.balance_groups.proofs.accumulate.accumulate_group.Goals as goal
use Rattle.balance_groups.proofs.accumulate.accumulate_group.Goals.{then-same_group+in_ok-v, else-same_group}

pub returns-in_err-used : goal.returns-in_err-used
returns-in_err-used c =
    rw c.from_residual.ensures (rows-full _ _ _ c.in_err-used.was)

pub loop-k-init : goal.loop-k-init
loop-k-init c =
    group_loop_begins c.requires.0 (used_of c.in_ok-used.was c.requires.2)

pub loop-k-preserved : goal.loop-k-preserved
loop-k-preserved c =
    elim c.if-same_group.branch [
      | then-same_group+in_ok-v w ↦ group_loop_one c.loop-k.invariant c.loop-k-test.true c.same_group.ensures w.if-same_group.true w.accumulate_lookup.ensures w.in_ok-v.was w.workspace-is w.v-is (c.to_usize-at.ensures.0 ∙ c.name_length.ensures) c.to_usize-at.ensures.1
      | else-same_group w ↦ group_loop_none c.loop-k.invariant c.loop-k-test.true c.same_group.ensures w.if-same_group.false w.workspace-is w.v-is (c.to_usize-at.ensures.0 ∙ c.name_length.ensures) c.to_usize-at.ensures.1
    ]

pub returns-in_err-v : goal.returns-in_err-v
returns-in_err-v c =
    rw (c.from_residual-in_err-v.ensures, c.in_ok-used.was) (group_loop_stops c.loop-k.invariant c.loop-k-test.true c.same_group.ensures c.if-same_group.true c.accumulate_lookup.ensures c.in_err-v.was)

pub returns : goal.returns
returns c =
    rw c.in_ok-used.was (group_loop_ends c.loop-k.invariant c.loop-k-test.false)
