use Rattle.std.proofs.Common.{rules, ◌≡◌, Err}
use Rattle.balance_groups.proofs.CheckLoops.{kind_loop_begins, kind_loop_one, kind_loop_none, kind_loop_stops, kind_loop_ends}
use Rattle.balance_groups.proofs.check.check_kind.Goals as goal
use Rattle.balance_groups.proofs.check.check_kind.Goals.{then-starts_group+in_ok-next, else-starts_group}

pub loop-m-init : goal.loop-m-init
loop-m-init c = kind_loop_begins c.requires.0 c.requires.1

pub loop-m-preserved : goal.loop-m-preserved
loop-m-preserved c =
    elim c.if-starts_group.branch [
      | then-starts_group+in_ok-next w ↦ kind_loop_one c.loop-m.invariant c.loop-m-test.true c.starts_group.ensures w.if-starts_group.true w.check_group.ensures w.in_ok-next.was w.check_group.auto.workspace w.workspace-is w.next-is
      | else-starts_group w ↦ kind_loop_none c.loop-m.invariant c.loop-m-test.true c.starts_group.ensures w.if-starts_group.false w.workspace-is w.next-is
    ]

pub returns-in_err-next : goal.returns-in_err-next
returns-in_err-next c =
    let e : c.from_residual.result ≡ Err c.in_err-next.field-0.0 = search rules in
    kind_loop_stops _ c.loop-m.invariant c.loop-m-test.true c.starts_group.ensures c.if-starts_group.true c.check_group.ensures c.in_err-next.was e

pub returns : goal.returns
returns c = kind_loop_ends c.loop-m.invariant c.loop-m-test.false
