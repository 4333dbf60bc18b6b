use Rattle.std.proofs.Common.{rules, ◌≡◌, not, ap, sym, ◌∙◌, Ok, Err}
use Rattle.balance.proofs.laws.Whole.{lists_covered, whole}
use Rattle.balance_entry.proofs.DebugUtilLoops.{visited, unfit, refused, nothing, answered}
use Rattle.balance_entry.proofs.debug_util.check_within.Goals as goal

pub returns-then-not-lists_fit : goal.returns-then-not-lists_fit
returns-then-not-lists_fit c = unfit _ _ _ _ c.lists_fit.ensures (ap not c.if-not-lists_fit.true)

pub tables_verdict-requires : goal.tables_verdict-requires
tables_verdict-requires c =
    (c.requires.0, lists_covered _ _ c.requires.0 (sym c.lists_fit.ensures ∙ c.if-not-lists_fit.false))

pub returns-in_err-tables_verdict : goal.returns-in_err-tables_verdict
returns-in_err-tables_verdict c =
    let e : c.from_residual.result ≡ Err c.in_err-tables_verdict.field-0.0 = search rules in
    refused _ _ _ _ c.lists_fit.ensures (ap not c.if-not-lists_fit.false) c.tables_verdict.ensures c.in_err-tables_verdict.was e

pub check_groups-requires : goal.check_groups-requires
check_groups-requires c =
    let passed : c.tables_verdict.result ≡ Ok tt = search rules in
    whole _ _ _ c.requires.0 c.requires.1 (nothing _ _ _ c.args.workspace.now c.lists_fit.ensures (ap not c.if-not-lists_fit.false) c.tables_verdict.ensures passed)

pub returns-in-Ok : goal.returns-in-Ok
returns-in-Ok c =
    let passed : c.tables_verdict.result ≡ Ok tt = search rules in
    answered _ _ _ _ c.requires.0 c.requires.1 (nothing _ _ _ c.args.workspace.now c.lists_fit.ensures (ap not c.if-not-lists_fit.false) c.tables_verdict.ensures passed) (visited _ c.in-Ok.is c.check_groups.ensures)

pub returns-in-Err : goal.returns-in-Err
returns-in-Err c =
    let passed : c.tables_verdict.result ≡ Ok tt = search rules in
    answered _ _ _ _ c.requires.0 c.requires.1 (nothing _ _ _ c.args.workspace.now c.lists_fit.ensures (ap not c.if-not-lists_fit.false) c.tables_verdict.ensures passed) (visited _ c.in-Err.is c.check_groups.ensures)
