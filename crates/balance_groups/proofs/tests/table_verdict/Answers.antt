use Rattle.std.proofs.Common.{rules, ◌≡◌, Err}
use Rattle.balance.specs.Refusals.{covered}
use Rattle.balance_groups.specs.inner.Lowest.{one_refusal}
use Rattle.balance_groups.proofs.TestsLoops.{stopped, went_on}
use Rattle.balance_groups.proofs.tests.table_verdict.Goals as goal

pub returns-in_err-table_refusal : goal.returns-in_err-table_refusal
unfolding one_refusal covered
returns-in_err-table_refusal c =
    let e : c.from_residual.result ≡ Err c.in_err-table_refusal.field-0.0 = search rules in
    stopped _ c.in_err-table_refusal.was e c.table_refusal.ensures

pub returns : goal.returns
unfolding one_refusal covered
returns c = went_on c.in_ok-table_refusal.was c.table_refusal.ensures c.rows_verdict.ensures
