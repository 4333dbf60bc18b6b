use Rattle.balance_groups.proofs.TestsLoops.{lists_yes, lists_no}
use Rattle.balance_groups.proofs.tests.lists_fit.Goals as goal

pub returns-then-not-tables_fit : goal.returns-then-not-tables_fit
returns-then-not-tables_fit c = lists_no _ _ c.if-not-tables_fit.true

pub returns : goal.returns
returns c =
    lists_yes _ _ c.if-not-tables_fit.false c.covers.ensures c.covers-2.ensures c.covers-3.ensures c.covers-4.ensures c.covers-5.ensures c.covers-6.ensures c.covers-7.ensures c.covers-8.ensures c.covers-9.ensures c.covers-10.ensures
