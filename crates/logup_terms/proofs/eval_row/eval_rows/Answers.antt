use Rattle.std.specs.Prelude.{Err}
use mathlib.Core.Path.{◌≡◌, refl, sym}
use native.Mathlib.Omega.{arith}
use borrow.Author.Rules.{rules}
use Rattle.logup.specs.Constraints.{rows_verdict}
use Rattle.logup_column.specs.laws.Values.{vals_are, vals-below, cleared}
use Rattle.logup_terms.proofs.EvalRowsLoops.{rows_loop_begins, rows_loop_turn, rows_loop_stops, rows_loop_ends}
use Rattle.logup_terms.proofs.eval_row.eval_rows.Goals as goal

pub loop-r-init : goal.loop-r-init
loop-r-init c =
    (rows_loop_begins (omega (arith, c.well_formed)) c.requires.2, refl)

pub eval_row-requires : goal.eval_row-requires
eval_row-requires c = (
  c.requires.0,
  vals-below _ _ _ _ c.row_values.ensures.1 c.requires.1,
  c.requires.2,
  c.requires.3,
  c.loop-r-test.true,
  c.loop-r.invariant.0.base≡,
  c.requires.4,
)

pub returns-in_err-eval_row : goal.returns-in_err-eval_row
unfolding rows_verdict
returns-in_err-eval_row c =
    let e : c.from_residual.result ≡ Err c.in_err-eval_row.field-0.0 = search rules in
    rw e
    (rows_loop_stops c.loop-r.invariant.0 _ c.loop-r-test.true (c.in_err-eval_row.ensures _ (sym (vals_are _ _ _ _ c.row_values.ensures.1))))

pub loop-r-preserved : goal.loop-r-preserved
loop-r-preserved c = (
  rows_loop_turn c.loop-r.invariant.0 c.loop-r-test.true (c.in_ok-eval_row.ensures _ (sym (vals_are _ _ _ _ c.row_values.ensures.1))),
  cleared _ _ _ _ c.row_values.ensures.1 c.clear.ensures c.requires.1.few,
)

pub returns : goal.returns
unfolding rows_verdict
returns c = rows_loop_ends c.loop-r.invariant.0 (search rules)
