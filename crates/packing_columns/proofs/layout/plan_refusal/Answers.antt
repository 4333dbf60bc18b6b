use mathlib.Core.Path.{◌≡◌, ap, ◌∙◌}
use Rattle.std.specs.Prelude.{Err}
use Rattle.expression.specs.Refusal.{refusal}
use Rattle.packing_columns.proofs.Refusals.{refuse_widths, refuse_over, refuse_none}
use borrow.Author.Rules.{rules}
use Rattle.packing_columns.proofs.layout.plan_refusal.Goals as goal

pub returns-in_err-table_widths : goal.returns-in_err-table_widths
returns-in_err-table_widths c =
    let args = c.args in
    let e : c.from_residual.result ≡ Err c.in_err-table_widths.field-0.0 = search rules in
    ap refusal e ∙ refuse_widths args.over args.lookups.now args.names.now args.tuples.now c.table_widths.ensures c.in_err-table_widths.was

pub returns-then-over : goal.returns-then-over
returns-then-over c =
    let args = c.args in
    refuse_over args.over args.lookups.now args.names.now args.tuples.now c.table_widths.ensures c.in_ok-table_widths.was c.if-over.true

pub returns-else-over : goal.returns-else-over
returns-else-over c =
    let args = c.args in
    refuse_none args.over args.lookups.now args.names.now args.tuples.now c.table_widths.ensures c.in_ok-table_widths.was c.if-over.false
