use Rattle.std.specs.Prelude.{Err}
use mathlib.Core.Path.{◌≡◌, sym, ap, ap₂, ◌∙◌}
use mathlib.Core.Bool.{Bool, ◌&&◌}
use Prim.Native.Nat.{◌%◌}
use lib.Dec.{eqb}
use lib.ListN.{length}
use borrow.Author.Rules.{rules}
use Rattle.logup_constraints.specs.inner.Refusals.{trace_tests}
use Rattle.logup_column.specs.laws.Refusals.{entry-some, entry_none}
use Rattle.logup_column.specs.laws.Tested.{tested, tested-lookups}
use Rattle.logup_constraints.proofs.Testing.{present_is}
use Rattle.logup_constraints.proofs.eval_all.entry_refusal.Goals as goal

pub trace_refusal-requires : goal.trace_refusal-requires
trace_refusal-requires c = tested-lookups c.requires (tested _ _ _ _ _ (sym c.in_ok-table_refusal.ensures))

pub returns-in_err-table_refusal : goal.returns-in_err-table_refusal
returns-in_err-table_refusal c =
    let f = c.in_err-table_refusal.field-0.0 in
    let e : c.from_residual.result ≡ Err f = search rules in
    rw e
    (entry-some _ _ _ _ _ _ (ap (λ (b : Bool). eqb (length c.args.challenges.now % 4) 0 && b) c.trace_fits.ensures)
    (ap₂ ◌&&◌ c.all_below.ensures (ap₂ ◌&&◌ c.all_below-2.ensures c.terminal_below.ensures)) f c.in_err-table_refusal.ensures)

pub returns : goal.returns
returns c =
    entry_none _ _ _ _ _ _ (ap (λ (b : Bool). eqb (length c.args.challenges.now % 4) 0 && b) c.trace_fits.ensures)
    (ap₂ ◌&&◌ c.all_below.ensures (ap₂ ◌&&◌ c.all_below-2.ensures c.terminal_below.ensures)) c.in_ok-table_refusal.ensures
    (c.trace_refusal.ensures ∙ ap (trace_tests _ _ _ _) (c.is_some.ensures ∙ present_is c.args.terminal))
