use mathlib.Core.Path.{◌≡◌, refl, sym}
use borrow.Author.Rules.{rules}
use Rattle.std.specs.Prelude.{Err}
use Rattle.logup_column.specs.laws.Tested.{tested, tested-height, tested-lookups}
use Rattle.logup_column.specs.laws.Refusals.{entry-some, entry_none, accepted-answer, refused-answer}
use Rattle.logup_generation.proofs.generate_permutation.entry_refusal.Goals as goal

pub trace_refusal-requires : goal.trace_refusal-requires
trace_refusal-requires c =
    let s = tested _ _ _ _ _ (sym (accepted-answer c.in_ok-table_refusal.was c.table_refusal.ensures)) in
    (tested-height c.requires s, tested-lookups c.requires s)

pub returns-in_err-table_refusal : goal.returns-in_err-table_refusal
returns-in_err-table_refusal c =
    let e : c.from_residual.result ≡ Err c.in_err-table_refusal.field-0.0 = search rules in
    rw e (entry-some _ _ _ _ _ _ refl c.all_below.ensures _ (refused-answer _ c.in_err-table_refusal.was
    c.table_refusal.ensures))

pub returns : goal.returns
returns c =
    entry_none _ _ _ _ _ _ refl c.all_below.ensures (accepted-answer c.in_ok-table_refusal.was
    c.table_refusal.ensures) c.trace_refusal.ensures
