use Rattle.std.specs.Prelude.{Err}
use mathlib.Core.Path.{◌≡◌, refl, ap, ◌∙◌}
use mathlib.Core.List.{List}
use Prim.Native.Nat.{ℕ}
use borrow.Author.Rules.{rules}
use Rattle.field.specs.Ext.{ext_words}
use Rattle.logup_terms.specs.inner.ConstraintRow.{accumulator_verdict}
use Rattle.logup_terms.proofs.EvalRowsLoops.{accumulator_is}
use Rattle.logup_terms.proofs.eval_row.eval_accumulator.Goals as goal

pub returns-in_err-first_row : goal.returns-in_err-first_row
returns-in_err-first_row c =
    let args = c.args in
    let e : c.from_residual.result ≡ Err c.in_err-first_row.field-0.0 = search rules in
    rw e
    (accumulator_is _ _ _ _ _ _ _ c.sub.ensures.1 c.sub-rest.ensures.1 c.in_err-first_row.ensures refl refl refl
    ∙ ap (λ (due : List ℕ). accumulator_verdict args.p (ext_words args.accumulator) due (ext_words args.sum) args.n args.r args.height)
    c.next_accumulator-due.ensures.1)

pub returns : goal.returns
returns c =
    let args = c.args in
    accumulator_is _ _ _ _ _ _ _ c.sub.ensures.1 c.sub-rest.ensures.1 c.in_ok-first_row.ensures
    c.last_place.ensures c.must_vanish.ensures refl
    ∙ ap (λ (due : List ℕ). accumulator_verdict args.p (ext_words args.accumulator) due (ext_words args.sum) args.n args.r args.height)
    c.next_accumulator-due.ensures.1
