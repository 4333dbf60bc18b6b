use Rattle.std.specs.Prelude.{Err}
use mathlib.Core.Path.{◌≡◌, refl, sym}
use mathlib.Core.Option.{none, some}
use borrow.Author.Rules.{rules}
use Rattle.logup_column.specs.laws.Lookup.{element-word}
use Rattle.expression.specs.Refusal.{refusal}
use Rattle.logup_terms.proofs.EvalRowsLoops.{next_in, row_is}
use Rattle.logup_terms.proofs.eval_row.eval_row.Goals as goal

pub eval_accumulator-requires : goal.eval_accumulator-requires
eval_accumulator-requires c = (
  c.requires.0.field.modulus,
  element-word _ c.requires.2.below c.load-accumulator.ensures,
  c.requires.2.below,
  next_in _ c.requires.2 c.requires.5,
  c.requires.3,
  c.in_ok-sum.ensures.below,
  c.requires.4,
  c.requires.6,
)

pub returns-in_err-sum : goal.returns-in_err-sum
returns-in_err-sum c values h =
    let f = c.in_err-sum.field-0.0 in
    let e : c.from_residual.result ≡ Err f = search rules in
    rw e (row_is _ _ _ _ values _ _ _ _ _ (some f) _ c.requires.5 (sym h) refl c.in_err-sum.ensures refl refl refl refl)

pub returns : goal.returns
returns c values h =
    row_is _ _ _ _ values _ _ _ _ _ none (refusal c.eval_accumulator.result) c.requires.5 (sym h) c.in_ok-sum.ensures.sum≡
    c.in_ok-sum.ensures.verdict≡ c.load-accumulator.ensures refl c.eval_accumulator.ensures refl
