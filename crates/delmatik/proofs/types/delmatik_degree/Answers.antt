use Rattle.std.specs.Prelude.{ℕ, Result}
use mathlib.Core.Path.{ap, ◌∙◌}
use Rattle.lookup_degree.specs.laws.ConstraintDegree.{in_numbers_injective}
use Rattle.delmatik_answers.specs.Refused.{refused}
use Rattle.delmatik_answers.specs.Types.{number_written}
use Rattle.delmatik.specs.Exports.{exported_degree, exported_verdict}
use Rattle.delmatik.proofs.Answered.{verdict_is}
use Rattle.expression.specs.declared.refusal.Refusal.{Refusal}
use Rattle.delmatik.proofs.types.delmatik_degree.Goals as goal

pub returns : goal.returns
unfolding exported_degree exported_verdict
returns c =
    let a = in_numbers_injective _ _ c.constraint_degree-a.ensures in
    let v = verdict_is c.write_answer.ensures (c.verdict.ensures ∙ ap refused a) in
    let lent = c.args.degree.now in
    let written = c.write_number.ensures ∙ ap (λ (x : Result ℕ Refusal). number_written x lent) a in
    λ i. record { number = (v i).number; details = (v i).details; value = written i }
