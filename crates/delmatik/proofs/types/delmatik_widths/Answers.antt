use Rattle.std.specs.Prelude.{ℕ, Result}
use mathlib.Core.Path.{ap, ◌∙◌}
use Rattle.lookup_buses.specs.laws.CheckBusWidths.{in_numbers_injective}
use Rattle.delmatik_answers.specs.Refused.{refused}
use Rattle.delmatik_answers.specs.Types.{number_written}
use Rattle.delmatik.specs.Exports.{exported_widest, exported_verdict}
use Rattle.delmatik.proofs.Answered.{verdict_is}
use Rattle.expression.specs.declared.refusal.Refusal.{Refusal}
use Rattle.delmatik.proofs.types.delmatik_widths.Goals as goal

pub returns : goal.returns
unfolding exported_widest exported_verdict
returns c =
    let a = in_numbers_injective _ _ c.check_bus_widths-a.ensures in
    let v = verdict_is c.write_answer.ensures (c.verdict.ensures ∙ ap refused a) in
    let lent = c.args.widest.now in
    let written = c.write_number.ensures ∙ ap (λ (x : Result ℕ Refusal). number_written x lent) a in
    λ i. record { number = (v i).number; details = (v i).details; value = written i }
