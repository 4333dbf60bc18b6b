use mathlib.Core.Path.{ap, ◌∙◌}
use Rattle.expression.specs.Refusal.{answer_number, answer_details}
use Rattle.logup.specs.Generation.{Outcome}
use Rattle.delmatik_answers.specs.Generation.{generation_number, generation_details, generation_terminal}
use Rattle.delmatik_answers.specs.laws.Generation.{number_is, details_are}
use Rattle.delmatik.specs.Exports.{exported_generation}
use Rattle.delmatik.proofs.generate_permutation.delmatik_generate.Goals as goal

pub returns : goal.returns
unfolding exported_generation
returns c =
    let o = c.generate-g.ensures in
    let g = c.generate-g.result in
    let n = c.write_answer.ensures.0 ∙ ap answer_number c.verdict.ensures ∙ number_is g ∙ ap (λ (x : Outcome). generation_number x.answer) o in
    let d = c.write_answer.ensures.1 ∙ ap answer_details c.verdict.ensures ∙ details_are g ∙ ap (λ (x : Outcome). generation_details x.answer) o in
    let lent = c.args.terminal.now in
    let t = c.write_terminal.ensures ∙ ap (λ (x : Outcome). generation_terminal x.answer lent) o in
    λ i. record { number = n i; details = d i; terminal = t i; trace = (o i).buffer }
