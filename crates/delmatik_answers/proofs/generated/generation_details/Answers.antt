use mathlib.Core.Path.{ap, ◌∙◌}
use Rattle.expression.specs.Refusal.{answer_details}
use Rattle.delmatik_answers.specs.laws.Generation.{details_are}
use Rattle.delmatik_answers.proofs.generated.generation_details.Goals as goal

pub returns : goal.returns
returns c = c.details.ensures ∙ ap answer_details c.verdict.ensures ∙ details_are c.args.g
