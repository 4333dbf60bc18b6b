use mathlib.Core.Path.{ap, ◌∙◌}
use Rattle.expression.specs.Refusal.{answer_number}
use Rattle.delmatik_answers.specs.laws.Generation.{number_is}
use Rattle.delmatik_answers.proofs.generated.generation_number.Goals as goal

pub returns : goal.returns
returns c = c.number.ensures ∙ ap answer_number c.verdict.ensures ∙ number_is c.args.g
