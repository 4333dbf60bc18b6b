use mathlib.Core.Path.{ap, ◌∙◌}
use Rattle.delmatik_answers.specs.Count.{count_words}
use Rattle.delmatik.proofs.count.delmatik_count_provided.Goals as goal

pub returns : goal.returns
returns c = c.write_count.ensures ∙ ap count_words c.provided.ensures
