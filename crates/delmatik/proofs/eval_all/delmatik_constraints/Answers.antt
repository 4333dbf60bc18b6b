use mathlib.Core.Path.{ap, ◌∙◌}
use Rattle.logup.specs.Constraints.{verdict_at}
use Rattle.expression.specs.Refusal.{numbers}
use Rattle.delmatik.specs.Exports.{exported_verdict}
use Rattle.delmatik.proofs.Answered.{numbers_are}
use Rattle.delmatik.proofs.eval_all.delmatik_constraints.Goals as goal

pub returns : goal.returns
unfolding exported_verdict
returns c = numbers_are c.write_answer.ensures (c.eval_all-v.ensures ∙ ap numbers (ap (verdict_at _ _ _ _ _ _) c.marked_terminal.ensures))
