use mathlib.Core.Path.{ap, ◌∙◌}
use Rattle.lookup_count.specs.Count.{Outcome}
use Rattle.lookup_count.specs.laws.Count.{in_numbers_injective}
use Rattle.delmatik_answers.specs.Refused.{refused}
use Rattle.delmatik_answers.specs.Count.{counted_words}
use Rattle.delmatik.specs.Exports.{exported_count, exported_verdict}
use Rattle.delmatik.proofs.Answered.{verdict_is}
use Rattle.delmatik.proofs.count.delmatik_count_negated.Goals as goal

pub returns : goal.returns
unfolding exported_count exported_verdict
returns c =
    let lent = c.args.count.now in
    let o = in_numbers_injective _ _ c.negated-a.ensures in
    let v = verdict_is c.write_answer.ensures (c.verdict.ensures ∙ ap (λ (x : Outcome). refused x.answer) o) in
    let written = c.write_counted.ensures ∙ ap (λ (x : Outcome). counted_words x.answer lent) o in
    λ i. record { number = (v i).number; details = (v i).details; count = written i; nodes = (o i).nodes }
