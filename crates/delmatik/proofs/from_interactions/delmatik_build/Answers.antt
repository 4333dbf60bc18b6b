use mathlib.Core.Path.{ap, ◌∙◌}
use Rattle.lookup_builder.specs.FromInteractions.{Outcome}
use Rattle.lookup_builder.proofs.laws.FromInteractions.{in_numbers_injective}
use Rattle.delmatik_answers.specs.Refused.{refused}
use Rattle.delmatik_answers.specs.Types.{number_written}
use Rattle.delmatik.specs.Exports.{exported_building, exported_verdict}
use Rattle.delmatik.proofs.Answered.{verdict_is}
use Rattle.delmatik.proofs.from_interactions.delmatik_build.Goals as goal

pub returns : goal.returns
unfolding exported_building exported_verdict
returns c =
    let lent = c.args.used.now in
    let o = in_numbers_injective _ _ c.from_interactions-a.ensures in
    let v = verdict_is c.write_answer.ensures (c.verdict.ensures ∙ ap (λ (x : Outcome). refused x.answer) o) in
    let written = c.write_built.ensures ∙ ap (λ (x : Outcome). number_written x.answer lent) o in
    λ i. record { number = (v i).number; details = (v i).details; used = written i; lookups = (o i).lookups }
