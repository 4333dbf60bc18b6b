use mathlib.Core.Path.{ap, ◌∙◌}
use Rattle.lookup_challenges.specs.Prefixes.{Outcome}
use Rattle.delmatik.specs.Exports.{exported_prefixes}
use Rattle.delmatik.proofs.challenges.delmatik_prefixes.Goals as goal

pub returns : goal.returns
unfolding exported_prefixes
returns c =
    let o = c.new-v.ensures in
    let n = c.write_answer.ensures.0 ∙ ap (λ (x : Outcome). x.answer.number) o in
    let d = c.write_answer.ensures.1 ∙ ap (λ (x : Outcome). x.answer.details) o in
    λ i. record { number = n i; details = d i; out = (o i).out }
