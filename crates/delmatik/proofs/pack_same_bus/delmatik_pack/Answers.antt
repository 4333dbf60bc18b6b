use mathlib.Core.Path.{ap, ◌∙◌}
use Rattle.packing.specs.PackSameBus.{Outcome}
use Rattle.packing.proofs.laws.PackSameBus.{in_numbers_injective}
use Rattle.delmatik_answers.specs.Refused.{refused}
use Rattle.delmatik_answers.specs.Packing.{packing_used}
use Rattle.delmatik.specs.Exports.{exported_packing, exported_verdict}
use Rattle.delmatik.proofs.Answered.{verdict_is}
use Rattle.delmatik.proofs.pack_same_bus.delmatik_pack.Goals as goal

pub returns : goal.returns
unfolding exported_packing exported_verdict
returns c =
    let o = in_numbers_injective _ _ c.pack_same_bus-a.ensures in
    let v = verdict_is c.write_answer.ensures (c.verdict.ensures ∙ ap (λ (x : Outcome). refused x.answer) o) in
    let lent = c.args.used.now in
    let used = c.write_used.ensures ∙ ap (λ (x : Outcome). packing_used x.answer lent) o in
    λ i. record { number = (v i).number; details = (v i).details; used = used i; lists = (o i).lists }
