use mathlib.Core.Path.{ap}
use Rattle.balance.specs.Balance.{Outcome}
use Rattle.balance.proofs.laws.Balance.{in_numbers_injective}
use Rattle.delmatik.specs.Exports.{exported_balance, exported_verdict}
use Rattle.delmatik.proofs.Answered.{verdict_is}
use Rattle.delmatik.proofs.check_lookups.delmatik_balance.Goals as goal

pub returns : goal.returns
unfolding exported_balance exported_verdict
returns c =
    let o = in_numbers_injective _ _ c.check_lookups-v.ensures in
    let v = verdict_is c.write_answer.ensures (ap (λ (x : Outcome). x.refusal) o) in
    λ i. record { number = (v i).number; details = (v i).details; workspace = (o i).workspace }
