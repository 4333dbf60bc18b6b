use Rattle.packing_entry.proofs.Answers.{same-refusal, accepted_is, roomy, packed_is, refused_is}
use Rattle.lookup.specs.Lookups.{Lookups}
use Rattle.wire.specs.inner.Place.{parts, five_ends}
use Rattle.delmatik_bytes.specs.inner.Words.{lookups_in}
use Rattle.delmatik_bytes.proofs.Outcomes.{outcome_is}
use mathlib.Core.Path.{◌≡◌}
use Rattle.std.specs.Prelude.{Err}
use borrow.Author.Rules.{rules}
use Rattle.delmatik_bytes.proofs.pack_same_bus.pack_formed.Goals as goal

pub plan_of-plan-requires : goal.plan_of-plan-requires
plan_of-plan-requires c = c.requires.0

pub counts_of-counts-requires : goal.counts_of-counts-requires
counts_of-counts-requires c = c.plan_of-plan.ensures.numbered

pub plan_refusal-requires : goal.plan_refusal-requires
plan_refusal-requires c = c.requires.1

pub write_in-requires : goal.write_in-requires
write_in-requires c = (roomy _ _ _ _ c.plan_of-plan.ensures c.requires.0.fitting c.requires.3, c.requires.2)

pub returns-in_err-plan_refusal : goal.returns-in_err-plan_refusal
returns-in_err-plan_refusal c =
    let lent : Lookups = lookups_in c.args.names_out.now (parts c.args.room.now 0 (five_ends c.args.ends)) in
    let y = c.plan_of-plan.ensures in
    let e : c.from_residual.result ≡ Err c.in_err-plan_refusal.field-0.0 = search rules in
    rw e (outcome_is (refused_is _ _ _ lent y _ (same-refusal _ _ _ lent y _ c.plan_refusal.ensures) c.in_err-plan_refusal.was))

pub returns : goal.returns
returns c =
    let lent : Lookups = lookups_in c.args.names_out.now (parts c.args.room.now 0 (five_ends c.args.ends)) in
    let y = c.plan_of-plan.ensures in
    let none_refused = accepted_is _ _ _ lent y _ (same-refusal _ _ _ lent y _ c.plan_refusal.ensures) c.in_ok-plan_refusal.was in
    outcome_is (packed_is _ _ _ lent y c.counts_of-counts.ensures none_refused c.write_in.ensures)
