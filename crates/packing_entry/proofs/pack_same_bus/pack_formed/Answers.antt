use Rattle.packing_entry.proofs.Answers.{same-refusal, accepted_is, roomy, packed_is, refused_is}
use Rattle.lookup.specs.Lookups.{as_lookups, lent_lookups}
use mathlib.Core.Path.{◌≡◌, ◌∙◌}
use Rattle.std.specs.Prelude.{Err}
use borrow.Author.Rules.{rules}
use Rattle.packing_entry.proofs.pack_same_bus.pack_formed.Goals as goal

pub write_all-requires : goal.write_all-requires
write_all-requires c =
    let args = c.args in
    let lent = lent_lookups args.lookups_out.now args.names_out.now args.tuples_out.now args.multiplicities_out.now args.flags_out.now args.elements_out.now in
    let own = as_lookups args.lookups.now in
    roomy args.limit args.nodes.now own lent c.plan_of-plan.ensures c.requires.0.fitting c.requires.2

pub returns-in_err-plan_refusal : goal.returns-in_err-plan_refusal
returns-in_err-plan_refusal c =
    let args = c.args in
    let lent = lent_lookups args.lookups_out.now args.names_out.now args.tuples_out.now args.multiplicities_out.now args.flags_out.now args.elements_out.now in
    let own = as_lookups args.lookups.now in
    let e : c.from_residual.result ≡ Err c.in_err-plan_refusal.field-0.0 = search rules in
    let r = refused_is args.limit args.nodes.now own lent c.plan_of-plan.ensures c.plan_refusal.result (same-refusal
    args.limit args.nodes.now own lent c.plan_of-plan.ensures c.plan_refusal.result c.plan_refusal.ensures) c.in_err-plan_refusal.was in
    (e ∙ r.0, r.1)

pub returns : goal.returns
returns c =
    let args = c.args in
    let lent = lent_lookups args.lookups_out.now args.names_out.now args.tuples_out.now args.multiplicities_out.now args.flags_out.now args.elements_out.now in
    let own = as_lookups args.lookups.now in
    packed_is args.limit args.nodes.now own lent c.plan_of-plan.ensures c.counts_of-counts.ensures (accepted_is args.limit args.nodes.now own lent c.plan_of-plan.ensures c.plan_refusal.result (same-refusal args.limit args.nodes.now own lent c.plan_of-plan.ensures c.plan_refusal.result c.plan_refusal.ensures) c.in_ok-plan_refusal.was) c.write_all.ensures
