use Rattle.packing_entry.proofs.Answers.{held, whole, answer-small, answer-refused, answer_formed}
use Rattle.lookup_degree.specs.Formed.{Formed}
use Rattle.lookup_degree.specs.laws.Formed.{formed}
use Rattle.lookup.specs.Lookups.{as_lookups, lent_lookups}
use Rattle.expression.specs.Refusal.{refusal}
use mathlib.Core.Path.{◌≡◌, ◌∙◌, sym, ap}
use Rattle.std.specs.Prelude.{Err}
use borrow.Author.Rules.{rules}
use Rattle.packing_entry.proofs.pack_same_bus.pack_within.Goals as goal

pub returns-then-not-counts_hold : goal.returns-then-not-counts_hold
returns-then-not-counts_hold c =
    let args = c.args in
    let lent = lent_lookups args.lookups_out.now args.names_out.now args.tuples_out.now args.multiplicities_out.now args.flags_out.now args.elements_out.now in
    let own = as_lookups args.lookups.now in
    answer-small args.limits args.p args.limit args.columns args.nodes.now own lent c.counts_hold.ensures c.if-not-counts_hold.true

pub pack_formed-requires : goal.pack_formed-requires
pack_formed-requires c =
    let args = c.args in
    let lent = lent_lookups args.lookups_out.now args.names_out.now args.tuples_out.now args.multiplicities_out.now args.flags_out.now args.elements_out.now in
    let own = as_lookups args.lookups.now in
    let none_refused = sym c.form_refusal.ensures ∙ ap refusal c.in_ok-form_refusal.was in
    let f : Formed args.limits args.nodes.now own = formed args.limits args.p args.columns args.nodes.now own c.requires none_refused in (
      f,
      whole args.limits args.p args.columns args.nodes.now own c.requires f none_refused,
      held own lent c.counts_hold.ensures c.if-not-counts_hold.false,
    )

pub returns-in_err-form_refusal : goal.returns-in_err-form_refusal
returns-in_err-form_refusal c =
    let args = c.args in
    let lent = lent_lookups args.lookups_out.now args.names_out.now args.tuples_out.now args.multiplicities_out.now args.flags_out.now args.elements_out.now in
    let own = as_lookups args.lookups.now in
    let e : c.from_residual.result ≡ Err c.in_err-form_refusal.field-0.0 = search rules in
    let r = answer-refused args.limits args.p args.limit args.columns args.nodes.now own lent c.counts_hold.ensures c.if-not-counts_hold.false c.form_refusal.ensures c.in_err-form_refusal.was in
    (e ∙ r.0, r.1)

pub returns : goal.returns
returns c =
    let args = c.args in
    let lent = lent_lookups args.lookups_out.now args.names_out.now args.tuples_out.now args.multiplicities_out.now args.flags_out.now args.elements_out.now in
    let own = as_lookups args.lookups.now in
    answer_formed args.limits args.p args.limit args.columns args.nodes.now own lent c.counts_hold.ensures c.if-not-counts_hold.false
    c.form_refusal.ensures c.in_ok-form_refusal.was c.pack_formed.ensures
