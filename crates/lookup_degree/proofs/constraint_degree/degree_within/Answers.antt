use Rattle.lookup_degree.proofs.Calls.{degree-size, degree_asked, degree-given, degree_refused}
use Rattle.lookup_degree.specs.laws.Formed.{formed}
use Rattle.lookup.specs.Lookups.{as_lookups}
use Rattle.expression.specs.Refusal.{refusal}
use Rattle.std.proofs.Common.{Err, rules}
use mathlib.Core.Path.{◌≡◌, ◌∙◌, sym, ap}
use Rattle.lookup_degree.proofs.constraint_degree.degree_within.Goals as goal

pub returns-then-not-t-i : goal.returns-then-not-t-i
returns-then-not-t-i c =
    degree-size c.args.limits c.args.p c.args.columns c.args.nodes.now (as_lookups c.args.lookups.now) c.args.i c.args.t c.if-not-t-i.true

pub degree_of-requires : goal.degree_of-requires
degree_of-requires c =
    let args = c.args in (
      formed args.limits args.p args.columns args.nodes.now (as_lookups args.lookups.now) c.requires (sym c.form_refusal.ensures ∙ ap refusal
          c.in_ok-form_refusal.was),
      (degree_asked args.limits args.p args.columns args.nodes.now (as_lookups args.lookups.now) args.i args.t c.if-not-t-i.false).0,
      (degree_asked args.limits args.p args.columns args.nodes.now (as_lookups args.lookups.now) args.i args.t c.if-not-t-i.false).1,
    )

pub returns : goal.returns
returns c =
    let args = c.args in
    degree-given args.limits args.p args.columns args.nodes.now (as_lookups args.lookups.now) args.i args.t c.if-not-t-i.false c.form_refusal.ensures c.in_ok-form_refusal.was c.degree_of.ensures

pub returns-in_err-form_refusal : goal.returns-in_err-form_refusal
returns-in_err-form_refusal c =
    let args = c.args in
    let e : c.from_residual.result ≡ Err c.in_err-form_refusal.field-0.0 = search rules in
    e ∙ degree_refused args.limits args.p args.columns args.nodes.now (as_lookups args.lookups.now) args.i args.t c.if-not-t-i.false c.form_refusal.ensures c.in_err-form_refusal.was
