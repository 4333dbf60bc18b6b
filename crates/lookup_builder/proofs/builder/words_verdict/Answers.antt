use Rattle.lookup.specs.Lookups.{as_lookups}
use Rattle.lookup_builder.proofs.Answers.{locals_asks, form_refused, locals-tested}
use Rattle.std.proofs.lemmas.Result.{err_from_is_err_and}
use Rattle.lookup_builder.proofs.builder.words_verdict.Goals as goal

pub locals_verdict-requires : goal.locals_verdict-requires
locals_verdict-requires c =
    locals_asks c.args.limits c.args.p c.args.columns c.args.nodes.now c.args.locals (as_lookups c.args.lookups.now) c.form_refusal.ensures c.requires.0 c.requires.1 c.in_ok-form_refusal.was

pub returns-in_err-form_refusal : goal.returns-in_err-form_refusal
returns-in_err-form_refusal c =
    let p = err_from_is_err_and c.from_residual.result c.from_residual.ensures.1 in
    rw (p.1, p.2) (form_refused c.args.limits c.args.p c.args.columns c.args.nodes.now c.args.locals (as_lookups c.args.lookups.now) c.form_refusal.ensures c.in_err-form_refusal.was)

pub returns : goal.returns
returns c =
    locals-tested c.args.limits c.args.p c.args.columns c.args.nodes.now c.args.locals (as_lookups c.args.lookups.now) c.form_refusal.ensures c.in_ok-form_refusal.was c.locals_verdict.ensures
