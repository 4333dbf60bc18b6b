use native.Mathlib.Omega.{arith}
use Rattle.lookup_builder.specs.FromInteractions.{as_interactions}
use Rattle.lookup_builder.proofs.Answers.{size-refused, fits_asks, answer-refused, answer-built}
use Rattle.std.proofs.lemmas.Result.{err_from_is_err_and}
use Rattle.lookup_builder.proofs.builder.build_within.Goals as goal

pub returns-then-not-building_fits : goal.returns-then-not-building_fits
returns-then-not-building_fits c =
    size-refused c.args.limits c.args.p c.args.columns c.args.nodes.now c.args.kinds (as_interactions c.args.interactions.now) c.args.lookups.now c.building_fits.ensures c.if-not-building_fits.true

pub built_verdict-requires : goal.built_verdict-requires
built_verdict-requires c =
    (c.requires, (fits_asks c.args.limits c.args.p c.args.columns c.args.nodes.now c.args.kinds (as_interactions c.args.interactions.now) c.args.lookups.now c.building_fits.ensures c.requires c.if-not-building_fits.false).0)

pub returns-in_err-built_verdict : goal.returns-in_err-built_verdict
returns-in_err-built_verdict c =
    let p = err_from_is_err_and c.from_residual.result c.from_residual.ensures.1 in
    let r = answer-refused c.args.limits c.args.p c.args.columns c.args.nodes.now c.args.kinds (as_interactions c.args.interactions.now) c.args.lookups.now c.building_fits.ensures c.if-not-building_fits.false c.built_verdict.ensures c.in_err-built_verdict.was in
    (rw (p.1, p.2) r.0, r.1)

pub write_lookups-requires : goal.write_lookups-requires
write_lookups-requires c =
    fits_asks c.args.limits c.args.p c.args.columns c.args.nodes.now c.args.kinds (as_interactions c.args.interactions.now) c.args.lookups.now c.building_fits.ensures c.requires c.if-not-building_fits.false

pub interaction_count-requires : goal.interaction_count-requires
interaction_count-requires c =
    (fits_asks c.args.limits c.args.p c.args.columns c.args.nodes.now c.args.kinds (as_interactions c.args.interactions.now) c.args.lookups.now c.building_fits.ensures c.requires c.if-not-building_fits.false).0.few

pub overflow_mul-result : goal.overflow_mul-result
overflow_mul-result c =
    omega (arith, c.interaction_count.ensures, (fits_asks c.args.limits c.args.p c.args.columns c.args.nodes.now c.args.kinds (as_interactions c.args.interactions.now) c.args.lookups.now c.building_fits.ensures c.requires c.if-not-building_fits.false).0.few)

pub returns : goal.returns
returns c =
    answer-built c.args.limits c.args.p c.args.columns c.args.nodes.now c.args.kinds (as_interactions c.args.interactions.now) c.args.lookups.now c.building_fits.ensures c.if-not-building_fits.false c.built_verdict.ensures c.in_ok-built_verdict.was c.interaction_count.ensures c.write_lookups.ensures
