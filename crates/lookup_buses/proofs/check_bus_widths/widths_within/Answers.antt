use Rattle.lookup_buses.proofs.Fits.{tabled, answer-size, answer_lengths, answer-widest, answer-refused}
use Rattle.lookup_buses.specs.CheckBusWidths.{lent_bus_tables}
use mathlib.Core.Path.{◌∙◌}
use Rattle.std.proofs.lemmas.Result.{err_from_is_err_and}
use Rattle.lookup_buses.proofs.check_bus_widths.widths_within.Goals as goal

pub returns-then-not-all_fit : goal.returns-then-not-all_fit
returns-then-not-all_fit c =
    answer-size c.args.limits (lent_bus_tables c.args.lookups.now c.args.names.now c.args.tuples.now c.args.sizes.now) c.all_fit.ensures c.if-not-all_fit.true

pub returns-then-not-all_agree : goal.returns-then-not-all_agree
returns-then-not-all_agree c =
    answer_lengths c.args.limits (lent_bus_tables c.args.lookups.now c.args.names.now c.args.tuples.now c.args.sizes.now) c.all_fit.ensures c.if-not-all_fit.false c.all_agree.ensures c.if-not-all_agree.true

pub bus_widths-requires : goal.bus_widths-requires
bus_widths-requires c =
    tabled c.args.limits (lent_bus_tables c.args.lookups.now c.args.names.now c.args.tuples.now c.args.sizes.now) c.requires c.all_fit.ensures c.if-not-all_fit.false

pub widest-requires : goal.widest-requires
widest-requires c =
    tabled c.args.limits (lent_bus_tables c.args.lookups.now c.args.names.now c.args.tuples.now c.args.sizes.now) c.requires c.all_fit.ensures c.if-not-all_fit.false

pub returns-in_err-bus_widths : goal.returns-in_err-bus_widths
returns-in_err-bus_widths c =
    let p = err_from_is_err_and c.from_residual.result c.from_residual.ensures.1 in
    rw (p.1, p.2) (answer-refused c.args.limits (lent_bus_tables c.args.lookups.now c.args.names.now c.args.tuples.now c.args.sizes.now) c.all_fit.ensures c.if-not-all_fit.false c.all_agree.ensures c.if-not-all_agree.false c.bus_widths.ensures c.in_err-bus_widths.was)

pub returns : goal.returns
returns c =
    answer-widest c.args.limits (lent_bus_tables c.args.lookups.now c.args.names.now c.args.tuples.now c.args.sizes.now) c.all_fit.ensures c.if-not-all_fit.false c.all_agree.ensures c.if-not-all_agree.false c.bus_widths.ensures c.in_ok-bus_widths.was (c.from.ensures ∙ c.widest.ensures)
