use Rattle.lookup_buses.proofs.Finds.{item_is, item-below}
use Rattle.lookup_buses.specs.laws.NoneYet.{none_begins, refused_stops, accepted_turn}
use Rattle.lookup_buses.specs.inner.Requires.{width_option}
use Rattle.lookup_buses.specs.Widths.{tuple_refusal}
use mathlib.Core.Path.{◌∙◌, ap}
use borrow.Author.Rules.{rules}
use Rattle.std.proofs.lemmas.Result.{err_from_is_err_and}
use Rattle.lookup_buses.proofs.lookup_widths.tuples_verdict.Goals as goal

pub loop-width-init : goal.loop-width-init
loop-width-init c = none_begins

pub returns-in_err-tuple_verdict : goal.returns-in_err-tuple_verdict
returns-in_err-tuple_verdict c =
    let p = err_from_is_err_and c.from_residual.result c.from_residual.ensures.1 in
    rw (p.1, p.2) (refused_stops c.loop-width.invariant (item-below c.tuple_start-start.result c.args.tuples.now c.tuple_count.ensures (search rules)) (c.tuple_verdict.ensures ∙ ap (tuple_refusal c.args.i (width_option c.args.expected)) (item_is c.args.lookups.now c.args.tuples.now c.args.i c.loop-width.width-index _ c.tuple_start-start.ensures.0 (search rules))) c.in_err-tuple_verdict.was)

pub loop-width-preserved : goal.loop-width-preserved
loop-width-preserved c = accepted_turn c.loop-width.invariant (c.tuple_verdict.ensures ∙ ap (tuple_refusal c.args.i (width_option c.args.expected)) (item_is c.args.lookups.now c.args.tuples.now c.args.i c.loop-width.width-index _ c.tuple_start-start.ensures.0 (search rules))) c.in_ok-tuple_verdict.was
