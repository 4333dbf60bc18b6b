use Rattle.lookup_builder.proofs.Sizes.{fits-many, fits_odd, fits-rest}
use Rattle.lookup_builder.proofs.fits.building_fits.Goals as goal

pub returns-then-not-few_kinds : goal.returns-then-not-few_kinds
returns-then-not-few_kinds c =
    fits-many c.args.limits c.args.kinds c.args.interactions.now c.args.weights.now c.args.tuples.now c.args.room c.few_kinds.ensures c.if-not-few_kinds.true

pub returns-then-interactions-n : goal.returns-then-interactions-n
returns-then-interactions-n c =
    fits_odd c.args.limits c.args.kinds c.args.interactions.now c.args.weights.now c.args.tuples.now c.args.room c.few_kinds.ensures c.if-not-few_kinds.false c.interaction_count-n.ensures c.if-interactions-n.true

pub returns : goal.returns
returns c =
    fits-rest c.args.limits c.args.kinds c.args.interactions.now c.args.weights.now c.args.tuples.now c.args.room c.few_kinds.ensures c.if-not-few_kinds.false c.interaction_count-n.ensures c.if-interactions-n.false c.first_tuple.ensures.0 c.globals_single.ensures
