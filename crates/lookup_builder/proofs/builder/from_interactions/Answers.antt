use Rattle.lookup_builder.specs.FromInteractions.{as_interactions, in_numbers}
use Rattle.lookup_builder.proofs.Answers.{choice_unknown, choices_known}
use Rattle.expression.specs.laws.Tested.{limits_sane}
use mathlib.Core.Path.{ap}
use Rattle.lookup_builder.proofs.builder.from_interactions.Goals as goal

pub returns-then-not-known : goal.returns-then-not-known
returns-then-not-known c =
    let args = c.args in
    ap in_numbers (choice_unknown args.choices args.columns args.nodes.now args.kinds (as_interactions args.interactions.now) args.lookups.now c.known.ensures
    c.if-not-known.true)

pub build_within-requires : goal.build_within-requires
build_within-requires c = rw c.limits_of.ensures (limits_sane _)

pub returns : goal.returns
returns c =
    let args = c.args in
    ap in_numbers (choices_known args.choices args.columns args.nodes.now args.kinds (as_interactions args.interactions.now) args.lookups.now c.known.ensures c.if-not-known.false c.limits_of.ensures c.prime_of.ensures c.build_within.ensures)
