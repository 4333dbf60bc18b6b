use Rattle.lookup_degree.proofs.Calls.{choice_unknown, choices_known}
use Rattle.lookup_degree.specs.ConstraintDegree.{in_numbers}
use Rattle.lookup.specs.Lookups.{as_lookups}
use Rattle.expression.specs.laws.Tested.{limits_sane}
use mathlib.Core.Path.{ap}
use Rattle.lookup_degree.proofs.constraint_degree.constraint_degree.Goals as goal

pub returns-then-not-known : goal.returns-then-not-known
returns-then-not-known c =
    let args = c.args in
    ap in_numbers (choice_unknown args.choices args.columns args.nodes.now (as_lookups args.lookups.now) args.i args.t c.known.ensures c.if-not-known.true)

pub degree_within-requires : goal.degree_within-requires
degree_within-requires c = rw c.limits_of.ensures (limits_sane _)

pub returns : goal.returns
returns c =
    let args = c.args in
    ap in_numbers (choices_known args.choices args.columns args.nodes.now (as_lookups args.lookups.now) args.i args.t c.known.ensures c.if-not-known.false c.limits_of.ensures c.prime_of.ensures c.degree_within.ensures)
