use Rattle.packing.specs.PackSameBus.{in_numbers}
use Rattle.expression.specs.laws.Tested.{limits_sane}
use Rattle.packing_entry.proofs.Answers.{choice_unknown, choices_known}
use Rattle.lookup.specs.Lookups.{as_lookups, lent_lookups}
use mathlib.Core.Path.{ap}
use Rattle.packing_entry.proofs.pack_same_bus.pack_same_bus.Goals as goal

pub returns-then-not-known : goal.returns-then-not-known
returns-then-not-known c =
    let args = c.args in
    let lent = lent_lookups args.lookups_out.now args.names_out.now args.tuples_out.now args.multiplicities_out.now args.flags_out.now args.elements_out.now in
    ap in_numbers (choice_unknown args.choices args.limit args.columns args.nodes.now (as_lookups args.lookups.now) lent c.known.ensures c.if-not-known.true)

pub pack_within-requires : goal.pack_within-requires
pack_within-requires c = rw c.limits_of.ensures (limits_sane _)

pub returns : goal.returns
returns c =
    let args = c.args in
    let lent = lent_lookups args.lookups_out.now args.names_out.now args.tuples_out.now args.multiplicities_out.now args.flags_out.now args.elements_out.now in
    ap in_numbers (choices_known args.choices args.limit args.columns args.nodes.now (as_lookups args.lookups.now) lent c.known.ensures c.if-not-known.false c.limits_of.ensures c.prime_of.ensures c.pack_within.ensures)
