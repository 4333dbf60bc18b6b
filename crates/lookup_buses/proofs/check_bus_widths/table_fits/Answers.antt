use Rattle.lookup_buses.proofs.Fits.{table_yes, table_no}
use Rattle.lookup.specs.laws.Tested.{lookups-few}
use Rattle.lookup.specs.Lookups.{bus_lookups}
use native.Mathlib.Omega.{arith}
use mathlib.Core.Path.{◌∙◌, sym}
use borrow.Author.Rules.{rules}
use Rattle.lookup_buses.proofs.check_bus_widths.table_fits.Goals as goal

pub returns-then-not-lookups_within : goal.returns-then-not-lookups_within
returns-then-not-lookups_within c = table_no c.args.limits (bus_lookups c.args.lookups.now c.args.names.now c.args.tuples.now) c.lookups_within.ensures c.if-not-lookups_within.true

pub name_start-requires : goal.name_start-requires
name_start-requires c = (search rules, omega (arith, (lookups-few c.args.limits c.args.lookups.now c.args.tuples.now c.requires (sym c.lookups_within.ensures ∙ c.if-not-lookups_within.false)).0))

pub tuple_start-requires : goal.tuple_start-requires
tuple_start-requires c = omega (arith, (lookups-few c.args.limits c.args.lookups.now c.args.tuples.now c.requires (sym c.lookups_within.ensures ∙ c.if-not-lookups_within.false)).0)

pub returns : goal.returns
returns c =
    table_yes c.args.limits (bus_lookups c.args.lookups.now c.args.names.now c.args.tuples.now) c.lookups_within.ensures c.if-not-lookups_within.false c.name_start.ensures.0 c.tuple_start.ensures.0
