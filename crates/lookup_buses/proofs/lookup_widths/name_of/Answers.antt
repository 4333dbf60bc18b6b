use mathlib.Core.Path.{refl}
use Rattle.lookup.specs.laws.Buses.{name_in, name_is}
use Rattle.lookup_buses.proofs.lookup_widths.name_of.Goals as goal

pub slice_bounds-result-end : goal.slice_bounds-result-end
slice_bounds-result-end c =
    name_in c.args.lookups.now c.args.names.now c.args.i c.requires.0 c.requires.1 c.name_start-start.ensures.0 c.name_length.ensures

pub returns : goal.returns
returns c =
    name_is c.args.lookups.now c.args.names.now c.args.i c.name_start-start.ensures.0 c.name_length.ensures refl
