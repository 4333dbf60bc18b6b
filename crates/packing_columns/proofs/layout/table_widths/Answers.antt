use Rattle.packing_columns.proofs.Refusals.{one_tabled, one_refusal}
use mathlib.Core.Path.{◌∙◌}
use Rattle.packing_columns.proofs.layout.table_widths.Goals as goal

pub bus_widths-requires : goal.bus_widths-requires
bus_widths-requires c =
    one_tabled c.args.lookups.now c.args.names.now c.args.tuples.now c.requires

pub returns : goal.returns
returns c =
    c.bus_widths.ensures ∙ one_refusal c.args.lookups.now c.args.names.now c.args.tuples.now c.requires
