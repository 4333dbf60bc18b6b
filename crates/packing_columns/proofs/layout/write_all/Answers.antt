use Rattle.packing_columns.proofs.LayoutLoops.{names-room, tuples-room, multiplicities-room, flags-room, elements-room}
use Rattle.lookup.specs.Lookups.{as_lookups}
use Rattle.packing_columns.proofs.layout.write_all.Goals as goal

pub write_list-requires : goal.write_list-requires
write_list-requires c =
    (c.requires.numbered.parted, c.requires.numbered.heads, names-room (as_lookups c.args.lookups.now) c.requires.fitting, c.requires.names)

pub write_list-requires-2 : goal.write_list-requires-2
write_list-requires-2 c =
    (c.requires.numbered.parted, c.requires.numbered.order, tuples-room (as_lookups c.args.lookups.now) c.requires.fitting, c.requires.tuples)

pub write_list-requires-3 : goal.write_list-requires-3
write_list-requires-3 c =
    (c.requires.numbered.parted, c.requires.numbered.order, multiplicities-room (as_lookups c.args.lookups.now) c.requires.fitting, c.requires.multiplicities)

pub write_list-requires-4 : goal.write_list-requires-4
write_list-requires-4 c =
    (c.requires.numbered.parted, c.requires.numbered.order, flags-room (as_lookups c.args.lookups.now) c.requires.fitting, c.requires.flags)

pub write_list-requires-5 : goal.write_list-requires-5
write_list-requires-5 c =
    (c.requires.numbered.parted, c.requires.numbered.order, elements-room (as_lookups c.args.lookups.now) c.requires.fitting, c.requires.elements)
