use Rattle.delmatik_bytes.specs.laws.Pack.{part-long, part-given}
use mathlib.Core.List.{[], ◌∷◌}
use Prim.Native.Nat.{zero-le}
use Rattle.delmatik_bytes.proofs.pack_same_bus.encode_five.Goals as goal

pub encode-requires : goal.encode-requires
encode-requires c =
    part-long c.args.room.now c.args.lookups_out.now zero-le c.requires.0.first_in c.requires.1.lookups_size

pub encode-requires-2 : goal.encode-requires-2
encode-requires-2 c =
    part-long c.args.room.now c.args.tuples_out.now c.requires.0.second c.requires.0.second_in c.requires.1.tuples_size

pub encode-requires-3 : goal.encode-requires-3
encode-requires-3 c =
    part-long c.args.room.now c.args.multiplicities_out.now c.requires.0.third c.requires.0.third_in c.requires.1.multiplicities_size

pub encode-requires-4 : goal.encode-requires-4
encode-requires-4 c =
    part-long c.args.room.now c.args.flags_out.now c.requires.0.fourth c.requires.0.fourth_in c.requires.1.flags_size

pub encode-requires-5 : goal.encode-requires-5
encode-requires-5 c =
    part-long c.args.room.now c.args.elements_out.now c.requires.0.fifth c.requires.0.fifth_in c.requires.1.elements_size

pub returns : goal.returns
returns c =
    λ i. part-given c.args.room.now c.args.lookups_out.now zero-le c.requires.0.first_in c.requires.1.lookups_size c.encode.ensures i
    ∷ part-given c.args.room.now c.args.tuples_out.now c.requires.0.second c.requires.0.second_in c.requires.1.tuples_size c.encode-2.ensures i
    ∷ part-given c.args.room.now c.args.multiplicities_out.now c.requires.0.third c.requires.0.third_in c.requires.1.multiplicities_size c.encode-3.ensures i
    ∷ part-given c.args.room.now c.args.flags_out.now c.requires.0.fourth c.requires.0.fourth_in c.requires.1.flags_size c.encode-4.ensures i
    ∷ part-given c.args.room.now c.args.elements_out.now c.requires.0.fifth c.requires.0.fifth_in c.requires.1.elements_size c.encode-5.ensures i ∷ []
