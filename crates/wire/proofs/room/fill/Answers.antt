use mathlib.Core.Path.{refl}
use Rattle.wire.specs.laws.Room.{part_placed}
use Rattle.wire.proofs.room.fill.Goals as goal

pub returns : goal.returns
returns c = (refl, part_placed c.args.bytes.now c.args.room.now c.args.at c.requires c.decode.ensures)
