use borrow.Rule.Slice.PartMut.{put_mid}
use Prim.Native.Nat.{◌-◌}
use mathlib.Core.Path.{ap}
use Rattle.delmatik_bytes.proofs.pack_same_bus.write_at.Goals as goal

pub returns : goal.returns
returns c =
    ap (put_mid c.args.at (c.args.end - c.args.at) c.args.room.now) c.write_list.ensures
