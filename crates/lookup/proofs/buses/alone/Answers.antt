use Rattle.lookup.specs.Buses.{alone_at}
use Rattle.lookup.proofs.SameBus.{alone_is}
use Rattle.lookup.proofs.buses.alone.Goals as goal

pub returns : goal.returns
unfolding alone_at
returns c = rw (c.on_bus.ensures, c.exclusive.ensures) (alone_is c.args.packing _ _)
