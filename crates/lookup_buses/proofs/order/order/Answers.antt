use Rattle.lookup.specs.Lookups.{lookup_count}
use Rattle.lookup.specs.Buses.{alone_at, name_at}
use Rattle.lookup_buses.proofs.Loops.{order_is}
use Rattle.lookup_buses.proofs.order.order.Goals as goal

pub returns : goal.returns
returns c =
    order_is (alone_at c.args.packing c.args.lookups.now) (name_at c.args.lookups.now c.args.names.now) (lookup_count c.args.lookups.now) c.places-places.ensures c.arrange.ensures
