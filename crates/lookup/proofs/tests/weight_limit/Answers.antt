use mathlib.Core.Path.{sym}
use Rattle.lookup.specs.Tests.{weight_limit}
use Rattle.lookup.proofs.tests.weight_limit.Goals as goal

pub returns-then-on_bus-tuples : goal.returns-then-on_bus-tuples
unfolding weight_limit
returns-then-on_bus-tuples c = rw (sym c.on_bus.ensures, sym c.tuple_count-tuples.ensures, c.if-on_bus-tuples.true)

pub returns : goal.returns
unfolding weight_limit
returns c = rw (sym c.on_bus.ensures, sym c.tuple_count-tuples.ensures, c.if-on_bus-tuples.false, c.from.ensures)
