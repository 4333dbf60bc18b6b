use Rattle.lookup_buses.proofs.Finds.{named, tuples_in, width-local, width_other, width_none, width-first}
use Rattle.lists.specs.Same.{same_list}
use mathlib.Core.Path.{◌∙◌, ap}
use native.Mathlib.Omega.{arith}
use Rattle.lookup_buses.proofs.lookup_widths.width_in_lookup.Goals as goal

pub returns-then-not-on_bus : goal.returns-then-not-on_bus
returns-then-not-on_bus c = width-local _ _ _ _ _ c.on_bus.ensures c.if-not-on_bus.true

pub name_of-requires : goal.name_of-requires
name_of-requires c = (named c.requires.0, c.requires.1)

pub returns-then-not-same_bytes : goal.returns-then-not-same_bytes
returns-then-not-same_bytes c =
    width_other c.args.bus.now c.args.lookups.now c.args.names.now c.args.tuples.now c.args.i c.on_bus.ensures c.if-not-on_bus.false (c.same_bytes.ensures ∙ ap (same_list c.args.bus.now) c.name_of.ensures) c.if-not-same_bytes.true

pub returns-then-tuple_count-eq0 : goal.returns-then-tuple_count-eq0
returns-then-tuple_count-eq0 c =
    width_none c.args.bus.now c.args.lookups.now c.args.names.now c.args.tuples.now c.args.i c.on_bus.ensures c.if-not-on_bus.false (c.same_bytes.ensures ∙ ap (same_list c.args.bus.now) c.name_of.ensures) c.if-not-same_bytes.false c.tuple_count.ensures c.if-tuple_count-eq0.true

pub bounds-tuples-tuple_start : goal.bounds-tuples-tuple_start
bounds-tuples-tuple_start c =
    omega (arith, tuples_in c.args.i c.requires.0 c.requires.1, c.tuple_start.ensures.0, c.tuple_count.ensures)

pub returns : goal.returns
returns c =
    width-first c.args.bus.now c.args.lookups.now c.args.names.now c.args.tuples.now c.args.i c.on_bus.ensures c.if-not-on_bus.false (c.same_bytes.ensures ∙ ap (same_list c.args.bus.now) c.name_of.ensures) c.if-not-same_bytes.false c.tuple_count.ensures (omega arith) c.tuple_start.ensures.0
