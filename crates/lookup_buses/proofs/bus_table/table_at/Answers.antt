use Rattle.std.proofs.Common.{arith}
use Rattle.lookup.specs.Lookups.{bus_lookups, lookup_words}
use Rattle.lookup.specs.Sizes.{table_count}
use Rattle.lookup.specs.laws.Sizes.{part-within, part_is}
use Rattle.lookup_buses.specs.CheckBusWidths.{bus_sizes, lookup_count_size, name_bytes_size, tuple_count_size, table_at}
use Rattle.lookup_buses.proofs.bus_table.table_at.Goals as goal

pub slice_bounds-result-end : goal.slice_bounds-result-end
slice_bounds-result-end c =
    part-within bus_sizes c.args.sizes.now c.args.lookups.now lookup_count_size lookup_words c.args.t (table_count bus_sizes c.args.sizes.now) c.requires.1 c.requires.0.lookups c.span.ensures.end

pub offset_bounds-lookups-span : goal.offset_bounds-lookups-span
offset_bounds-lookups-span c = omega (arith, slice_bounds-result-end c)

pub slice_bounds-result-end-2 : goal.slice_bounds-result-end-2
slice_bounds-result-end-2 c =
    part-within bus_sizes c.args.sizes.now c.args.names.now name_bytes_size 1 c.args.t (table_count bus_sizes c.args.sizes.now) c.requires.1 c.requires.0.names c.span-2.ensures.end

pub slice_bounds-result-end-3 : goal.slice_bounds-result-end-3
slice_bounds-result-end-3 c =
    part-within bus_sizes c.args.sizes.now c.args.tuples.now tuple_count_size 1 c.args.t (table_count bus_sizes c.args.sizes.now) c.requires.1 c.requires.0.tuples c.span-3.ensures.end

pub offset_bounds-tuples-span : goal.offset_bounds-tuples-span
offset_bounds-tuples-span c = omega (arith, slice_bounds-result-end-3 c)

pub returns : goal.returns
unfolding table_at
returns c =
    λ j. bus_lookups (part_is bus_sizes c.args.sizes.now c.args.lookups.now lookup_count_size lookup_words c.args.t c.span.ensures.start c.span.ensures.end j)
    (part_is bus_sizes c.args.sizes.now c.args.names.now name_bytes_size 1 c.args.t c.span-2.ensures.start c.span-2.ensures.end j)
    (part_is bus_sizes c.args.sizes.now c.args.tuples.now tuple_count_size 1 c.args.t c.span-3.ensures.start c.span-3.ensures.end j)
