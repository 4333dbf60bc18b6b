use Rattle.lookup_builder.proofs.Finds.{tuples_in, first_in, local_none, local-some}
use native.Mathlib.Omega.{arith}
use Rattle.lookup_builder.proofs.locals.local_verdict.Goals as goal

pub returns-then-tuple_count-eq0 : goal.returns-then-tuple_count-eq0
returns-then-tuple_count-eq0 c =
    local_none c.args.lookups.now c.args.tuples.now c.args.i c.tuple_count.ensures c.if-tuple_count-eq0.true

pub bounds-tuples-tuple_start : goal.bounds-tuples-tuple_start
bounds-tuples-tuple_start c =
    first_in c.args.lookups.now c.args.tuples.now c.args.i c.requires.1 c.requires.2 c.tuple_count.ensures (omega arith) c.tuple_start.ensures.0

pub tuples_verdict-requires : goal.tuples_verdict-requires
tuples_verdict-requires c =
    (c.requires.0, c.requires.1, tuples_in c.args.lookups.now c.args.tuples.now c.args.i c.requires.1 c.requires.2)

pub returns : goal.returns
returns c =
    local-some c.args.lookups.now c.args.tuples.now c.args.i c.tuple_start.ensures.0 c.tuples_verdict.ensures
