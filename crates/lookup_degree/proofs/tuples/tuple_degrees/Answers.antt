use Rattle.lookup_degree.proofs.Loops.{degreed_begins, degreed_room, degreed_turn}
use Rattle.expression.specs.Words.{word}
use mathlib.Core.Path.{refl}
use native.Mathlib.Omega.{arith}
use borrow.Author.Rules.{rules}
use Rattle.lookup_degree.proofs.tuples.tuple_degrees.Goals as goal

pub loop-j-init : goal.loop-j-init
loop-j-init c = degreed_begins

pub overflow_add-end : goal.overflow_add-end
overflow_add-end c =
    omega (arith, degreed_room {w = word c.args.tuples.now c.loop-j.j} c.loop-j.invariant c.loop-j-test.true refl c.requires.1)

pub slice_bounds-tuple_degree-end : goal.slice_bounds-tuple_degree-end
slice_bounds-tuple_degree-end c =
    degreed_room c.loop-j.invariant c.loop-j-test.true (search rules) c.requires.1

pub offset_bounds-elements-start : goal.offset_bounds-elements-start
offset_bounds-elements-start c =
    omega (arith, degreed_room {w = word c.args.tuples.now c.loop-j.j} c.loop-j.invariant c.loop-j-test.true refl c.requires.1)

pub loop-j-preserved : goal.loop-j-preserved
loop-j-preserved c =
    degreed_turn c.loop-j.invariant (search rules) (search rules) (search rules) c.tuple_degree.ensures
