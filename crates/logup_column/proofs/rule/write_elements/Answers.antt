use mathlib.Core.Path.{refl}
use native.Mathlib.Omega.{arith}
use Rattle.logup_column.proofs.RuleLoops.{elements_loop_begins, elements_loop_next, elements_loop_turn, elements_loop_ends}
use borrow.Author.Rules.{rules}
use Rattle.logup_column.proofs.rule.write_elements.Goals as goal

pub loop-width-init : goal.loop-width-init
loop-width-init c = elements_loop_begins c.requires.0 c.requires.1

pub slice_bounds-write_tuple-end : goal.slice_bounds-write_tuple-end
slice_bounds-write_tuple-end c = omega (arith, (elements_loop_next c.loop-width.invariant c.loop-width-test.true).1)

pub loop-width-preserved : goal.loop-width-preserved
loop-width-preserved c =
    elements_loop_turn _ c.loop-width.invariant c.loop-width-test.true refl c.write_tuple.ensures

pub returns : goal.returns
returns c = elements_loop_ends c.loop-width.invariant (search rules)
