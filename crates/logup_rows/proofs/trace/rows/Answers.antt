use Rattle.logup_rows.proofs.TraceLoops.{rows_loop_begins, rows_loop_in, rows_loop_part, rows_loop_turn, part-ends, block_few}
use native.Mathlib.Omega.{arith}
use mathlib.Core.Path.{refl}
use borrow.Author.Rules.{rules}
use Rattle.logup_rows.proofs.trace.rows.Goals as goal

pub loop-j-init : goal.loop-j-init
loop-j-init c =
    rows_loop_begins (omega (arith, c.well_formed)) (omega (arith, c.requires.2, c.requires.3)) refl (omega (arith, c.requires.5)) c.requires.6

pub slice_bounds-block-end : goal.slice_bounds-block-end
slice_bounds-block-end c = rows_loop_in _ c.loop-j.invariant (omega (arith, c.min-n.ensures, c.loop-j-test.true))

pub block-progress-requires : goal.block-progress-requires
block-progress-requires c = (
  c.requires.0,
  c.requires.1,
  omega (arith, c.requires.2, c.min-n.ensures, c.loop-j-test.true),
  c.requires.3,
  rows_loop_part _ c.loop-j.invariant (omega (arith, c.min-n.ensures, c.loop-j-test.true)),
  c.loop-j.invariant.reached,
  block_few _ _ _ (omega (arith, c.min-n.ensures)) c.block_rows-most.ensures.1,
)

pub loop-j-preserved : goal.loop-j-preserved
loop-j-preserved c =
    rows_loop_turn _ c.loop-j.invariant (omega (arith, c.min-n.ensures, c.loop-j-test.true)) _ c.block-progress.result _ refl
    c.block-progress.ensures

pub loop-j-smaller : goal.loop-j-smaller
loop-j-smaller c = omega (arith, c.min-n.ensures, c.loop-j-test.true, c.block_rows-most.ensures.0)

pub returns : goal.returns
returns c =
    part-ends c.loop-j.invariant (search rules) c.requires.5
