use Rattle.logup_rows.proofs.TraceLoops.{starts_at_zero, rows_loop_in, rows_loop_part, rows_loop_now, rows_loop_turn, rows_loop_ends}
use native.Mathlib.Nat.{zero-add}
use native.Mathlib.Omega.{arith}
use mathlib.Core.Path.{refl, sym}
use borrow.Author.Rules.{rules}
use Rattle.logup_rows.proofs.trace.all_rows.Goals as goal

pub loop-r-init : goal.loop-r-init
loop-r-init c =
    starts_at_zero (omega (arith, c.well_formed)) c.requires.2 refl c.requires.4 (omega (arith, c.requires.0.field.modulus.big))

pub slice_bounds-rows-end : goal.slice_bounds-rows-end
slice_bounds-rows-end c = rows_loop_in _ c.loop-r.invariant (omega (arith, c.min-k.ensures, c.loop-r-test.true))

pub rows-progress-requires : goal.rows-progress-requires
rows-progress-requires c = (
  c.requires.0,
  c.requires.1,
  omega (arith, c.min-k.ensures, c.loop-r-test.true),
  c.requires.2,
  c.requires.3,
  rows_loop_part _ c.loop-r.invariant (omega (arith, c.min-k.ensures, c.loop-r-test.true)),
  rows_loop_now c.loop-r.invariant,
)

pub loop-r-preserved : goal.loop-r-preserved
loop-r-preserved c =
    rows_loop_turn _ c.loop-r.invariant (omega (arith, c.min-k.ensures, c.loop-r-test.true)) _ c.rows-progress.result _
    (sym (zero-add _)) c.rows-progress.ensures

pub returns : goal.returns
returns c = rows_loop_ends c.loop-r.invariant (search rules)
