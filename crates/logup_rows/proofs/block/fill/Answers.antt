use mathlib.Core.Path.{◌≡◌, refl, sym, ap, ◌∙◌}
use Prim.Native.Nat.{◌+◌, ◌≤◌}
use native.Mathlib.Omega.{arith}
use Rattle.lists.specs.Count.{or_else}
use Rattle.expression.specs.Refusal.{refusal}
use Rattle.logup_column.specs.laws.Refusals.{and_refusal}
use Rattle.logup_column.specs.laws.Values.{vals_are, vals-below, cleared}
use Rattle.logup_rows.proofs.WriteRowLoops.{next-values, nothing_refused}
use Rattle.logup_rows.proofs.FillLoops.{fill_loop_begins, ms_in, ms_part, ds_part, fill_loop_turn, fill_loop_ends}
use borrow.Author.Rules.{rules}
use Rattle.logup_rows.proofs.block.fill.Goals as goal
use Rattle.logup_rows.proofs.block.fill.Goals.{then-is_err, else-is_err}

pub loop-j-init : goal.loop-j-init
loop-j-init c = (
  fill_loop_begins (omega (arith, c.well_formed)) (omega (arith, c.requires.2, c.requires.3)) c.requires.0.lists.fitting.tuples
      c.requires.5 c.requires.6 c.requires.4,
  refl,
  refl,
)

pub slice_bounds-write_pair-end-in-loop-j-2 : goal.slice_bounds-write_pair-end-in-loop-j-2
slice_bounds-write_pair-end-in-loop-j-2 c =
    ms_in c.loop-j.invariant.0 c.min-n.result (omega (arith, c.min-n.ensures, c.loop-j-test.true))

pub write_pair-fault-requires : goal.write_pair-fault-requires
write_pair-fault-requires c =
    let more : c.loop-j.j + c.min-n.result ≤ c.args.k = omega (arith, c.min-n.ensures, c.loop-j-test.true) in (
      c.requires.0,
      vals-below _ _ _ _ c.pair_values.ensures.1 c.requires.1,
      vals-below _ _ _ _ c.pair_values.ensures.3 c.requires.1,
      omega (arith, c.requires.2, c.requires.3, c.loop-j-test.true),
      omega (arith, c.min-n.ensures, c.loop-j-test.true),
      omega (arith, c.min-n.ensures),
      ms_part c.loop-j.invariant.0 c.min-n.result more,
      ds_part c.loop-j.invariant.0 c.min-n.result more,
    )

pub loop-j-preserved : goal.loop-j-preserved
loop-j-preserved c =
    let more : c.loop-j.j + c.min-n.result ≤ c.args.k = omega (arith, c.min-n.ensures, c.loop-j-test.true) in
    let e : refusal c.if-is_err.verdict ≡ or_else (refusal c.loop-j.verdict) (refusal c.write_pair-fault.result) = elim c.if-is_err.branch [
      | then-is_err w ↦ ap refusal w.verdict-is ∙ and_refusal c.loop-j.verdict c.write_pair-fault.result w.and-verdict.ensures
      | else-is_err w ↦ ap refusal w.verdict-is ∙ nothing_refused _ c.write_pair-fault.result (sym c.is_err.ensures.value ∙ w.if-is_err.false)
    ] in (
      fill_loop_turn c.loop-j.invariant.0 c.min-n.result more {verdict' = c.if-is_err.verdict} _ _
          c.write_pair-fault.result (c.write_pair-fault.ensures _ (sym (vals_are _ _ _ _ c.pair_values.ensures.1)) (λ h. next-values _ _ _ _
          c.pair_values.ensures.3 (omega (arith, c.requires.2, more)))) e,
      cleared _ _ _ _ c.pair_values.ensures.1 c.clear.ensures c.requires.1.few,
      cleared _ _ _ _ c.pair_values.ensures.3 c.clear-in-loop-j.ensures c.requires.1.few,
    )

pub returns : goal.returns
returns c = fill_loop_ends c.loop-j.invariant.0 (search rules)
