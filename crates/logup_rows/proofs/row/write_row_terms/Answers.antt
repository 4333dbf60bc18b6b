use Rattle.logup_rows.proofs.RowLoops.{lookups_loop_begins, ms_part, ds_part, lookups_loop_turn, lookups_loop_ends, no_fault, with_fault}
use native.Mathlib.Omega.{arith}
use mathlib.Core.Path.{◌≡◌, refl, ap, ◌∙◌}
use Rattle.lists.specs.Count.{or_else}
use Rattle.expression.specs.Refusal.{refusal}
use Rattle.std.specs.Prelude.{Err}
use Rattle.logup.specs.Rows.{fault_refusal}
use Rattle.logup_column.specs.inner.Kinds.{fault_number}
use Rattle.logup_column.specs.laws.Refusals.{and_refusal}
use borrow.Author.Rules.{rules}
use Rattle.logup_rows.proofs.row.write_row_terms.Goals as goal
use Rattle.logup_rows.proofs.row.write_row_terms.Goals.{in-Err, in_default}

pub loop-i-init : goal.loop-i-init
loop-i-init c =
    lookups_loop_begins c.requires.0.lists (omega (arith, c.well_formed)) (omega (arith, c.well_formed)) refl c.requires.2 c.requires.3

pub lookup_terms-found-requires : goal.lookup_terms-found-requires
lookup_terms-found-requires c = (
  c.requires.0,
  c.requires.1,
  record {
    counted = omega (arith, c.loop-i-test.true, c.loop-i.invariant.count);
    begins = c.loop-i.invariant.stands;
    ends = c.next_starts-end.ensures.0;
    within = c.next_starts-end.ensures.1;
  },
  ms_part c.loop-i.invariant c.next_starts-end.ensures,
  ds_part c.loop-i.invariant c.next_starts-end.ensures,
)

pub loop-i-preserved : goal.loop-i-preserved
loop-i-preserved c =
    let e : refusal c.match-found.verdict ≡ or_else (refusal c.loop-i.verdict) (fault_refusal (fault_number c.lookup_terms-found.result)
    c.args.r c.loop-i.i) = elim c.match-found.branch [
      | in-Err w ↦ ap refusal w.verdict-is ∙ and_refusal c.loop-i.verdict (Err w.refusal_of.result) w.and-verdict.ensures ∙ with_fault _ _ _
          w.in-Err.is w.refusal_of.ensures
      | in_default w ↦ ap refusal w.verdict-is ∙ no_fault _ _ _ (search rules)
    ] in
    lookups_loop_turn c.loop-i.invariant c.next_starts-end.ensures {verdict' = c.match-found.verdict} _ _ c.loop-i-test.true c.lookup_terms-found.ensures e

pub returns : goal.returns
returns c = lookups_loop_ends c.loop-i.invariant (search rules)
