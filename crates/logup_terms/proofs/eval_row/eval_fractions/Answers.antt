use Rattle.logup_terms.proofs.EvalRowLoops.{lookups_loop_begins, lookups_loop_turn, lookups_loop_stops, lookups_loop_ends}
use Rattle.logup_column.specs.laws.Lookup.{element-word}
use Rattle.std.specs.Prelude.{Err}
use mathlib.Core.Path.{◌≡◌, refl}
use native.Mathlib.Omega.{arith}
use borrow.Author.Rules.{rules}
use Rattle.logup_terms.proofs.eval_row.eval_fractions.Goals as goal

pub loop-i-init : goal.loop-i-init
loop-i-init c =
    lookups_loop_begins (search rules) (omega (arith, c.requires.0.field.modulus.big)) refl c.requires.3

pub eval_fraction-value-requires : goal.eval_fraction-value-requires
eval_fraction-value-requires c = (
  c.requires.0,
  c.requires.1,
  record {
    counted = omega (arith, c.loop-i-test.true, c.loop-i.invariant.count);
    begins = c.loop-i.invariant.stands;
    ends = c.next_starts-end.ensures.0;
    within = c.next_starts-end.ensures.1;
  },
  element-word _ c.requires.2 c.load-cell.ensures,
)

pub returns-in_err-must_vanish : goal.returns-in_err-must_vanish
returns-in_err-must_vanish c =
    let e : c.from_residual.result ≡ Err c.in_err-must_vanish.field-0.0 = search rules in
    rw e
    (lookups_loop_stops c.loop-i.invariant c.loop-i-test.true c.load-cell.ensures c.eval_fraction-value.ensures
    c.in_err-must_vanish.ensures refl)

pub add-sum-requires : goal.add-sum-requires
add-sum-requires c =
    (c.requires.0.field.modulus, c.loop-i.invariant.word4, element-word _ c.requires.2 c.load-cell.ensures)

pub loop-i-preserved : goal.loop-i-preserved
loop-i-preserved c =
    lookups_loop_turn c.loop-i.invariant c.loop-i-test.true c.load-cell.ensures c.eval_fraction-value.ensures
    c.in_ok-must_vanish.ensures refl c.next_starts-end.ensures.0 c.add-sum.ensures

pub returns : goal.returns
returns c = lookups_loop_ends c.loop-i.invariant (search rules)
