use native.Mathlib.Omega.{arith}
use mathlib.Core.Path.{refl, ◌∙◌}
use Rattle.logup_terms.proofs.TermsLoops.{exclusive_turn, summed-begins, tuples_loop_begins, tuples_loop_in}
use Rattle.logup_terms.proofs.compute.sum_branches.Goals as goal

pub loop-k-init : goal.loop-k-init
loop-k-init c =
    record {
      walk = tuples_loop_begins c.requires.3 (c.to_usize-n.ensures.0 ∙ c.tuple_count.ensures) c.to_usize-n.ensures.1 (omega arith);
      sums = summed-begins (omega (arith, c.requires.0.modulus.big)) refl refl refl;
    }

pub slice_bounds-denominator-end : goal.slice_bounds-denominator-end
slice_bounds-denominator-end c =
    tuples_loop_in c.loop-k.invariant.walk c.loop-k-test.true c.to_usize.ensures.0

pub loop-k-preserved : goal.loop-k-preserved
loop-k-preserved c =
    exclusive_turn c.requires.0.certificate c.loop-k.invariant c.loop-k-test.true c.value-f.ensures c.value-m.ensures
    c.to_usize.ensures.0 c.denominator-d.ensures.1 c.add_branch-t.ensures
