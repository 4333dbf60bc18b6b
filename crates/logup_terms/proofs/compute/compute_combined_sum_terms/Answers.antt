use native.Mathlib.Omega.{arith}
use Prim.Native.Nat.{◌<◌, ℕ}
use mathlib.Core.Path.{refl, sym, subst, ◌∙◌}
use Rattle.logup_terms.proofs.TermsLoops.{additive_turn, additive-end, adding_begins, adding_none, tuples_loop_begins, tuples_loop_in}
use borrow.Author.Rules.{rules}
use Rattle.logup_terms.proofs.compute.compute_combined_sum_terms.Goals as goal

pub loop-k-init : goal.loop-k-init
loop-k-init c =
    record {
      walk = tuples_loop_begins c.requires.3 (c.to_usize-n.ensures.0 ∙ c.tuple_count.ensures) c.to_usize-n.ensures.1 (omega arith);
      sums = adding_begins (omega (arith, c.requires.0.modulus.big)) refl refl;
    }

pub slice_bounds-denominator-end : goal.slice_bounds-denominator-end
slice_bounds-denominator-end c =
    tuples_loop_in c.loop-k.invariant.walk c.loop-k-test.true c.to_usize.ensures.0

pub add_term-t-requires : goal.add_term-t-requires
add_term-t-requires c = (
  record { modulus = c.requires.0.modulus; low = c.requires.0.low; certificate = c.requires.0.certificate },
  c.loop-k.invariant.sums.numerator_below,
  c.loop-k.invariant.sums.denominator_below,
  adding_none c.loop-k.invariant.sums,
  subst (λ (n : ℕ). n < c.args.p) (sym c.value-m.ensures) (c.requires.0.below.each _),
  c.denominator-d.ensures.0,
)

pub loop-k-preserved : goal.loop-k-preserved
loop-k-preserved c =
    additive_turn c.requires.0.certificate c.loop-k.invariant c.loop-k-test.true c.value-m.ensures
    c.to_usize.ensures.0 c.denominator-d.ensures.1 c.add_term-t.ensures

pub returns : goal.returns
returns c = additive-end c.loop-k.invariant (search rules)
