use Rattle.logup_rows.proofs.SumLoops.{sum_loop_begins, sum_loop_turn, sum_loop_ends}
use Rattle.field.proofs.laws.Slice.{word-element}
use Rattle.field.specs.Element.{Word4}
use native.Mathlib.Omega.{arith}
use mathlib.Core.Path.{refl, sym, subst}
use borrow.Author.Rules.{rules}
use Rattle.logup_rows.proofs.writing.sum_of.Goals as goal

pub loop-k-init : goal.loop-k-init
loop-k-init c = sum_loop_begins (search rules) c.requires.1 (omega (arith, c.requires.0.modulus.big)) refl

pub add-sum-requires : goal.add-sum-requires
add-sum-requires c = (
  c.requires.0.modulus,
  c.loop-k.invariant.word4,
  subst (Word4 c.args.p) (sym c.load.ensures) (word-element _ _ c.requires.0.below),
)

pub loop-k-preserved : goal.loop-k-preserved
loop-k-preserved c = sum_loop_turn c.loop-k.invariant c.loop-k-test.true c.load.ensures c.add-sum.ensures

pub returns : goal.returns
returns c = sum_loop_ends c.loop-k.invariant (search rules)
