use native.Mathlib.Omega.{arith}
use Prim.Native.Nat.{ℕ, ◌<◌}
use mathlib.Core.Path.{refl, sym, subst}
use Rattle.logup_column.proofs.CombineLoops.{combine_loop_begins, combine_loop_turn, combine_loop_ends, one-fits, power_taken}
use borrow.Author.Rules.{rules}
use Rattle.logup_column.proofs.tuple.combine.Goals as goal

pub loop-j-init : goal.loop-j-init
loop-j-init c = combine_loop_begins c.requires.1 c.requires.2 refl c.none-sum.ensures

pub more-sum-requires : goal.more-sum-requires
more-sum-requires c = (
  c.requires.0.modulus,
  one-fits c.loop-j.invariant (search rules) c.ready.ensures,
  subst (λ (n : ℕ). n < c.args.p) (sym c.value-v.ensures) (c.requires.0.below.each _),
  power_taken c.loop-j.invariant (omega (arith, c.requires.0.modulus.big)) (search rules) c.element.ensures,
)

pub loop-j-preserved : goal.loop-j-preserved
loop-j-preserved c =
    combine_loop_turn c.loop-j.invariant (search rules) c.value-v.ensures c.element.ensures c.ready.ensures
    c.more-sum.ensures

pub returns : goal.returns
returns c = combine_loop_ends c.loop-j.invariant (search rules) c.total.ensures
