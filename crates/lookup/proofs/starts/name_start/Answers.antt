use Rattle.lists.specs.laws.Turns.{sum-begins, sum_turn, sum-ends}
use Rattle.lookup.specs.Lookups.{name_start}
use native.Mathlib.Omega.{arith}
use borrow.Author.Rules.{rules}
use Rattle.lookup.proofs.starts.name_start.Goals as goal

pub loop-j-init : goal.loop-j-init
loop-j-init c = sum-begins

pub loop-j-preserved : goal.loop-j-preserved
loop-j-preserved c = sum_turn c.name_length.result c.loop-j.invariant (search rules) (search rules) c.name_length.ensures

pub returns : goal.returns
unfolding name_start
returns c = (sum-ends c.loop-j.invariant (search rules), omega (arith, c.loop-j.invariant.small, c.loop-j.invariant.within))
