use native.Mathlib.Omega.{arith}
use Rattle.lookup_protocol.proofs.laws.Height.{weighed_none, weighed-next, weighed-few, weighed-all}
use borrow.Author.Rules.{rules}
use Rattle.lookup_protocol.proofs.protocol.weight_sum.Goals as goal

pub loop-i-init : goal.loop-i-init
loop-i-init c = weighed_none

pub overflow_add-sum : goal.overflow_add-sum
overflow_add-sum c =
    record { fits = omega (arith, weighed-few c.requires (weighed-next c.requires c.loop-i.invariant (search rules) c.weight-sum.ensures)) }

pub loop-i-preserved : goal.loop-i-preserved
loop-i-preserved c = weighed-next c.requires c.loop-i.invariant (search rules) (search rules)

pub returns : goal.returns
returns c =
    weighed-all c.requires c.loop-i.invariant (search rules)
