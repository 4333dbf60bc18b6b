use Rattle.balance_slots.proofs.ChainsLoops.{link_low, link_is}
use mathlib.Core.Path.{refl}
use native.Mathlib.Omega.{arith}
use Rattle.balance_slots.proofs.link.link.Goals as goal

pub overflow_mul-workspace : goal.overflow_mul-workspace
overflow_mul-workspace c =
    omega (arith, link_low c.requires.0 c.hash-h.ensures.1, c.if-i-gt-MOST_LINKED.false)

pub overflow_add-workspace : goal.overflow_add-workspace
overflow_add-workspace c =
    omega (arith, link_low c.requires.0 c.hash-h.ensures.1, c.if-i-gt-MOST_LINKED.false, c.if-width-gt8.false)

pub returns : goal.returns
returns c =
    link_is c.requires.0 c.requires.1 c.if-width-gt8.false refl c.hash-h.ensures
