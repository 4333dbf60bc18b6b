use Rattle.balance_slots.proofs.ChainsLoops.{hash_loop_begins, hash_loop_turn, hash_loop_ends}
use Rattle.balance_slots.proofs.hash.hash.Goals as goal

pub loop-j-init : goal.loop-j-init
loop-j-init c = hash_loop_begins c.to_u64-point.ensures.1 c.to_u64-factor.ensures.1

pub loop-j-preserved : goal.loop-j-preserved
loop-j-preserved c = hash_loop_turn c.loop-j.invariant c.loop-j-test.true c.to_u64.ensures.1 c.to_u64.ensures.0

pub returns : goal.returns
returns c = hash_loop_ends _ c.loop-j.invariant c.loop-j-test.false c.to_u64-point.ensures.0 c.to_u64-factor.ensures.0
