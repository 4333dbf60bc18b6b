use Rattle.balance_slots.proofs.SlotsLoops.{put_slot_loop_begins, put_slot_loop_turn, put_slot_loop_ends}
use borrow.Author.Rules.{rules}
use Rattle.balance_slots.proofs.slot.put_slot.Goals as goal

pub loop-j-init : goal.loop-j-init
loop-j-init c = put_slot_loop_begins c.args.out.now (search rules) (search rules)

pub loop-j-preserved : goal.loop-j-preserved
loop-j-preserved c = put_slot_loop_turn c.loop-j.invariant (search rules) c.word_at.ensures

pub returns : goal.returns
returns c = put_slot_loop_ends _ c.loop-j.invariant (search rules)
