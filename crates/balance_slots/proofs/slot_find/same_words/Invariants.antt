use Rattle.lists.specs.laws.Same.{SameSoFar}
use Rattle.balance_slots.proofs.slot_find.same_words.Given as goal

abbrev pub invariant-loop-i : goal.invariant-loop-i
invariant-loop-i l = SameSoFar l.x l.y l.i
