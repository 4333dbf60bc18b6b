use lib.ListN.{length}
use lib.Dec.{ltb}
use Rattle.expression.specs.Words.{word}
use Rattle.lists.specs.laws.Turns.{Testing}
use Rattle.expression.proofs.words.all_below.Given as goal

abbrev pub invariant-loop-x : goal.invariant-loop-x
invariant-loop-x l = Testing (λ j. ltb (word l.s j) l.n) (length l.s) l.x-index l.ok
