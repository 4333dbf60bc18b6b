use Rattle.expression.specs.Words.{word}
use Rattle.lists.specs.laws.Turns.{Summing}
use Prim.Native.Nat.{◌+◌, ◌*◌}
use Rattle.expression.proofs.words.total_of.Given as goal

abbrev pub invariant-loop-i : goal.invariant-loop-i
invariant-loop-i l = Summing (λ j. word l.s (l.words * j + l.f)) 4294967295 l.n l.i l.sum
