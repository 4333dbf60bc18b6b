use Prim.Native.Nat.{◌-◌}
use lib.ListN.{length, get_or}
use Rattle.lists.specs.laws.Writing.{Writing}
use Rattle.wire.specs.Wire.{word_bytes}
use Rattle.wire.proofs.words.encode.Given as goal

abbrev pub invariant-loop-i : goal.invariant-loop-i
invariant-loop-i l = Writing (λ j. word_bytes (get_or l.words j 0)) 4 (length l.words) l.initial.out l.i l.out
