use Prim.Native.Nat.{◌-◌}
use Rattle.wire.proofs.Loops.{Decoding}
use Rattle.wire.proofs.words.decode.Given as goal

abbrev pub invariant-loop-i : goal.invariant-loop-i
invariant-loop-i l = Decoding l.bytes l.initial.out l.n l.out l.i
