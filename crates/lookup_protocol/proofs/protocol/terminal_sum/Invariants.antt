use Rattle.field.specs.Ext.{ext_words}
use Rattle.lookup_protocol.proofs.laws.Terminals.{Adding}
use Rattle.lookup_protocol.proofs.protocol.terminal_sum.Given as goal

abbrev pub invariant-loop-i : goal.invariant-loop-i
invariant-loop-i l = Adding l.p l.terminals l.n l.i (ext_words l.sum)
