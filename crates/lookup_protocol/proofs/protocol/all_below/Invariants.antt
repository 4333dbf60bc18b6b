use Rattle.lookup_protocol.specs.Terminals.{terminal_below}
use Rattle.lists.specs.laws.Turns.{Testing}
use Rattle.lookup_protocol.proofs.protocol.all_below.Given as goal

abbrev pub invariant-loop-i : goal.invariant-loop-i
invariant-loop-i l = Testing (terminal_below l.p l.terminals) l.n l.i l.ok
