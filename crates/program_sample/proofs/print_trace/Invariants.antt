use Prim.Native.Nat.{◌≤◌, ◌-◌}
use Rattle.program_sample.proofs.print_trace.Given as goal

abbrev pub invariant-loop-r : goal.invariant-loop-r
invariant-loop-r l = l.r ≤ l.height
