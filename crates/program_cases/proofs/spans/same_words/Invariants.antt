use Rattle.std.proofs.Common.{◌-◌, ◌≤◌, length}
use Rattle.program_cases.proofs.spans.same_words.Given as goal

abbrev pub invariant-loop-i : goal.invariant-loop-i
invariant-loop-i l = l.i ≤ length l.x
