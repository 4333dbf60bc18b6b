use Rattle.std.proofs.Common.{◌-◌, ◌≤◌, length}
use Rattle.program_cases.proofs.text.find.Given as goal

abbrev pub invariant-loop-at : goal.invariant-loop-at
invariant-loop-at l = (l.k ≤ l.at) × (l.at ≤ length l.keys)

abbrev pub decreases-loop-at : goal.decreases-loop-at
decreases-loop-at l = length l.keys - l.at
