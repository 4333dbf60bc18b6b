use Rattle.logup_column.proofs.RuleLoops.{ElementsLoop}
use Rattle.logup_column.proofs.rule.write_elements.Given as goal

abbrev pub invariant-loop-width : goal.invariant-loop-width
invariant-loop-width l = ElementsLoop l.rule l.tuples l.elements l.initial.out l.out l.start l.width-index
