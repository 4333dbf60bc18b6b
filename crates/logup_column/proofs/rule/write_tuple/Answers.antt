use Rattle.logup_column.proofs.RuleLoops.{tuple_loop_begins, tuple_loop_turn, tuple_reversed, tuple_as_it_is}
use Rattle.logup_column.proofs.rule.write_tuple.Goals as goal

pub loop-j-init : goal.loop-j-init
loop-j-init c = tuple_loop_begins c.requires

pub loop-j-preserved : goal.loop-j-preserved
loop-j-preserved c = tuple_loop_turn c.loop-j.invariant c.loop-j-test.true

pub returns-then-rule-eq-RULE_2 : goal.returns-then-rule-eq-RULE_2
returns-then-rule-eq-RULE_2 c =
    tuple_reversed c.loop-j.invariant c.loop-j-test.false c.if-rule-eq-RULE_2.true c.reverse.ensures.after

pub returns-else-rule-eq-RULE_2 : goal.returns-else-rule-eq-RULE_2
returns-else-rule-eq-RULE_2 c = tuple_as_it_is c.loop-j.invariant c.loop-j-test.false c.if-rule-eq-RULE_2.false
