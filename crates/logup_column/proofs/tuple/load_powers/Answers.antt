use Rattle.logup_column.proofs.PowersLoops.{load_loop_begins, load_loop_turn}
use borrow.Author.Rules.{rules}
use Rattle.logup_column.proofs.tuple.load_powers.Goals as goal

pub loop-e-init : goal.loop-e-init
loop-e-init c = load_loop_begins (search rules) c.requires

pub loop-e-preserved : goal.loop-e-preserved
loop-e-preserved c = load_loop_turn c.loop-e.invariant (search rules) c.load-power.ensures
