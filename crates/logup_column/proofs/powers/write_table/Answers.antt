use Rattle.logup_column.specs.laws.Lookup.{element-word}
use Rattle.logup_column.proofs.TableLoops.{table_loop_begins, table_loop_part, table_loop_turn}
use borrow.Author.Rules.{rules}
use Rattle.logup_column.proofs.powers.write_table.Goals as goal

pub loop-i-init : goal.loop-i-init
loop-i-init c = table_loop_begins (search rules) (search rules) c.requires.2 c.requires.3

pub write_powers-requires : goal.write_powers-requires
write_powers-requires c = (
  c.requires.0.modulus,
  c.requires.0.low,
  element-word _ c.requires.1 c.load-beta.ensures,
  table_loop_part c.loop-i.invariant c.loop-i-test.true,
)

pub loop-i-preserved : goal.loop-i-preserved
loop-i-preserved c =
    table_loop_turn _ c.loop-i.invariant c.loop-i-test.true c.load-beta.ensures c.write_powers.ensures
